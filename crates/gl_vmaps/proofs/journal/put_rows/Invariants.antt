use Rattle.gl_vmaps.proofs.RowsUpToLaws.{all_rows, TookMaps}
use Rattle.gl_vmaps.proofs.journal.put_rows.Given as goal

abbrev pub invariant-loop-map : goal.invariant-loop-map
invariant-loop-map g l = TookMaps (λ rows. g.S.RowSink.took l.fn.sink rows l.sink) l.to (all_rows l.to l.maps.entries) l.map-iterator
