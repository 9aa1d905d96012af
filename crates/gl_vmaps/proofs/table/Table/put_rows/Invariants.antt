use Rattle.std.specs.FinMap.{entries}
use Rattle.gl_vmaps.specs.RowsUpTo.{rows_up_to}
use Rattle.gl_vmaps.proofs.RowsUpToLaws.{TookChains}
use Rattle.gl_vmaps.proofs.table.Table.put_rows.Given as goal

abbrev pub invariant-loop-key : goal.invariant-loop-key
invariant-loop-key g l = TookChains (λ rows. g.S.RowSink.took l.fn.sink rows l.sink) l.to l.map (rows_up_to l.to l.map (entries l.self)) l.key-iterator
