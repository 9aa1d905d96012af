use Rattle.std.proofs.Common.{◌≡◌, ℕ, List, ◌≤◌}
use Rattle.std.specs.FinMap.{empty}
use Rattle.gl_vmaps.specs.Chains.{maps_by, rows_in, newest_place}
use Rattle.gl_vmaps.specs.Journal.{AreNamed, pushed_maps}
use Rattle.gl_vmaps.specs.Rows.{row_writes}
use Rattle.gl_vmaps.proofs.journal.maps_of_rows.Given as goal

abbrev pub invariant-loop-row : goal.invariant-loop-row
invariant-loop-row l = record {
  made : pushed_maps (maps_by l.maps.entries) 0 (row_writes l.row-iterator.rest.items) ≡ pushed_maps empty 0 (row_writes l.fn.rows.items);
  named : AreNamed (maps_by l.maps.entries);
  fresh : (name : List ℕ) → newest_place (rows_in (maps_by l.maps.entries) name) ≤ 0;
}
