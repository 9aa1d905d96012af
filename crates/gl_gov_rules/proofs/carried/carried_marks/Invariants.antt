use Rattle.std.proofs.Common.{◌≡◌, ◌++◌, drop}
use Rattle.std.specs.List.{filter_map}
use Rattle.gl_gov_rules.specs.GovernedRows.{mark_carried}
use Rattle.gl_gov_rules.proofs.carried.carried_marks.Given as goal

abbrev pub invariant-loop-row : goal.invariant-loop-row
invariant-loop-row l =
    l.marks.items ++ filter_map (mark_carried l.seqno) (drop l.row-index l.rows)
    ≡ filter_map (mark_carried l.seqno) l.rows
