use Rattle.std.proofs.Common.{◌≡◌, ◌++◌, drop}
use Rattle.std.specs.List.{filter_map}
use Rattle.gl_gov_rules.specs.GovernedRows.{member_removed_by}
use Rattle.gl_gov_rules.proofs.row_changes.push_removed.Given as goal

abbrev pub invariant-loop-row : goal.invariant-loop-row
invariant-loop-row l =
    l.changes.items ++ filter_map member_removed_by (drop l.row-index l.rows)
    ≡ l.fn.changes.items ++ filter_map member_removed_by l.rows
