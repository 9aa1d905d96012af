use Rattle.std.proofs.Common.{◌≡◌, ◌++◌, drop}
use Rattle.std.specs.List.{filter_map}
use Rattle.gl_gov_rules.specs.GovernedRows.{node_removed_by}
use Rattle.gl_gov_rules.proofs.row_changes.push_removals.Given as goal

abbrev pub invariant-loop-row : goal.invariant-loop-row
invariant-loop-row l =
    l.changed.items ++ filter_map (node_removed_by l.base) (drop l.row-index l.rows)
    ≡ l.fn.changed.items ++ filter_map (node_removed_by l.base) l.rows
