use Rattle.std.proofs.Common.{◌≡◌, ◌++◌, drop}
use Rattle.std.specs.List.{filter_map}
use Rattle.gl_gov_rules.specs.GovernedRows.{settled_row}
use Rattle.gl_gov_rules.proofs.row_changes.push_settled.Given as goal

abbrev pub invariant-loop-row : goal.invariant-loop-row
invariant-loop-row l =
    l.changes.items ++ filter_map settled_row (drop l.row-index l.rows)
    ≡ l.fn.changes.items ++ filter_map settled_row l.rows
