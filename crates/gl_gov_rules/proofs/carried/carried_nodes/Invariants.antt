use Rattle.std.proofs.Common.{◌≡◌, ◌++◌, drop, map}
use Rattle.gl_gov_rules.specs.GovernedRows.{carried_node}
use Rattle.gl_gov_rules.proofs.carried.carried_nodes.Given as goal

abbrev pub invariant-loop-row : goal.invariant-loop-row
invariant-loop-row l =
    l.nodes.items ++ map carried_node (drop l.row-index l.rows)
    ≡ map carried_node l.rows
