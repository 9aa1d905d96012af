use Rattle.std.proofs.Common.{◌≡◌, ◌++◌, ◌+◌, drop}
use Rattle.gl_gov_rules.specs.Rows.{node_rows_from}
use Rattle.gl_gov.proofs.rows.node_rows.Given as goal

abbrev pub invariant-loop-i : goal.invariant-loop-i
invariant-loop-i l = l.rows.items ++ node_rows_from l.past (l.i + 1) (drop l.i l.nodes) ≡ node_rows_from l.past 1 l.nodes
