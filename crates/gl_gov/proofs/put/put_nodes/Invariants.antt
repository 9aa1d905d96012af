use Rattle.std.proofs.Common.{◌≡◌, ◌≤◌, ◌+◌, length, drop, filter, map}
use Rattle.std.specs.List.{AllByRecursion}
use Rattle.gl_vmaps.specs.Changes.{set_from}
use Rattle.gl_gov_rules.specs.Nodes.{nodes}
use Rattle.gl_gov_rules.specs.Rows.{node_rows_from, node_write}
use Rattle.gl_gov.specs.Touched.{is_selected}
use Rattle.gl_gov.proofs.put.put_nodes.Given as goal

-- what is put and what is left to put make the whole
abbrev pub invariant-loop-i : goal.invariant-loop-i
invariant-loop-i l = record {
  put : set_from l.writes (filter (is_selected l.selection) (map node_write (node_rows_from l.past (l.i + 1) (drop l.i (nodes l.past)))))
      ≡ set_from l.fn.writes (filter (is_selected l.selection) (map node_write (node_rows_from l.past 1 (nodes l.past))));
  rest : AllByRecursion (λ node. length node.node.endorsement ≤ 2508) (drop l.i (nodes l.past));
}
