use Rattle.std.proofs.Common.{◌≡◌, drop}
use Rattle.gl_gov_rules.specs.Refusals.{are_ids_distinct}
use Rattle.gl_gov_decisions.proofs.foundings.are_ids_distinct.Given as goal

abbrev pub invariant-loop-i : goal.invariant-loop-i
invariant-loop-i l = are_ids_distinct (drop l.i l.nodes) ≡ are_ids_distinct l.nodes
