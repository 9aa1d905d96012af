use Rattle.std.proofs.Common.{◌≡◌, drop}
use Rattle.gl_gov_rules.specs.Refusals.{are_numbers_distinct}
use Rattle.gl_gov_decisions.proofs.foundings.are_numbers_distinct.Given as goal

abbrev pub invariant-loop-i : goal.invariant-loop-i
invariant-loop-i l = are_numbers_distinct (drop l.i l.members) ≡ are_numbers_distinct l.members
