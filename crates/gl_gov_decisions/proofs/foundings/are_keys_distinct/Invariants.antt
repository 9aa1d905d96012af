use Rattle.std.proofs.Common.{◌≡◌, drop}
use Rattle.gl_gov_rules.specs.Refusals.{are_keys_distinct}
use Rattle.gl_gov_decisions.proofs.foundings.are_keys_distinct.Given as goal

abbrev pub invariant-loop-i : goal.invariant-loop-i
invariant-loop-i l = are_keys_distinct (drop l.i l.members) ≡ are_keys_distinct l.members
