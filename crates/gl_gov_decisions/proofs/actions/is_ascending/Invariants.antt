use Rattle.std.proofs.Common.{◌≡◌, drop}
use Rattle.gl_gov_rules.specs.Actions.{is_ascending}
use Rattle.gl_gov_decisions.proofs.actions.is_ascending.Given as goal

abbrev pub invariant-loop-i : goal.invariant-loop-i
invariant-loop-i l = is_ascending (drop l.i l.shares) ≡ is_ascending l.shares
