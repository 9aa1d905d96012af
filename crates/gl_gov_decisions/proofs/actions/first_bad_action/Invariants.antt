use Rattle.std.proofs.Common.{◌≡◌, ◌+◌, take, drop}
use Rattle.gl_gov_rules.specs.Actions.{first_bad_action}
use Rattle.gl_gov_decisions.specs.Trial.{with_all_applied}
use Rattle.gl_gov_decisions.proofs.actions.first_bad_action.Given as goal

-- the first bad action is among those that are left
abbrev pub invariant-loop-i : goal.invariant-loop-i
invariant-loop-i l =
    first_bad_action (with_all_applied l.past l.seqno (take l.i l.actions)) l.seqno (l.i + 1) (drop l.i l.actions)
    ≡ first_bad_action l.past l.seqno 1 l.actions
