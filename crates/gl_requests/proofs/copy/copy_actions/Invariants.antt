use Rattle.std.proofs.Common.{◌≡◌, ◌++◌, drop}
use Rattle.gl_requests.proofs.copy.copy_actions.Given as goal

-- what is copied and what is left to copy make the whole
abbrev pub invariant-loop-action : goal.invariant-loop-action
invariant-loop-action l = l.out.items ++ drop l.action-index l.actions ≡ l.actions
