use Rattle.std.proofs.Common.{◌≡◌, ◌++◌, drop, map}
use Rattle.gl_requests.specs.declared.action.Action.{Action}
use Rattle.gl_gov_rules.specs.Changes.{changed_at}
use Rattle.gl_gov_rules.specs.declared.change.Change.TheVariants as changes
use Rattle.gl_gov_decisions.proofs.changes.put_actions.Given as goal

abbrev pub invariant-loop-action : goal.invariant-loop-action
invariant-loop-action l =
    l.out.items ++ map (changed_at l.seqno) (map (λ (a : Action). changes.Applied a) (drop l.action-index l.actions))
    ≡ l.fn.out.items ++ map (changed_at l.seqno) (map (λ (a : Action). changes.Applied a) l.actions)
