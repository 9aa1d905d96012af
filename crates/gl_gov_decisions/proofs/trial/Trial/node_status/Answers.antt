use Rattle.std.proofs.Common.{ap, ◌∙◌}
use Rattle.gl_gov_rules.specs.History.{History}
use Rattle.gl_gov_rules.specs.Nodes.{node_status}
use Rattle.gl_gov_decisions.proofs.Applied.{status}
use Rattle.gl_gov_decisions.proofs.trial.Trial.node_status.Goals as goal

pub returns : goal.returns
returns c =
    c.status_after.ensures
    ∙ rw (c.retire_node-retired.ensures, c.trust_node-trusted.ensures, c.node_status.ensures) (status c.self.inside.past.now c.self.inside.seqno c.self.inside.applied.now c.args.node.now)
    ∙ ap (λ (h : History). node_status h c.args.node.now) c.self.view_is
