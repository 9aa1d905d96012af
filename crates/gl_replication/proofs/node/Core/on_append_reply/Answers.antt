use Rattle.std.proofs.Common.{sym, ap, subst, map, [], arith, ◌∙◌}
use Rattle.gl_entry.specs.declared.entry.Entry.{Entry}
use Rattle.gl_rules.specs.Node.{Node}
use Rattle.gl_rules.specs.Steps.{update_view}
use Rattle.gl_rules.specs.Outcome.{Step}
use Rattle.gl_rules.specs.Outcome as outcomes
use Rattle.gl_election.specs.Bridge.{seen_message}
use Rattle.gl_replication.specs.Stands.{seen_outcome, Stepped}
use Rattle.gl_replication.proofs.Rows.{if_ok, stepped_as}
use Rattle.gl_replication.proofs.Appending.{leads_then, leads_not}
use Rattle.gl_replication.proofs.Replying.{reply_above, reply_led, reply_idle}
use Rattle.gl_replication.proofs.node.Core.on_append_reply.Goals as goal

pub returns-then-view-self-clause-steps : goal.returns-then-view-self-clause-steps
returns-then-view-self-clause-steps g c = λ b x n s.
    let v = ap (λ (m : Node Entry). m.view) s.same in
    stepped_as g.B.Book.stands (record { node = update_view b c.args.view n; sent = []; outcome = outcomes.Idle })
    (reply_above b x c.args.from c.args.view c.args.ok c.args.seqno n (omega (arith, c.if-view-self.true, v)))
    (c.update_view.ensures.turns b x n s) (ap seen_outcome c.idle.ensures.outcome) (ap (map seen_message) c.idle.ensures.quiet)

pub returns-then-leads_in-clause-steps : goal.returns-then-leads_in-clause-steps
returns-then-leads_in-clause-steps g c = if_ok c.update_progress.result (λ done k b x n s.
    let t = leads_then c.args.self.now.peer.view c.args.view c.args.self.now.peer.role (sym c.leads_in.ensures ∙ c.if-leads_in.true) in
    subst (λ (m : Step Entry g.row.B-Response.Denot g.row.B-Refused.Denot). Stepped g.B.Book.stands b x m done c.update_progress.new.self)
    (sym (reply_led b x c.args.from c.args.view c.args.ok c.args.seqno n (sym (ap (λ (m : Node Entry). m.view) s.same) ∙ t.0) (sym (ap (λ (m : Node Entry). m.role) s.same) ∙ t.1)))
    (k b x n s)) c.update_progress.ensures.steps

pub returns-clause-steps : goal.returns-clause-steps
returns-clause-steps g c = λ b x n s.
    let v = ap (λ (m : Node Entry). m.view) s.same in
    let other = leads_not c.args.self.now.peer.view c.args.view c.args.self.now.peer.role (sym c.leads_in.ensures ∙ c.if-leads_in.false) in
    stepped_as g.B.Book.stands (record { node = n; sent = []; outcome = outcomes.Idle })
    (reply_idle b x c.args.from c.args.view c.args.ok c.args.seqno n (omega (arith, c.if-view-self.false, v)) (λ e l. other (v ∙ e) (ap (λ (m : Node Entry). m.role) s.same ∙ l)))
    s (ap seen_outcome c.idle-2.ensures.outcome) (ap (map seen_message) c.idle-2.ensures.quiet)
