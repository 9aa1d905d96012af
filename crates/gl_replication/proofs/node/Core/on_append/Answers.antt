use Rattle.std.proofs.Common.{refl, sym, ap, subst, map, [], false, arith, ◌∙◌}
use Rattle.gl_rules.specs.Node.{Node}
use Rattle.gl_rules.specs.Steps.{update_view}
use Rattle.gl_rules.specs.Outcome.{Step}
use Rattle.gl_rules.specs.Outcome as outcomes
use Rattle.gl_rules.specs.Replication.{become_follower, merge_if_matching}
use Rattle.gl_entry.specs.declared.entry.Entry.{Entry}
use Rattle.gl_replication.specs.Replies.{append_reply_to}
use Rattle.gl_election.specs.Elections.{position}
use Rattle.gl_election.specs.Bridge.{seen_message}
use Rattle.gl_replication.specs.Stands.{seen_outcome, Answers, Stepped}
use Rattle.gl_replication.proofs.Rows.{if_ok, if_err, stepped_as}
use Rattle.gl_replication.proofs.Merging.{low_of}
use Rattle.gl_replication.proofs.Appending.{message_low, message_led, message_on, undone, answers_undone, leads_then, leads_not}
use Rattle.gl_replication.proofs.node.Core.on_append.Goals as goal

pub returns-in-Ok-clause-steps : goal.returns-in-Ok-clause-steps
returns-in-Ok-clause-steps g c = λ b x n s.
    let v = ap (λ (m : Node Entry). m.view) s.same in
    stepped_as g.B.Book.stands (record { node = n; sent = append_reply_to x c.args.from n.view false 0; outcome = outcomes.Done })
    (message_low b x c.args.from c.args.view n (position c.args.prev) c.args.entries.now c.args.commit (omega (arith, c.if-view-self.true, v)))
    s refl (c.in-Ok.ensures.value b x n s ∙ ap (λ k. append_reply_to x c.args.from k false 0) v)

pub returns-then-leads_in-clause-steps : goal.returns-then-leads_in-clause-steps
returns-then-leads_in-clause-steps g c = λ b x n s.
    let t = leads_then c.args.self.now.peer.view c.args.view c.args.self.now.peer.role (sym c.leads_in.ensures ∙ c.if-leads_in.true) in
    stepped_as g.B.Book.stands (record { node = n; sent = []; outcome = outcomes.Idle })
    (message_led b x c.args.from c.args.view n (position c.args.prev) c.args.entries.now c.args.commit (sym (ap (λ (m : Node Entry). m.view) s.same) ∙ t.0) (sym (ap (λ (m : Node Entry). m.role) s.same) ∙ t.1))
    s (ap seen_outcome c.idle.ensures.outcome) (ap (map seen_message) c.idle.ensures.quiet)

pub returns-clause-steps : goal.returns-clause-steps
returns-clause-steps g c = if_ok c.merge_if_matching.result (λ done k b x n s.
    let r = k b x n s in
    let other = leads_not c.args.self.now.peer.view c.args.view c.args.self.now.peer.role (sym c.leads_in.ensures ∙ c.if-leads_in.false) in
    subst (λ (m : Step Entry g.row.B-Response.Denot g.row.B-Refused.Denot). Stepped g.B.Book.stands b x m done c.merge_if_matching.new.self)
    (sym (message_on b x c.args.from c.args.view n (position c.args.prev) c.args.entries.now c.args.commit (low_of g.B.Book.stands s c.args.view c.if-view-self.false)
    (λ e l. other (ap (λ (m : Node Entry). m.view) s.same ∙ e) (ap (λ (m : Node Entry). m.role) s.same ∙ l))
    ∙ undone n done.outcome (merge_if_matching b x c.args.from (position c.args.prev) c.args.entries.now c.args.commit (become_follower b c.args.from (update_view b c.args.view n))) r.outcome)) r) c.merge_if_matching.ensures.steps

pub returns-clause-refused : goal.returns-clause-refused
returns-clause-refused g c = if_err c.merge_if_matching.result (λ why k b x n s.
    let other = leads_not c.args.self.now.peer.view c.args.view c.args.self.now.peer.role (sym c.leads_in.ensures ∙ c.if-leads_in.false) in
    subst (λ (m : Step Entry g.row.B-Response.Denot g.row.B-Refused.Denot). Answers why m.outcome)
    (sym (message_on b x c.args.from c.args.view n (position c.args.prev) c.args.entries.now c.args.commit (low_of g.B.Book.stands s c.args.view c.if-view-self.false)
    (λ e l. other (ap (λ (m : Node Entry). m.view) s.same ∙ e) (ap (λ (m : Node Entry). m.role) s.same ∙ l))))
    (answers_undone why n (merge_if_matching b x c.args.from (position c.args.prev) c.args.entries.now c.args.commit (become_follower b c.args.from (update_view b c.args.view n))) (k b x n s))) c.merge_if_matching.ensures.refused
