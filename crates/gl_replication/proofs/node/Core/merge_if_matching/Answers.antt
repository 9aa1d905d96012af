use Rattle.std.proofs.Common.{rules, refl, sym, subst, false, ◌∙◌}
use Rattle.gl_rules.specs.Steps.{update_view}
use Rattle.gl_rules.specs.Outcome.{Step}
use Rattle.gl_rules.specs.Outcome as outcomes
use Rattle.gl_rules.specs.Replication.{become_follower}
use Rattle.gl_replication.specs.Replies.{append_reply_to}
use Rattle.gl_entry.specs.declared.entry.Entry.{Entry}
use Rattle.gl_election.specs.Elections.{position}
use Rattle.gl_replication.specs.Stands.{Answers, Stepped}
use Rattle.gl_replication.proofs.Rows.{if_ok, if_err, stepped_as}
use Rattle.gl_replication.proofs.Merging.{low_of}
use Rattle.gl_replication.proofs.Appending.{matching_is, other_is}
use Rattle.gl_replication.proofs.node.Core.merge_if_matching.Goals as goal

pub returns-then-is_matching-clause-steps : goal.returns-then-is_matching-clause-steps
returns-then-is_matching-clause-steps g c = if_ok c.merge_entries.result (λ done k b x n s.
    let w = c.len_in_view-len.ensures.within b x n s in
    subst (λ (m : Step Entry g.row.B-Response.Denot g.row.B-Refused.Denot). Stepped g.B.Book.stands b x m done c.merge_entries.new.self)
    (sym (matching_is b x c.args.y c.args.view n (low_of g.B.Book.stands s c.args.view c.requires.view) (position c.args.prev) c.args.entries.now c.args.theirs c.len_in_view-len.result w
    (c.len_in_view-len.ensures.value b x n s) c.matching_prefix_len-held.result (sym (c.is_matching.ensures.value b x n s w) ∙ c.if-is_matching.true) (c.matching_prefix_len-held.ensures.value b x n s w))) (k b x n s)) c.merge_entries.ensures.steps

pub returns-then-is_matching-clause-refused : goal.returns-then-is_matching-clause-refused
returns-then-is_matching-clause-refused g c = if_err c.merge_entries.result (λ why k b x n s.
    let w = c.len_in_view-len.ensures.within b x n s in
    subst (λ (m : Step Entry g.row.B-Response.Denot g.row.B-Refused.Denot). Answers why m.outcome)
    (sym (matching_is b x c.args.y c.args.view n (low_of g.B.Book.stands s c.args.view c.requires.view) (position c.args.prev) c.args.entries.now c.args.theirs c.len_in_view-len.result w
    (c.len_in_view-len.ensures.value b x n s) c.matching_prefix_len-held.result (sym (c.is_matching.ensures.value b x n s w) ∙ c.if-is_matching.true) (c.matching_prefix_len-held.ensures.value b x n s w))) (k b x n s)) c.merge_entries.ensures.refused

pub returns-in-Ok-clause-steps : goal.returns-in-Ok-clause-steps
returns-in-Ok-clause-steps g c = λ b x n s.
    let w = c.len_in_view-len.ensures.within b x n s in
    stepped_as g.B.Book.stands (record { node = become_follower b c.args.y (update_view b c.args.view n); sent = append_reply_to x c.args.y c.args.view false c.highest_possible_match-seqno.result; outcome = outcomes.Done })
    (other_is b x c.args.y c.args.view n (low_of g.B.Book.stands s c.args.view c.requires.view) (position c.args.prev) c.args.entries.now c.args.theirs c.len_in_view-len.result w
    (c.len_in_view-len.ensures.value b x n s) c.highest_possible_match-seqno.result (sym (c.is_matching.ensures.value b x n s w) ∙ c.if-is_matching.false)
    (c.highest_possible_match-seqno.ensures b x n s w (search rules) ∙ search rules))
    (c.become_follower.ensures.turns b x n s) refl (c.in-Ok.ensures.value b x n s)
