use Rattle.std.proofs.Common.{rules, sym, ap, subst, map, ◌+◌, length, take, Ok, Err, ◌∙◌}
use Rattle.gl_rules.specs.Outcome.{Step, Refused, BelowCommit}
use Rattle.gl_rules.specs.Replication.{become_follower, checked_append}
use Rattle.gl_rules.specs.Steps.{cut_to, update_view}
use Rattle.gl_entry.specs.declared.entry.Entry.{Entry}
use Rattle.gl_election.specs.Bridge.{seen_message}
use Rattle.gl_replication.specs.Stands.{seen_outcome}
use Rattle.gl_replication.specs.Stands.{Stepped}
use Rattle.gl_replication.proofs.Merging.{rest_is, expected, all_held, below_commit, some_new, accepted, view_is, low_of, commit_of}
use Rattle.gl_replication.proofs.node.Core.merge_entries.Goals as goal

pub replace_tail-requires-clause-within : goal.replace_tail-requires-clause-within
replace_tail-requires-clause-within g c = c.requires.within.0

pub returns-then-held-entries-clause-steps : goal.returns-then-held-entries-clause-steps
returns-then-held-entries-clause-steps g c = λ b x n s.
    let h = c.requires.len b x n s in
    let low = low_of g.B.Book.stands s c.args.view c.requires.view in
    subst (λ (m : Step Entry g.row.B-Response.Denot g.row.B-Refused.Denot). Stepped g.B.Book.stands b x m c.accept_entries.result c.accept_entries.new.self)
    (sym (all_held b c.args.y c.args.view n low x c.args.len c.args.prev c.args.entries.now c.args.held c.args.theirs h.0 h.1 c.if-held-entries.true))
    (accepted g.B.Book.stands c.args.y c.args.view (c.args.prev + length c.args.entries.now) c.args.theirs (become_follower b c.args.y (update_view b c.args.view n)) c.accept_entries.result (c.accept_entries.ensures.replies.0 b x _ (c.become_follower.ensures.turns b x n s))
    (ap seen_outcome c.accept_entries.ensures.replies.1) (ap (map seen_message) c.accept_entries.ensures.replies.2 ∙ c.in-Ok.ensures.value b x n s) (view_is b c.args.y c.args.view n low))

pub returns-then-is_cut_below-clause-refused : goal.returns-then-is_cut_below-clause-refused
returns-then-is_cut_below-clause-refused g c = λ b x n s.
    let h = c.requires.len b x n s in
    let low = low_of g.B.Book.stands s c.args.view c.requires.view in
    below_commit b c.args.y c.args.view n low x c.args.len c.args.prev c.args.entries.now c.args.held c.args.theirs h.0 h.1 c.if-held-entries.false
    (sym (c.is_cut_below.ensures.value b x n s) ∙ c.if-is_cut_below.true)
    ∙ ap (λ k. Refused (BelowCommit k (c.args.prev + c.args.held))) (sym (commit_of g.B.Book.stands s))

pub returns-in-Err-Fault-clause-refused : goal.returns-in-Err-Fault-clause-refused
returns-in-Err-Fault-clause-refused g c = λ b x n s.
    let h = c.requires.len b x n s in
    let low = low_of g.B.Book.stands s c.args.view c.requires.view in
    let k = c.in-Err-Fault.ensures.refused b x n s in
    ap (λ (m : Step Entry g.row.B-Response.Denot g.row.B-Refused.Denot). m.outcome)
    (some_new b c.args.y c.args.view n low x c.args.len c.args.prev c.args.entries.now c.args.held c.args.theirs h.0 h.1 c.if-held-entries.false
    (sym (c.is_cut_below.ensures.value b x n s) ∙ c.if-is_cut_below.false)
    c.requires.within.0 (Err c.in-Err-Fault.why)
    (ap (checked_append b n.base (take (c.args.prev + c.args.held) n.log)) (sym (rest_is c.args.held c.args.entries.now)) ∙ expected _ c.in-Err-Fault.field-0 c.in-Err-Fault.why (search rules) k))

pub returns-clause-steps : goal.returns-clause-steps
returns-clause-steps g c = λ b x n s.
    let h = c.requires.len b x n s in
    let low = low_of g.B.Book.stands s c.args.view c.requires.view in
    let r = c.in-Ok-replace_tail.ensures.grown b x n s in
    subst (λ (m : Step Entry g.row.B-Response.Denot g.row.B-Refused.Denot). Stepped g.B.Book.stands b x m c.accept_entries-in-Ok-replace_tail.result c.accept_entries-in-Ok-replace_tail.new.self)
    (sym (some_new b c.args.y c.args.view n low x c.args.len c.args.prev c.args.entries.now c.args.held c.args.theirs h.0 h.1 c.if-held-entries.false
    (sym (c.is_cut_below.ensures.value b x n s) ∙ c.if-is_cut_below.false)
    c.requires.within.0 (Ok r.0) (ap (checked_append b n.base (take (c.args.prev + c.args.held) n.log)) (sym (rest_is c.args.held c.args.entries.now)) ∙ r.1)))
    (accepted g.B.Book.stands c.args.y c.args.view (c.args.prev + length c.args.entries.now) c.args.theirs (record (cut_to (c.args.prev + c.args.held) (become_follower b c.args.y (update_view b c.args.view n))) { log = r.0 }) c.accept_entries-in-Ok-replace_tail.result
    (c.accept_entries-in-Ok-replace_tail.ensures.replies.0 b x _ r.2)
    (ap seen_outcome c.accept_entries-in-Ok-replace_tail.ensures.replies.1) (ap (map seen_message) c.accept_entries-in-Ok-replace_tail.ensures.replies.2 ∙ c.in-Ok.ensures.value b x n s) (view_is b c.args.y c.args.view n low))
