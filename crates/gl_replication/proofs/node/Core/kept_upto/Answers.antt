use Rattle.std.proofs.Common.{ℕ, arith, sym, subst, ap, ◌∙◌}
use Rattle.gl_entry.specs.declared.entry.Entry.{Entry}
use Rattle.gl_rules.specs.Node.{Node}
use Rattle.gl_rules.specs.World.{on_message}
use Rattle.gl_rules.specs.Message.{Append}
use Rattle.gl_election.specs.Elections.{position}
use Rattle.gl_election.specs.Bridge.{message_to}
use Rattle.gl_replication.specs.Replies.{KeepsUpTo}
use Rattle.gl_replication.proofs.Merging.{low_of}
use Rattle.gl_replication.proofs.Appending.{leads_then, leads_not}
use Rattle.gl_replication.proofs.KeptPrefixes.{low_keeps, led_keeps, other_keeps, all_keeps, some_keeps}
use Rattle.gl_replication.proofs.node.Core.kept_upto.Goals as goal

pub returns-then-view-self : goal.returns-then-view-self
returns-then-view-self g c = λ b x n s from commit.
    let v = ap (λ (m : Node Entry). m.view) s.same in
    let es = c.args.entries.now in
    let prev = position c.args.prev in
    let Keeps : ℕ → Type 0 = λ len. KeepsUpTo len es n (on_message b (message_to x from c.args.view (Append prev es commit)) n) in
    subst Keeps (sym (c.ledger_len.ensures.value b _ s.ledger)) (low_keeps b x from c.args.view n prev es commit (omega (arith, c.if-view-self.true, v)))

pub returns-then-leads_in : goal.returns-then-leads_in
returns-then-leads_in g c = λ b x n s from commit.
    let t = leads_then c.args.self.now.peer.view c.args.view c.args.self.now.peer.role (sym c.leads_in.ensures ∙ c.if-leads_in.true) in
    let es = c.args.entries.now in
    let prev = position c.args.prev in
    let Keeps : ℕ → Type 0 = λ len. KeepsUpTo len es n (on_message b (message_to x from c.args.view (Append prev es commit)) n) in
    subst Keeps (sym (c.ledger_len-then-leads_in.ensures.value b _ s.ledger))
    (led_keeps b x from c.args.view n prev es commit (sym (ap (λ (m : Node Entry). m.view) s.same) ∙ t.0) (sym (ap (λ (m : Node Entry). m.role) s.same) ∙ t.1))

pub returns-then-not-is_matching : goal.returns-then-not-is_matching
returns-then-not-is_matching g c = λ b x n s from commit.
    let other = leads_not c.args.self.now.peer.view c.args.view c.args.self.now.peer.role (sym c.leads_in.ensures ∙ c.if-leads_in.false) in
    let within = c.len_in_view-len.ensures.within b x n s in
    other_keeps b x from c.args.view n (position c.args.prev) c.args.entries.now commit (low_of g.B.Book.stands s c.args.view c.if-view-self.false)
    (λ e l. other (ap (λ (m : Node Entry). m.view) s.same ∙ e) (ap (λ (m : Node Entry). m.role) s.same ∙ l))
    c.len_in_view-len.result within (c.len_in_view-len.ensures.value b x n s)
    (sym (c.is_matching.ensures.value b x n s within) ∙ c.if-not-is_matching.true)

pub returns-then-held-entries : goal.returns-then-held-entries
returns-then-held-entries g c = λ b x n s from commit.
    let other = leads_not c.args.self.now.peer.view c.args.view c.args.self.now.peer.role (sym c.leads_in.ensures ∙ c.if-leads_in.false) in
    let within = c.len_in_view-len.ensures.within b x n s in
    all_keeps b x from c.args.view n (position c.args.prev) c.args.entries.now commit (low_of g.B.Book.stands s c.args.view c.if-view-self.false)
    (λ e l. other (ap (λ (m : Node Entry). m.view) s.same ∙ e) (ap (λ (m : Node Entry). m.role) s.same ∙ l))
    c.len_in_view-len.result within (c.len_in_view-len.ensures.value b x n s)
    c.matching_prefix_len-held.result (sym (c.is_matching.ensures.value b x n s within) ∙ c.if-not-is_matching.false)
    (c.matching_prefix_len-held.ensures.value b x n s within) c.if-held-entries.true

pub returns : goal.returns
returns g c = λ b x n s from commit.
    let other = leads_not c.args.self.now.peer.view c.args.view c.args.self.now.peer.role (sym c.leads_in.ensures ∙ c.if-leads_in.false) in
    let within = c.len_in_view-len.ensures.within b x n s in
    let reach = c.matching_prefix_len-held.ensures.reach (c.is_matching.ensures.within c.if-not-is_matching.false) in
    some_keeps b x from c.args.view n (position c.args.prev) c.args.entries.now commit (low_of g.B.Book.stands s c.args.view c.if-view-self.false)
    (λ e l. other (ap (λ (m : Node Entry). m.view) s.same ∙ e) (ap (λ (m : Node Entry). m.role) s.same ∙ l))
    c.len_in_view-len.result within (c.len_in_view-len.ensures.value b x n s)
    c.matching_prefix_len-held.result (sym (c.is_matching.ensures.value b x n s within) ∙ c.if-not-is_matching.false)
    (c.matching_prefix_len-held.ensures.value b x n s within) c.if-held-entries.false reach c.matching_prefix_len-held.ensures.within
