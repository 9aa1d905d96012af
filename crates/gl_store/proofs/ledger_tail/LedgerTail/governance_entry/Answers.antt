use Rattle.std.proofs.Common.{◌≡◌, ◌∙◌, ◌==◌, ◌+◌, length, ℕ, Option, None, sym, subst, ap}
use Rattle.std.proofs.lemmas.Result.{err_from_is_err_and}
use Rattle.gl_gov_rules.specs.History.{History}
use Rattle.gl_gov_rules.specs.ProposalStatus.{proposal_status}
use Rattle.gl_gov_rules.specs.Refusals.{refusal}
use Rattle.gl_gov_rules.specs.declared.refusal.GovernanceRefusal.{GovernanceRefusal}
use Rattle.gl_snapshot_body.specs.declared.body.Body.{Body}
use Rattle.gl_ledger.specs.Broken.{effect_after}
use Rattle.gl_ledger.specs.Ledger.{governance_after}
use Rattle.gl_ledger.specs.Makers.{status_with}
use Rattle.gl_ledger.specs.Past.{past_over}
use Rattle.gl_audit.specs.GovState.{Refuses, share_count}
use Rattle.gl_audit.proofs.PastOver.{end_len, later_kept}
use Rattle.gl_audit.proofs.RuleTests.{effect_kept, unfounded_kept}
use Rattle.gl_store.specs.Tail.{StandsBehind, Tail}
use Rattle.gl_store.proofs.Governing.{after_past, asked, asked_still, entry_past, refusal_past, writes_past}
use Rattle.gl_store.proofs.Tails.{kept_behind, seen_still}
use Rattle.gl_store.proofs.ledger_tail.LedgerTail.governance_entry.Goals as goal

pub effect-requires-clause-above : goal.effect-requires-clause-above
effect-requires-clause-above c =
    let b = c.self.invariant in
    let now = subst (StandsBehind b.0) c.self.view_is b.1 in
    let len = end_len b.0 _ _ b.1.stands in
    let es = ap (λ (t : Tail). length t.entries) c.self.view_is in
    let at = c.next_seqno-seqno.ensures b.0 now in
    later_kept b.0 _ _ b.1.stands c.next_seqno-seqno.result (at ∙ ap (λ (n : ℕ). b.0.base + n + 1) (sym es) ∙ ap (λ (n : ℕ). n + 1) (sym len))

pub effect-requires-clause-founding : goal.effect-requires-clause-founding
effect-requires-clause-founding c =
    let b = c.self.invariant in
    let now = subst (StandsBehind b.0) c.self.view_is b.1 in
    let len = end_len b.0 _ _ b.1.stands in
    c.requires.founding b.0 now
    ∙ sym (unfounded_kept b.0 _ _ b.1.stands ∙ ap (λ (n : ℕ). n == 0) len ∙ ap (λ (t : Tail). b.0.base + length t.entries == 0) c.self.view_is)

pub returns-clause-accepted : goal.returns-clause-accepted
returns-clause-accepted c = λ body now.
    let s = kept_behind c.self.view_is body now in
    let at = c.next_seqno-seqno.ensures body now ∙ ap (λ (t : Tail). body.base + length t.entries + 1) (sym c.self.view_is) in
    subst (λ (t : Tail). refusal (past_over body t.entries).history ((past_over body t.entries).len + 1) c.args.request.now ≡ None) c.self.view_is
    (sym (refusal_past body _ s c.args.request.now c.next_seqno-seqno.result at) ∙ c.in_ok-effect.ensures.accepted)

pub returns-clause-made : goal.returns-clause-made
returns-clause-made c = λ body now.
    let s = kept_behind c.self.view_is body now in
    let at = c.next_seqno-seqno.ensures body now ∙ ap (λ (t : Tail). body.base + length t.entries + 1) (sym c.self.view_is) in
    subst (λ (t : Tail). c.in_ok-entry.entry ≡ governance_after c.args.request.now (past_over body t.entries) c.args.view) c.self.view_is
    (entry_past body _ s c.args.request.now c.next_seqno-seqno.result at c.args.view _ c.in_ok-entry.entry c.in_ok-entry.ensures.made (c.in_ok-writes.ensures ∙ c.in_ok-effect.ensures.writes ∙ sym (effect_kept body _ _ (asked c.args.request.now c.next_seqno-seqno.result) s.stands)))

pub returns-clause-writes : goal.returns-clause-writes
returns-clause-writes c = λ body now.
    let s = kept_behind c.self.view_is body now in
    let at = c.next_seqno-seqno.ensures body now ∙ ap (λ (t : Tail). body.base + length t.entries + 1) (sym c.self.view_is) in
    subst (λ (t : Tail). c.in_ok-effect.effect.writes ≡ effect_after (past_over body t.entries) (asked c.args.request.now ((past_over body t.entries).len + 1))) c.self.view_is
    (writes_past body _ s c.args.request.now c.next_seqno-seqno.result at c.in_ok-effect.effect.writes
    (c.in_ok-effect.ensures.writes ∙ sym (effect_kept body _ _ (asked c.args.request.now c.next_seqno-seqno.result) s.stands)))

pub returns-clause-status : goal.returns-clause-status
returns-clause-status c = λ body now.
    let s = kept_behind c.self.view_is body now in
    let at = c.next_seqno-seqno.ensures body now ∙ ap (λ (t : Tail). body.base + length t.entries + 1) (sym c.self.view_is) in
    subst (λ (t : Tail). c.in_ok-effect.effect.proposal ≡ status_with (past_over body t.entries) c.args.request.now) c.self.view_is
    (c.in_ok-effect.ensures.proposal ∙ ap (λ (h : History). proposal_status h c.args.request.now) (after_past body _ s c.args.request.now c.next_seqno-seqno.result at))

pub returns-clause-shares : goal.returns-clause-shares
returns-clause-shares c = λ body now.
    let s = kept_behind c.self.view_is body now in
    let at = c.next_seqno-seqno.ensures body now ∙ ap (λ (t : Tail). body.base + length t.entries + 1) (sym c.self.view_is) in
    subst (λ (t : Tail). c.in_ok-effect.effect.shares ≡ share_count ((past_over body t.entries).after (asked c.args.request.now ((past_over body t.entries).len + 1)))) c.self.view_is
    (c.in_ok-effect.ensures.shares ∙ ap share_count (after_past body _ s c.args.request.now c.next_seqno-seqno.result at))

pub returns-clause-kept : goal.returns-clause-kept
returns-clause-kept c = seen_still c.self.view_is (asked_still _ c.effect.new.self c.in_ok-effect.ensures.kept)

-- refused, or memory ran out

pub returns-in_err-effect-clause-refused : goal.returns-in_err-effect-clause-refused
returns-in_err-effect-clause-refused c =
    let p = err_from_is_err_and c.from_residual.result c.from_residual.ensures.1 in
    let refused : (body : Body) → StandsBehind body c.args.self.now →
    Refuses (refusal (past_over body c.args.self.now.entries).history ((past_over body c.args.self.now.entries).len + 1) c.args.request.now) c.in_err-effect.field-0.0 =
    λ body now.
    let s = kept_behind c.self.view_is body now in
    let at = c.next_seqno-seqno.ensures body now ∙ ap (λ (t : Tail). body.base + length t.entries + 1) (sym c.self.view_is) in
    subst (λ (t : Tail). Refuses (refusal (past_over body t.entries).history ((past_over body t.entries).len + 1) c.args.request.now) c.in_err-effect.field-0.0) c.self.view_is
    (subst (λ (o : Option GovernanceRefusal). Refuses o c.in_err-effect.field-0.0) (refusal_past body _ s c.args.request.now c.next_seqno-seqno.result at) c.in_err-effect.ensures.refused) in
    rw (p.1, p.2) refused
