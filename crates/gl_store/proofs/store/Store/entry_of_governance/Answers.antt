use Rattle.std.proofs.Common.{◌≡◌, ◌+◌, ◌<◌, ◌∙◌, List, [], ◌∷◌, ◌++◌, None, Ok, length, ap, subst, sym, arith}
use Rattle.gl_base.specs.TxId.{last_seqno}
use Rattle.gl_entry.specs.declared.entry.Entry.{Entry}
use Rattle.gl_gov_rules.specs.Changes.{history}
use Rattle.gl_gov_rules.specs.ProposalStatus.{proposal_status}
use Rattle.gl_gov_rules.specs.Refusals.{refusal}
use Rattle.gl_gov_rules.specs.Rows.{effect_writes}
use Rattle.gl_gov_rules.specs.declared.change.Recorded.{Recorded}
use Rattle.gl_ledger.specs.Makers.{govern_result, governance_made, status_after}
use Rattle.gl_ledger.specs.Recordings.{requests_of}
use Rattle.gl_snapshot_body.specs.Body.{no_body}
use Rattle.gl_audit.specs.Committed.{Held}
use Rattle.gl_audit.specs.GovState.{share_count}
use Rattle.gl_store.specs.Calls.{Refuses}
use Rattle.gl_store.proofs.Governing.{requests_after}
use Rattle.gl_store.proofs.KeptEntries.{held_still, kept_becomes}
use Rattle.gl_store.proofs.Tails.{if_err, if_ok, if_ok_both, on_ok}
use Rattle.gl_store.proofs.store.Store.entry_of_governance.Goals as goal

pub entry_of_governance-requires-clause-some : goal.entry_of_governance-requires-clause-some
entry_of_governance-requires-clause-some c = λ body s.
    let some : 0 < length c.self.inside.tail.entries = subst (λ (h : Held). 0 < length h.ledger) (sym c.self.view_is) c.requires.some in
    omega (arith, some)

pub invariant_of-self : goal.invariant_of-self
invariant_of-self c = kept_becomes c.self.inside.tail c.entry_of_governance.new.self _ c.self.invariant c.entry_of_governance.ensures.kept

pub returns-clause-made : goal.returns-clause-made
returns-clause-made c =
    if_ok c.entry_of_governance.result
    (λ made each. subst (λ (h : Held). govern_result h.ledger c.args.view c.args.request.now ≡ Ok (governance_made h.ledger c.args.request.now made.0)) c.self.view_is (each no_body c.self.invariant.stands))
    c.entry_of_governance.ensures.made

pub returns-clause-accepted : goal.returns-clause-accepted
returns-clause-accepted c =
    on_ok c.entry_of_governance.result
    (λ each. subst (λ (h : Held). refusal (history (requests_of h.ledger)) (length h.ledger + 1) c.args.request.now ≡ None) c.self.view_is (each no_body c.self.invariant.stands))
    c.entry_of_governance.ensures.accepted

pub returns-clause-left : goal.returns-clause-left
returns-clause-left c =
    on_ok c.entry_of_governance.result
    (λ each. let left : 0 + length c.self.inside.tail.entries < last_seqno = each no_body c.self.invariant.stands in
    subst (λ (h : Held). length h.ledger < last_seqno) c.self.view_is (omega (arith, left)))
    c.entry_of_governance.ensures.left

pub returns-clause-writes : goal.returns-clause-writes
returns-clause-writes c =
    if_ok c.entry_of_governance.result
    (λ made each. subst (λ (h : Held). made.1.writes ≡ effect_writes (requests_of h.ledger) (record { seqno = length h.ledger + 1; request = c.args.request.now })) c.self.view_is (each no_body c.self.invariant.stands))
    c.entry_of_governance.ensures.writes

pub returns-clause-status : goal.returns-clause-status
returns-clause-status c =
    if_ok c.entry_of_governance.result
    (λ made each. subst (λ (h : Held). made.1.proposal ≡ status_after h.ledger c.args.request.now) c.self.view_is (each no_body c.self.invariant.stands))
    c.entry_of_governance.ensures.status

pub returns-clause-proposal : goal.returns-clause-proposal
returns-clause-proposal c =
    let k = c.self.invariant.stands in
    let g = c.args.request.now in
    let es = c.self.inside.tail.entries in
    if_ok_both c.entry_of_governance.result
    (λ made entry status. subst (λ (h : Held). made.1.proposal ≡ proposal_status (history (requests_of (h.ledger ++ made.0 ∷ []))) g) c.self.view_is
    (status no_body k ∙ ap (λ (rs : List Recorded). proposal_status (history rs) g) (sym (requests_after es g made.0 c.requires.fits (ap (λ (e : Entry). e.content) (entry no_body k))))))
    c.entry_of_governance.ensures.entry c.entry_of_governance.ensures.status

pub returns-clause-shares : goal.returns-clause-shares
returns-clause-shares c =
    let k = c.self.invariant.stands in
    let g = c.args.request.now in
    let es = c.self.inside.tail.entries in
    if_ok_both c.entry_of_governance.result
    (λ made entry shares. subst (λ (h : Held). made.1.shares ≡ share_count (history (requests_of (h.ledger ++ made.0 ∷ [])))) c.self.view_is
    (shares no_body k ∙ ap (λ (rs : List Recorded). share_count (history rs)) (sym (requests_after es g made.0 c.requires.fits (ap (λ (e : Entry). e.content) (entry no_body k))))))
    c.entry_of_governance.ensures.entry c.entry_of_governance.ensures.shares

pub returns-clause-refused : goal.returns-clause-refused
returns-clause-refused c =
    if_err c.entry_of_governance.result
    (λ e each. subst (λ (h : Held). Refuses (govern_result h.ledger c.args.view c.args.request.now) e) c.self.view_is (each no_body c.self.invariant.stands))
    c.entry_of_governance.ensures.refused

pub returns-clause-kept : goal.returns-clause-kept
returns-clause-kept c = held_still c.self.inside.tail c.entry_of_governance.new.self c.self.inside.commit c.args.self.now c.self.view_is c.entry_of_governance.ensures.kept
