use Rattle.std.proofs.Common.{Err, ◌≡◌, ◌∙◌, ◌≤◌, ◌+◌, ◌==◌, ℕ, length, false, subst, sym, arith}
use Rattle.std.proofs.lemmas.Bool.Decides.{nat_tests}
use Rattle.gl_base.specs.TxId.{last_seqno}
use Rattle.gl_base.specs.declared.or_no_memory.OrNoMemory.{OrNoMemory}
use Rattle.gl_entry.specs.Entry.{body_bytes, body_limit}
use Rattle.gl_gov_rules.specs.Refusals.{refusal}
use Rattle.gl_gov_rules.specs.declared.refusal.GovernanceRefusal.{GovernanceRefusal}
use Rattle.gl_ledger.specs.Makers.{govern_after}
use Rattle.gl_ledger.specs.Past.{past_over}
use Rattle.gl_ledger.specs.declared.refusal.Refusal.TheVariants as refusals
use Rattle.gl_ledger.specs.declared.response.Rejection.TheVariants.{ByStore}
use Rattle.gl_audit.specs.GovState.{Refuses}
use Rattle.gl_store.proofs.Governing.{govern_limited, govern_made, govern_refused}
use Rattle.gl_store.proofs.Tails.{seqno_past}
use Rattle.gl_store.proofs.ledger_tail.LedgerTail.entry_of_governance.Goals as goal

pub governance_entry-requires-clause-founding : goal.governance_entry-requires-clause-founding
governance_entry-requires-clause-founding c = λ body now.
    let some = c.requires.some body now in
    let off : (body.base + length c.args.self.now.entries == 0) ≡ false = grind (arith, nat_tests, some) in
    c.requires.founding ∙ sym off

pub returns-clause-made : goal.returns-clause-made
returns-clause-made c = λ body now.
    let small : length (body_bytes c.in-Ok.made.0) ≤ body_limit = subst (λ (n : ℕ). n ≤ body_limit) c.body_len.ensures.exact c.in_default.ensures.body in
    govern_made (past_over body c.args.self.now.entries) c.args.view c.args.request.now c.requires.fits c.requires.founding c.requires.recovery c.in-Ok.made.0 c.next_seqno-seqno.result
    (c.in-Ok.ensures.accepted body now) (c.in-Ok.ensures.made body now) small (seqno_past body _ _ (c.next_seqno-seqno.ensures body now)) c.in_default.ensures.seqno

pub returns-clause-left : goal.returns-clause-left
returns-clause-left c = λ body now.
    let at = c.next_seqno-seqno.ensures body now in
    let named : c.next_seqno-seqno.result ≤ last_seqno = c.in_default.ensures.seqno in
    omega (arith, at, named)

pub returns-in-Err-Fault-clause-refused : goal.returns-in-Err-Fault-clause-refused
returns-in-Err-Fault-clause-refused c = λ body now.
    let p = past_over body c.args.self.now.entries in
    let found : govern_after p c.args.view c.args.request.now ≡ Err (ByStore (refusals.Governance c.in-Err-Fault.why)) =
    govern_refused p c.args.view c.args.request.now c.requires.fits c.requires.founding c.requires.recovery c.in-Err-Fault.why
    (subst (λ (e : OrNoMemory GovernanceRefusal). Refuses (refusal p.history (p.len + 1) c.args.request.now) e) c.in-Err-Fault.field-0-is (c.in-Err-Fault.ensures.refused body now)) in
    rw c.in-Err-Fault.why-is found

-- what passes a limit
pub returns-in-Some-clause-refused : goal.returns-in-Some-clause-refused
returns-in-Some-clause-refused c = λ body now.
    let p = past_over body c.args.self.now.entries in
    govern_limited p c.args.view c.args.request.now c.requires.fits c.requires.founding c.requires.recovery c.in-Ok.made.0 c.in-Some.refusal (c.in-Ok.ensures.accepted body now)
    (c.in-Ok.ensures.made body now) (c.in-Some.ensures.expected p c.args.request.now c.in-Ok.made.0 c.body_len.ensures.exact (seqno_past body _ _ (c.next_seqno-seqno.ensures body now)))
