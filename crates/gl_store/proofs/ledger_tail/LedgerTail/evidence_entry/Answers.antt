use Rattle.std.proofs.Common.{rules, ◌≡◌, ◌∙◌, ◌+◌, ◌<◌, ◌≤◌, ℕ, List, [], Result, Ok, Err, Bool, true, false, length, nat_lt, if◌then◌else◌, refl, sym, ap, subst, arith}
use Rattle.std.proofs.lemmas.Bool.Decides.{nat_tests}
use Rattle.gl_base.specs.Answers.{Fails}
use Rattle.gl_base.specs.TxId.{last_seqno}
use Rattle.gl_base.specs.declared.or_no_memory.OrNoMemory.{OrNoMemory}
use Rattle.gl_base.specs.declared.or_no_memory.OrNoMemory.TheVariants.{Fault}
use Rattle.gl_vmaps.specs.declared.write.Write.{Write}
use Rattle.gl_entry.specs.Entry.{no_digest}
use Rattle.gl_entry.specs.declared.entry.Content.TheVariants as content
use Rattle.gl_entry.specs.declared.entry.Entry.{Entry}
use Rattle.gl_ledger.specs.Makers.{by_store, evidence_result}
use Rattle.gl_ledger.specs.Past.{is_signed, past_over}
use Rattle.gl_ledger.specs.Snapshot.{snapshot_over}
use Rattle.gl_ledger.specs.declared.refusal.Refusal.{Refusal}
use Rattle.gl_ledger.specs.declared.refusal.Refusal.TheVariants as refusals
use Rattle.gl_ledger.specs.declared.response.Rejection.TheVariants.{ByStore, NotAfterSignature}
use Rattle.gl_snapshot_body.specs.Body as snapshots
use Rattle.gl_snapshot_body.specs.Digest.{digest_within}
use Rattle.gl_snapshot_body.specs.declared.body.Body.{Body}
use Rattle.gl_audit.proofs.PastOver.{body_kept}
use Rattle.gl_store.specs.Tail.{StandsBehind, Tail}
use Rattle.gl_store.proofs.Tails.{kept_behind, seqno_past}
use Rattle.gl_store.proofs.ledger_tail.LedgerTail.evidence_entry.Goals as goal

-- ---- tests, and what is made behind them

taken : {X : Type 0} (b : Bool) (x y : X) → b ≡ true → (if b then x else y) ≡ x
taken true x y is = refl
taken false x y is = absurd (cc)

otherwise : {X : Type 0} (b : Bool) (x y : X) → b ≡ false → (if b then x else y) ≡ y
otherwise true x y is = absurd (cc)
otherwise false x y is = refl

-- a body is too long for its digest
faulted : (e : OrNoMemory ℕ) (size : ℕ) (r : Result (List ℕ) ℕ) → e ≡ Fault size → Fails e r → r ≡ Err size
faulted e size r is fails = subst (λ (x : OrNoMemory ℕ). Fails x r) is fails

long : (b : Bool) (len size : ℕ) (d : List ℕ) (made : Result Entry Refusal) → (if b then Err len else Ok d) ≡ Err size →
    by_store (if b then Err (refusals.TooLarge len) else made) ≡ Err (ByStore (refusals.TooLarge size))
long true len size d made is = let same : len ≡ size = cc in ap (λ (n : ℕ). Err (ByStore (refusals.TooLarge n))) same
long false len size d made is = absurd (cc)

-- or it is not, and this is the digest
short : (b : Bool) (len : ℕ) (d digest : List ℕ) (made : Result Entry Refusal) → (if b then Err len else Ok d) ≡ Ok digest →
    (by_store (if b then Err (refusals.TooLarge len) else made) ≡ by_store made) × (d ≡ digest)
short true len d digest made is = absurd (cc)
short false len d digest made is = (refl, cc)

abbrev evidence : ℕ → ℕ → List ℕ → List Write → Entry
evidence view seqno digest writes = record { view = view; seqno = seqno; content = content.Evidence digest; writes = writes; claims = no_digest }

evidence_is : (view n seqno : ℕ) (d digest : List ℕ) (writes : List Write) → seqno ≡ n → d ≡ digest → writes ≡ [] → evidence view n d [] ≡ evidence view seqno digest writes
evidence_is view n seqno d digest writes at is none = cc

-- ---- what a tail answers

-- the digest is that of the body that the rules read
read_digest : (P : Result (List ℕ) ℕ → Type 0) (body : Body) (t : Tail) → StandsBehind body t → P (digest_within (snapshots.body_bytes (snapshot_over body t.entries))) → P (digest_within (snapshots.body_bytes (past_over body t.entries).snapshot))
read_digest P body t s is = subst (λ (b : Body). P (digest_within (snapshots.body_bytes b))) (sym (body_kept body t.entries t.state s.stands)) is

pub returns-then-not-is_signed-clause-refused : goal.returns-then-not-is_signed-clause-refused
returns-then-not-is_signed-clause-refused c = λ body now.
    let s = kept_behind c.self.view_is body now in
    let es = c.self.inside.entries.items in
    let off : c.is_signed.result ≡ false = search rules in
    let unsigned : is_signed (past_over body es).last ≡ false = sym (c.is_signed.ensures body es s.stands) ∙ off in
    subst (λ (t : Tail). evidence_result (past_over body t.entries) c.args.view ≡ Err NotAfterSignature) c.self.view_is (otherwise (is_signed (past_over body es).last) _ _ unsigned)

pub returns-in-Err-Fault-clause-refused : goal.returns-in-Err-Fault-clause-refused
returns-in-Err-Fault-clause-refused c = λ body now.
    let s = kept_behind c.self.view_is body now in
    let es = c.self.inside.entries.items in
    let size : ℕ = c.in-Err-Fault.size in
    let on : c.is_signed.result ≡ true = search rules in
    let signed : is_signed (past_over body es).last ≡ true = sym (c.is_signed.ensures body es s.stands) ∙ on in
    let fails = read_digest (λ r. Fails c.in-Err-Fault.field-0 r) body _ s (c.in-Err-Fault.ensures body es s.stands) in
    let found : evidence_result (past_over body c.args.self.now.entries) c.args.view ≡ Err (ByStore (refusals.TooLarge size)) =
    subst (λ (t : Tail). evidence_result (past_over body t.entries) c.args.view ≡ Err (ByStore (refusals.TooLarge size))) c.self.view_is
    (taken (is_signed (past_over body es).last) _ _ signed ∙ long _ _ size _ _ (faulted c.in-Err-Fault.field-0 size _ c.in-Err-Fault.field-0-is fails)) in
    rw c.in-Err-Fault.size-is found

pub returns-then-seqno-gt-LAST_SEQNO-clause-refused : goal.returns-then-seqno-gt-LAST_SEQNO-clause-refused
returns-then-seqno-gt-LAST_SEQNO-clause-refused c = λ body now.
    let s = kept_behind c.self.view_is body now in
    let es = c.self.inside.entries.items in
    let on : c.is_signed.result ≡ true = search rules in
    let signed : is_signed (past_over body es).last ≡ true = sym (c.is_signed.ensures body es s.stands) ∙ on in
    let digest = read_digest (λ r. r ≡ Ok c.in-Ok.digest) body _ s (c.in-Ok.ensures body es s.stands) in
    let next : c.next_seqno-seqno.result ≡ (past_over body es).len + 1 = seqno_past body es _ (c.next_seqno-seqno.ensures body now ∙ ap (λ (t : Tail). body.base + length t.entries + 1) (sym c.self.view_is)) in
    let above : last_seqno < c.next_seqno-seqno.result = c.if-seqno-gt-LAST_SEQNO.true in
    let none : nat_lt (past_over body es).len last_seqno ≡ false = grind (arith, nat_tests, next, above) in
    subst (λ (t : Tail). evidence_result (past_over body t.entries) c.args.view ≡ Err (ByStore refusals.SeqnoLimit)) c.self.view_is
    (taken (is_signed (past_over body es).last) _ _ signed ∙ (short _ _ _ _ _ digest).0
    ∙ ap (λ (r : Result Entry Refusal). by_store r) (otherwise (nat_lt (past_over body es).len last_seqno) _ _ none))

pub returns-clause-made : goal.returns-clause-made
returns-clause-made c = λ body now.
    let s = kept_behind c.self.view_is body now in
    let es = c.self.inside.entries.items in
    let on : c.is_signed.result ≡ true = search rules in
    let signed : is_signed (past_over body es).last ≡ true = sym (c.is_signed.ensures body es s.stands) ∙ on in
    let read = read_digest (λ r. r ≡ Ok c.in-Ok.digest) body _ s (c.in-Ok.ensures body es s.stands) in
    let next : c.next_seqno-seqno.result ≡ (past_over body es).len + 1 = seqno_past body es _ (c.next_seqno-seqno.ensures body now ∙ ap (λ (t : Tail). body.base + length t.entries + 1) (sym c.self.view_is)) in
    let within : c.next_seqno-seqno.result ≤ last_seqno = c.if-seqno-gt-LAST_SEQNO.false in
    let named : nat_lt (past_over body es).len last_seqno ≡ true = grind (arith, nat_tests, next, within) in
    let digest = (short _ _ _ _ (Err refusals.SeqnoLimit) read).1 in
    subst (λ (t : Tail). evidence_result (past_over body t.entries) c.args.view ≡ Ok (evidence c.args.view c.next_seqno-seqno.result c.in-Ok.digest c.new.result)) c.self.view_is
    (taken (is_signed (past_over body es).last) _ _ signed ∙ (short _ _ _ _ _ read).0
    ∙ ap (λ (r : Result Entry Refusal). by_store r) (taken (nat_lt (past_over body es).len last_seqno) _ _ named)
    ∙ ap (λ (e : Entry). Ok e) (evidence_is c.args.view _ c.next_seqno-seqno.result _ c.in-Ok.digest c.new.result next digest c.new.ensures))
