-- A snapshot is verified as the one of a transaction exactly where it shows that.
use Rattle.std.proofs.Common.{◌≡◌, ◌↔◌, ℕ, ◌&&◌, true, List, Result, Ok, Err, ◌⊎◌, inl, inr, nat_eq, refl, sym, ap, ◌∙◌, subst, arith}
use Rattle.std.proofs.lemmas.Bool.{and_parts}
use Rattle.std.proofs.lemmas.Bool.Decides.{nat_tests}
use Rattle.sha2.specs.Sha256.{sha256}
use Rattle.gl_base.specs.Bytes.{same_bytes}
use Rattle.gl_base.specs.declared.tx_id.TxId.{TxId}
use Rattle.gl_base.proofs.ParsedBytes.{chosen}
use Rattle.gl_base.proofs.Steps.{bind_ok, ok_injective}
use Rattle.gl_vmaps.proofs.SameValues.{same_bytes_is, same_bytes_self}
use Rattle.gl_entry.specs.Entry as entries
use Rattle.gl_entry.specs.Leaf.{id_of}
use Rattle.gl_entry.specs.declared.entry.Content.{Content}
use Rattle.gl_entry.specs.declared.entry.Content.TheVariants as content
use Rattle.gl_receipt.specs.Receipt.{Accepts}
use Rattle.gl_receipt.specs.Verdict.{verdict}
use Rattle.gl_receipt.specs.declared.fault.ReceiptFault.{ReceiptFault}
use Rattle.gl_receipt.specs.declared.fault.ReceiptFault.TheVariants.{Evidence}
use Rattle.gl_snapshot_body.specs.Body.{body_bytes}
use Rattle.gl_snapshot.specs.Verdict.{Shows, of_receipt, is_same_id, same_id, same_digest, recorded, verified}
use Rattle.gl_snapshot.specs.declared.fault.SnapshotFault.{SnapshotFault}
use Rattle.gl_snapshot.specs.declared.fault.SnapshotFault.TheVariants.{Receipt, Digest}
use Rattle.gl_snapshot.specs.declared.snapshot.Snapshot.{Snapshot}

-- ---- what each step that succeeds says

of_receipt_ok : {X : Type 0} (r : Result X ReceiptFault) (x : X) → of_receipt r ≡ Ok x → r ≡ Ok x
of_receipt_ok (Ok y) x e = ap (λ z. Ok z) (ok_injective {E = SnapshotFault} y x e)
of_receipt_ok (Err fault) x e = absurd cc

abbrev id_with : ℕ → ℕ → TxId
id_with view seqno = record { view = view; seqno = seqno }

one_id : (a b : TxId) → is_same_id a b ≡ true → a ≡ b
one_id a b same =
    let both = and_parts (nat_eq a.view b.view) (nat_eq a.seqno b.seqno) same in
    let view : a.view ≡ b.view = grind (arith, nat_tests, both.0) in
    let seqno : a.seqno ≡ b.seqno = grind (arith, nat_tests, both.1) in
    ap (λ (x : ℕ). id_with x a.seqno) view ∙ ap (id_with b.view) seqno

same_id_ok : (a b c : TxId) → same_id a b ≡ Ok c → (a ≡ b) × (a ≡ c)
same_id_ok a b c e =
    elim (chosen {A = Result TxId SnapshotFault} (is_same_id a b) (Ok a) (Err (Receipt Evidence)) (Ok c) e) [
      | inl h ↦ (one_id a b h.0, ok_injective {E = SnapshotFault} a c h.1)
      | inr h ↦ cc
    ]

same_digest_ok : (want got : List ℕ) (u : Unit {0}) → same_digest want got ≡ Ok u → want ≡ got
same_digest_ok want got u e =
    elim (chosen {A = Result (Unit {0}) SnapshotFault} (same_bytes want got) (Ok tt) (Err (Digest want got)) (Ok u) e) [
      | inl h ↦ same_bytes_is want got h.0
      | inr h ↦ cc
    ]

recorded_ok : (of : Content) (got : List ℕ) (u : Unit {0}) → recorded of got ≡ Ok u → of ≡ content.Evidence got
recorded_ok (content.Governance b) got u e = absurd cc
recorded_ok (content.Application b) got u e = absurd cc
recorded_ok (content.Signature s) got u e = absurd cc
recorded_ok (content.Evidence d) got u e = ap (λ (x : List ℕ). content.Evidence x) (same_digest_ok d got u e)

-- ---- when each step succeeds

same_id_itself : (id : TxId) → same_id id id ≡ Ok id
same_id_itself id =
    let same : is_same_id id id ≡ true = grind (arith, nat_tests) in
    rw same refl

same_digest_itself : (digest : List ℕ) → same_digest digest digest ≡ Ok tt
same_digest_itself digest = rw (same_bytes_self digest) refl

-- ---- all of them

-- The receipt's verdict is what the receipt is accepted for.
abbrev IsVerdict : List ℕ → Snapshot → Type 0
IsVerdict identity s = (id : TxId) → (verdict identity s.receipt ≡ Ok id) ↔ Accepts identity s.receipt id

shown : (identity : List ℕ) (s : Snapshot) (id : TxId) → IsVerdict identity s → verified identity s ≡ Ok id → Shows identity s id
unfolding verified
shown identity s id accepts e =
    let receipt = bind_ok {E = SnapshotFault} (of_receipt (verdict identity s.receipt)) _ id e in
    let same = bind_ok {E = SnapshotFault} (same_id receipt.0 (id_of s.entry)) _ id receipt.2 in
    let write_set = bind_ok {E = SnapshotFault} (same_digest s.receipt.leaf_components.write_set_digest (sha256 (entries.body_bytes s.entry))) _ id same.2 in
    let body = bind_ok {E = SnapshotFault} (recorded s.entry.content (sha256 (body_bytes s.body))) _ id write_set.2 in
    let ids = same_id_ok receipt.0 (id_of s.entry) same.0 same.1 in
    let last : receipt.0 ≡ id = ids.1 ∙ ok_injective {E = SnapshotFault} same.0 id body.2 in
    let found = of_receipt_ok (verdict identity s.receipt) receipt.0 receipt.1 in
    record {
      receipt = (accepts id).0 (found ∙ ap (λ (x : TxId). Ok x) last);
      named = sym last ∙ ids.0;
      write_set = same_digest_ok s.receipt.leaf_components.write_set_digest (sha256 (entries.body_bytes s.entry)) write_set.0 write_set.1;
      body = recorded_ok s.entry.content (sha256 (body_bytes s.body)) body.0 body.1;
    }

verified_as : (identity : List ℕ) (s : Snapshot) (id : TxId) → IsVerdict identity s → Shows identity s id → verified identity s ≡ Ok id
unfolding verified
verified_as identity s id accepts h =
    let receipt = (accepts id).1 h.receipt in
    let same : same_id id (id_of s.entry) ≡ Ok id = subst (λ (x : TxId). same_id id x ≡ Ok id) h.named (same_id_itself id) in
    let digest = sha256 (entries.body_bytes s.entry) in
    let write_set : same_digest s.receipt.leaf_components.write_set_digest digest ≡ Ok tt =
    subst (λ (x : List ℕ). same_digest x digest ≡ Ok tt) (sym h.write_set) (same_digest_itself digest) in
    let body : recorded s.entry.content (sha256 (body_bytes s.body)) ≡ Ok tt =
    subst (λ (x : Content). recorded x (sha256 (body_bytes s.body)) ≡ Ok tt) (sym h.body) (same_digest_itself (sha256 (body_bytes s.body))) in
    rw (receipt, same, write_set, body) refl

pub verified-shows : (identity : List ℕ) (s : Snapshot) → ((id : TxId) → (verdict identity s.receipt ≡ Ok id) ↔ Accepts identity s.receipt id)
    → (id : TxId) → (verified identity s ≡ Ok id) ↔ Shows identity s id
verified-shows identity s accepts id = (shown identity s id accepts, verified_as identity s id accepts)
