-- A sound ledger is one of the service whose key is in force at each seqno.
use Rattle.std.proofs.Common.{◌≡◌, ℕ, zero, suc, ◌+◌, ◌-◌, ◌^◌, ◌<◌, ◌≤◌, nat_lt, nat_le, true, ◌==◌, ◌&&◌, List, [], length, take, slice_get, Some, None, refl, sym, ap, ap₂, subst, ◌∙◌, arith}
use Rattle.std.proofs.lemmas.Bool.{and_parts, false≢true}
use Rattle.std.proofs.lemmas.Bool.Decides.{nat_tests}
use Rattle.std.proofs.lemmas.List.{length-take-le}
use Rattle.gl_base.specs.Bytes.{are_bytes, is_digest}
use Rattle.gl_base.specs.TxId.{IsTxId, last_seqno}
use Rattle.gl_base.proofs.Lists.{slice_get-within, slice_get-below, take-next}
use Rattle.gl_vmaps.specs.Tables.{wrote_all}
use Rattle.gl_merkle.specs.Tree.{root_of}
use Rattle.gl_hss.specs.Hss.{IsValid}
use Rattle.gl_entry.specs.Entry.{is_signature, is_recorded_signature, is_content, recorded_commit}
use Rattle.gl_entry.specs.Leaf.{id_of, leaf_of}
use Rattle.gl_entry.specs.SignedMessage.{signed_message}
use Rattle.gl_entry.specs.declared.entry.Content.{Content}
use Rattle.gl_entry.specs.declared.entry.Content.TheVariants as content
use Rattle.gl_entry.specs.declared.entry.Entry.{Entry}
use Rattle.gl_entry.specs.declared.entry.Signature as signatures
use Rattle.gl_ledger.specs.ServiceRow.{identity_in}
use Rattle.gl_ledger.specs.Tree.{tables_of, leaves_of}
use Rattle.gl_ledger.specs.NodeKeys.{service_layers}
use Rattle.gl_ledger.specs.Recordings.{records_founding, recording_of}
use Rattle.gl_ledger.specs.Sound.{StandsAs, IsSignatureEntry, IsSound}
use Rattle.gl_ledger.specs.Audit.{audited}
use Rattle.gl_ledger.proofs.Auditing.{audited_none}
use Rattle.gl_ledger.proofs.Passing.{passing}
use Rattle.gl_ledger.proofs.Valid.{valid_sound}
use Rattle.gl_entry.proofs.EntryRanges.{fits_parts}
use Rattle.gl_ledger.proofs.SignatureMeanings.{signature_means}
use Rattle.gl_receipt.specs.Made.{at_seqno, entry_at, recorded_signature, IsOfService}
use Rattle.gl_audit.specs.Committed.{Held}
use Rattle.gl_audit.specs.Committed.{receipts_of}
use Rattle.gl_audit.proofs.Binding.{has_ranges}
use Rattle.gl_audit.proofs.Cutting.{leaves_of-take}
use Rattle.gl_ledger.proofs.Founded.{identity_sized, length_identity}
use Rattle.gl_ledger.proofs.LedgerPrefixes.{sound_prefix}
use Rattle.gl_ledger.proofs.TablesLaws.{tables_of-push}
use Rattle.gl_audit.proofs.InForce.{leaf_in_force}

-- ---- all that receipts ask of a ledger

module _ (ledger : List Entry) (sound : IsSound service_layers ledger) where
  -- the key in force at a seqno
  abbrev identity : ℕ → List ℕ
  identity seqno = identity_in (tables_of (take seqno ledger))

  -- views begin with the first one
  viewed : (i : ℕ) (e : Entry) → slice_get ledger i ≡ Some e → 0 < e.view
  viewed i e at =
      let within = slice_get-within ledger i e at in
      let first = slice_get-below ledger 0 (omega (arith, within)) in
      let up = sound.in_order.views 0 i first.0 e (omega arith) first.1 at in
      let begins = (sound.founded.first first.0 first.1).1 in
      omega (arith, up, begins)

  -- a signature writes nothing, so the key in force is the one before it
  unchanged : (i : ℕ) (e : Entry) → slice_get ledger i ≡ Some e → e.writes ≡ [] → identity (suc i) ≡ identity i
  unchanged i e at none =
      ap (λ (es : List Entry). identity_in (tables_of es)) (take-next ledger i e at) ∙ ap identity_in (tables_of-push (take i ledger) e ∙ ap (wrote_all (tables_of (take i ledger))) none)

  -- a signature of a sound ledger is valid over the root before it
  signed : (i : ℕ) (e : Entry) (s : signatures.Signature) → slice_get ledger i ≡ Some e → e.content ≡ content.Signature s →
      IsValid (identity (suc i)) (signed_message (root_of (take i (leaves_of ledger))) e.view (suc i) s.commit) s.signature
  signed zero e s at is =
      absurd (false≢true (subst (λ (c : Content). records_founding (recording_of c) ≡ true) is (sound.founded.first e at).0))
  signed (suc i) e s at is =
      let stands : IsSignatureEntry service_layers (take (suc i) ledger) e s = subst (λ (c : Content). StandsAs service_layers c (take (suc i) ledger) e) is (sound.serial (suc i) e at) in
      let within = slice_get-within ledger (suc i) e at in
      let long : length (take (suc i) ledger) ≡ suc i = length-take-le (suc i) ledger (omega (arith, within)) in
      let before = sound_prefix service_layers ledger sound (suc i) in
      let key = identity (suc i) in
      let sized = and_parts (length key == 60) (are_bytes key) (identity_sized service_layers (take (suc i) ledger) before (omega (arith, long))) in
      let recorded : is_recorded_signature s ≡ true = subst (λ (c : Content). is_content c ≡ true) is (fits_parts e (sound.in_order.fits (suc i) e at)).content in
      let bytes = and_parts (is_digest s.node && nat_lt s.commit (2 ^ 64) && is_digest s.root) (are_bytes s.signature) recorded in
      let message : List ℕ = signed_message s.root e.view e.seqno s.commit in
      let by = (signature_means key s.node message s.signature (length_identity service_layers (take (suc i) ledger) before (omega (arith, long))) sized.1 bytes.1).0 stands.valid in
      subst (λ (k : List ℕ). IsValid k (signed_message (root_of (take (suc i) (leaves_of ledger))) e.view (suc (suc i)) s.commit) s.signature) (sym (unchanged (suc i) e at stands.writes))
      (subst (λ (m : List ℕ). IsValid key m s.signature)
      (ap₂ (λ (root : List ℕ) (seqno : ℕ). signed_message root e.view seqno s.commit)
      (stands.root ∙ ap root_of (leaves_of-take ledger (suc i))) (sound.in_order.seqnos (suc i) e at))
      by.valid.valid)

  signed_by_content : (c : Content) (i : ℕ) (e : Entry) → slice_get ledger i ≡ Some e → e.content ≡ c → is_signature c ≡ true →
      IsValid (identity (suc i)) (signed_message (root_of (take i (leaves_of ledger))) e.view (suc i) (recorded_commit c)) (recorded_signature c)
  signed_by_content (content.Governance b) i e at is signs = absurd (false≢true signs)
  signed_by_content (content.Application b) i e at is signs = absurd (false≢true signs)
  signed_by_content (content.Signature s) i e at is signs = signed i e s at is
  signed_by_content (content.Evidence d) i e at is signs = absurd (false≢true signs)

-- a sound ledger is one of its service
of_service : (held : Held) → IsSound service_layers held.ledger → length held.ledger ≤ last_seqno → IsOfService (receipts_of held)
of_service held sound few = record { named = named; leaves = leaves; signatures = signatures }
  where
    named : (seqno : ℕ) (e : Entry) → entry_at held.ledger seqno ≡ Some e → IsTxId (id_of e)
    named zero e at = absurd (cc)
    named (suc i) e at =
        let within = slice_get-within held.ledger i e at in
        let is = sound.in_order.seqnos i e at in
        let high = (has_ranges e (sound.in_order.fits i e at)).view in
        record {
          view = (viewed held.ledger sound i e at, omega (arith, high));
          seqno = (omega (arith, is), omega (arith, is, within, few));
        }

    leaves : (seqno : ℕ) (e : Entry) → entry_at held.ledger seqno ≡ Some e →
        at_seqno (leaves_of held.ledger) seqno ≡ Some (leaf_of (identity_in (tables_of (take seqno held.ledger))) e)
    leaves = leaf_in_force held.ledger

    signatures : (seqno : ℕ) (e : Entry) → entry_at held.ledger seqno ≡ Some e → is_signature e.content ≡ true →
        IsValid (identity_in (tables_of (take seqno held.ledger)))
        (signed_message (root_of (take (seqno - 1) (leaves_of held.ledger))) e.view seqno (recorded_commit e.content)) (recorded_signature e.content)
    signatures zero e at signs = absurd (cc)
    signatures (suc i) e at signs =
        subst (λ (n : ℕ). IsValid (identity_in (tables_of (take (suc i) held.ledger))) (signed_message (root_of (take n (leaves_of held.ledger))) e.view (suc i) (recorded_commit e.content)) (recorded_signature e.content))
        (let q : i ≡ suc i - 1 = omega arith in q)
        (signed_by_content held.ledger sound e.content i e at refl signs)

-- ---- a ledger that breaks no rule of the audit

-- each of its seqnos is one that an entry may have
within_seqnos : (ledger : List Entry) → audited service_layers ledger ≡ None → length ledger ≤ last_seqno
within_seqnos ledger valid = go (length ledger) refl
  where
    go : (n : ℕ) → length ledger ≡ n → length ledger ≤ last_seqno
    go zero long = omega (arith, long)
    go (suc n) long =
        let last = slice_get-below ledger n (omega (arith, long)) in
        let passes = passing service_layers (take n ledger) last.0 (audited_none service_layers ledger valid n last.0 last.1) in
        let before : length (take n ledger) ≡ n = length-take-le n ledger (omega (arith, long)) in
        let named : nat_le (n + 1) last_seqno ≡ true = ap (λ (m : ℕ). nat_le (m + 1) last_seqno) (sym before) ∙ passes.named in
        let le : n + 1 ≤ last_seqno = grind (arith, nat_tests, named) in
        omega (arith, le, long)

pub valid_of_service : (held : Held) → audited service_layers held.ledger ≡ None → IsOfService (receipts_of held)
valid_of_service held valid =
    of_service held (valid_sound service_layers held.ledger valid) (within_seqnos held.ledger valid)
