-- Where an entry may be made, the guard refuses no evidence.
use Rattle.std.proofs.Common.{◌≡◌, ℕ, ◌+◌, ◌<◌, ◌≤◌, ◌^◌, List, [], length, None, Ok, Err, Bool, true, false, ◌&&◌, ◌==◌, nat_le, nat_lt, if◌then◌else◌, refl, arith}
use Rattle.std.specs.Cmp.Lexicographic.{bytes_decides}
use Rattle.std.proofs.lemmas.Bool.Decides.{nat_tests}
use Rattle.sha2.specs.Sha256.{sha256}
use Rattle.gl_base.specs.Bytes.{is_digest, same_bytes}
use Rattle.gl_base.specs.TxId.{last_seqno}
use Rattle.gl_entry.specs.Entry.{no_digest, is_entry}
use Rattle.gl_entry.specs.declared.entry.Content.TheVariants as content
use Rattle.gl_entry.specs.declared.entry.Entry.{Entry}
use Rattle.gl_gov_rules.proofs.Digests.{sha256_digest}
use Rattle.gl_snapshot_body.specs.Body.{snapshot_limit}
use Rattle.gl_vmaps.proofs.SameValues.{same_bytes_self}
use Rattle.gl_ledger.specs.declared.refusal.Refusal.TheVariants as refusals
use Rattle.gl_ledger.specs.declared.recording.Recording.TheVariants as recordings
use Rattle.gl_ledger.specs.declared.response.Rejection.TheVariants.{NotAfterSignature}
use Rattle.gl_ledger.specs.Layers.{Layers}
use Rattle.gl_ledger.specs.NodeKeys.{NodeKeys}
use Rattle.gl_ledger.specs.Past.{is_signed, past_of}
use Rattle.gl_ledger.specs.Snapshot.{snapshot_bytes}
use Rattle.gl_ledger.specs.Broken.{broken}
use Rattle.gl_ledger.specs.Makers.{MayMake, by_store, guarded, evidence_entry, evidence_result}
use Rattle.gl_ledger.specs.LedgerBook.{ledger_book}
use Rattle.gl_ledger.proofs.Entries.{is_entry-from_fields, length-body_bytes}
use Rattle.gl_ledger.proofs.MadeEntries.{in_view, in_order, itself, within, unless_none}
use Rattle.gl_ledger.proofs.Passing.{passes, passing_all}
use Rattle.gl_ledger.proofs.SignatureEntries.{digest_length}

evidence_fits : (d : List ℕ) (view seqno : ℕ) → is_digest d ≡ true → view < 2 ^ 32 → seqno < 2 ^ 64 →
    is_entry (record { view = view; seqno = seqno; content = content.Evidence d; writes = []; claims = no_digest }) ≡ true
evidence_fits d view seqno digest low fits =
    let e : Entry = record { view = view; seqno = seqno; content = content.Evidence d; writes = []; claims = no_digest } in
    let long = digest_length d digest in
    is_entry-from_fields e
    (record {
      view = low;
      seqno = fits;
      recorded = digest;
      limits = refl;
      ordered = refl;
      writes = refl;
      digest = refl;
      claims = (bytes_decides no_digest no_digest).1 refl;
    })
    (omega (arith, length-body_bytes e, long))

module _ (layers : Layers) (keys : NodeKeys) where
  evidence_unbroken : (ledger : List Entry) (view : ℕ) → view < 2 ^ 32 → MayMake ledger view → is_signed (past_of ledger).last ≡ true → length (snapshot_bytes ledger) ≤ snapshot_limit →
      length ledger < last_seqno → broken layers ledger (evidence_entry (past_of ledger) view) ≡ None
  evidence_unbroken ledger view low m signed small left =
      let d = sha256 (snapshot_bytes ledger) in
      let few : nat_le (length (snapshot_bytes ledger)) snapshot_limit ≡ true = grind (arith, nat_tests) in
      passing_all layers ledger (evidence_entry (past_of ledger) view) (record {
        recording = recordings.Evidence d;
        reads = refl;
        fits = evidence_fits d view (length ledger + 1) (sha256_digest (snapshot_bytes ledger)) low (omega (arith, left));
        seqno = itself (length ledger + 1);
        named = within (length ledger) left;
        view = in_view layers keys ledger view m (recordings.Evidence d) refl;
        order = in_order layers keys ledger view m (recordings.Evidence d) refl refl;
        rest = passes (is_signed (past_of ledger).last) _ _ signed
            (passes (nat_le (length (snapshot_bytes ledger)) snapshot_limit) _ _ few (passes (same_bytes d d) _ None (same_bytes_self d) refl));
      })

  pub evidence_is : (ledger : List Entry) (view : ℕ) → view < 2 ^ 32 → MayMake ledger view → (ledger_book layers keys).evidence ledger view ≡ evidence_result (past_of ledger) view
  evidence_is ledger view low m =
      go (is_signed (past_of ledger).last) (nat_lt snapshot_limit (length (snapshot_bytes ledger))) (nat_lt (length ledger) last_seqno) refl refl refl
    where
      size : ℕ
      size = length (snapshot_bytes ledger)

      made : Entry
      made = evidence_entry (past_of ledger) view

      go : (a b c : Bool) → is_signed (past_of ledger).last ≡ a → nat_lt snapshot_limit size ≡ b → nat_lt (length ledger) last_seqno ≡ c →
          guarded layers (λ (e : Entry). e) ledger (if a then by_store (if b then Err (refusals.TooLarge size) else (if c then Ok made else Err refusals.SeqnoLimit)) else Err NotAfterSignature)
          ≡ (if a then by_store (if b then Err (refusals.TooLarge size) else (if c then Ok made else Err refusals.SeqnoLimit)) else Err NotAfterSignature)
      go false b c p q r = refl
      go true true c p q r = refl
      go true false false p q r = refl
      go true false true p q r =
          let small : size ≤ snapshot_limit = grind (arith, nat_tests) in
          let left : length ledger < last_seqno = grind (arith, nat_tests) in
          unless_none layers keys (broken layers ledger made) made (evidence_unbroken ledger view low m p small left)
