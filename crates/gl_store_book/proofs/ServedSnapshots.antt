-- The snapshot with an evidence of a ledger, as a node gives it: there is one where the rules of
-- consensus find the evidence; it is the only one; and it is one of the ledger with more entries too.
use Rattle.std.proofs.Common.{◌≡◌, ℕ, zero, suc, ◌+◌, ◌-◌, ◌<◌, ◌≤◌, true, List, ◌++◌, length, take, Option, None, Some, refl, sym, ap, subst, ◌∙◌, arith}
use Rattle.std.proofs.lemmas.List.{take-append-le}
use Rattle.std.proofs.lemmas.Option.{same_Some}
use Rattle.gl_base.proofs.Lists.{slice_get-of_take}
use Rattle.gl_rules.specs.Identity.{NodeId}
use Rattle.gl_rules.specs.Log.{entry_at, last_signature}
use Rattle.gl_rules.specs.Replication.{is_evidence_at}
use Rattle.gl_entry.specs.Entry.{is_evidence}
use Rattle.gl_entry.specs.Leaf.{id_of}
use Rattle.gl_entry.specs.declared.entry.Entry.{Entry}
use Rattle.gl_snapshot_body.specs.Body.{body_bytes, snapshot_limit}
use Rattle.gl_snapshot_body.specs.declared.body.Body.{Body}
use Rattle.gl_ledger.specs.LedgerBook.{ServiceBook, ledger_book}
use Rattle.gl_ledger.specs.NodeKeys.{NodeKeys, service_layers}
use Rattle.gl_ledger.specs.Snapshot.{snapshot_of, snapshot_over}
use Rattle.gl_ledger_base.specs.Ledgers.{HoldsLedger, IsBase}
use Rattle.gl_ledger_base.proofs.LedgersHeld.{held_audited, held_snapshot}
use Rattle.gl_ledger_base.proofs.LedgersReads.{held_cut}
use Rattle.gl_receipt.specs.Made.{receipt_of}
use Rattle.gl_receipt.proofs.MakeLemmas.{within}
use Rattle.gl_snapshot.specs.declared.snapshot.Snapshot.{Snapshot}
use Rattle.gl_answers.specs.Receipts.{receipts_of}
use Rattle.gl_answers.specs.Snapshots.{IsSnapshotWith, evidence_below}
use Rattle.gl_store_book.specs.BasedLedgers.{BasedLedger, IsAudited, IsEncoded, base_of, body_of}
use Rattle.gl_store_book.proofs.ReceiptParts.{at_more, made_parts, receipt_more, receipt_same}
use Rattle.gl_store_book.proofs.ShownSnapshots.{shown}
use Rattle.gl_store_book.proofs.SnapshotsGiven.{evidence_found, signature_found, snapshot_given}

-- ---- one alone

same_parts : (s t : Snapshot) → s.body ≡ t.body → s.receipt ≡ t.receipt → s.entry ≡ t.entry → s ≡ t
same_parts s t body receipt entry i = record { body = body i; receipt = receipt i; entry = entry i }

pub same : (base : ℕ) (log : List Entry) (c d evidence : ℕ) (s t : Snapshot) → IsSnapshotWith base log c evidence s → IsSnapshotWith base log d evidence t → s ≡ t
same base log c d evidence s t one other =
    let entry : s.entry ≡ t.entry = same_Some s.entry t.entry (sym one.entry ∙ other.entry) in
    same_parts s t (one.body ∙ sym other.body)
    (receipt_same base c d log (id_of s.entry) s.receipt t.receipt one.receipt (ap (λ (e : Entry). receipt_of (receipts_of base log d) (id_of e)) entry ∙ other.receipt))
    entry

-- ---- more entries

pub longer : (base : ℕ) (log more : List Entry) (c evidence : ℕ) (s : Snapshot) → c ≤ length log → IsSnapshotWith base log c evidence s → IsSnapshotWith base (log ++ more) c evidence s
longer base log more c evidence s low is =
    let there = within log evidence s.entry is.entry in
    record {
      body = is.body ∙ ap snapshot_of (sym (take-append-le (evidence - 1) log more (omega (arith, there.1))));
      entry = at_more log more evidence there.1 ∙ is.entry;
      receipt = receipt_more base log more c low (id_of s.entry) s.receipt (made_parts (receipts_of base log c) (id_of s.entry) s.receipt is.receipt);
      readable = is.readable;
    }

-- ---- there is one

-- what stands at the seqno of an evidence is one
evidence_entry : (keys : NodeKeys) (o : Option Entry) → is_evidence_at (ledger_book service_layers keys) o ≡ true → (e : Entry) × (o ≡ Some e) × (is_evidence e.content ≡ true)
evidence_entry keys None is = absurd (cc)
evidence_entry keys (Some e) is = (e, refl, is)

module _ (l : BasedLedger) (log : List Entry) (holds : HoldsLedger service_layers (body_of l.snapshot) l.entries log) (valid : IsAudited l) (keys : NodeKeys) (commit : ℕ) (within_log : commit ≤ length log) where
  abbrev book : ServiceBook
  book = ledger_book service_layers keys

  -- of the evidence at a seqno, and the last signature up to the commit
  given_at : (seqno signed : ℕ) → base_of l < seqno → seqno ≤ signed - 1 → is_evidence_at book (entry_at log seqno) ≡ true → last_signature book (take commit log) ≡ signed →
      (s : Snapshot) × IsSnapshotWith (base_of l) log commit seqno s
  given_at zero signed high low evident last = absurd (omega (arith, high))
  given_at (suc n) zero high low evident last = absurd (omega (arith, low))
  given_at (suc n) (suc k) high low evident last =
      let e = evidence_entry keys (entry_at log (suc n)) evident in
      let f = signature_found book (take commit log) k last in
      let sealed = slice_get-of_take commit log k f.0 f.1 in
      let shows = shown l valid log holds n (omega (arith, high)) book keys refl (ap (λ (m : ℕ). is_evidence_at book (entry_at log m)) (let z : n + 1 ≡ suc n = omega arith in z) ∙ evident) in
      let body : snapshot_over (body_of l.snapshot) (take (n - base_of l) l.entries) ≡ snapshot_of (take n log) =
      held_snapshot service_layers (body_of l.snapshot) (take (n - base_of l) l.entries) (take n log) (held_cut service_layers (body_of l.snapshot) l.entries log holds n (omega (arith, high))) in
      snapshot_given (base_of l) log (held_audited service_layers (body_of l.snapshot) l.entries log holds valid) n e.0 e.1 e.2 (omega (arith, high))
      (subst (λ (b : Body). IsBase service_layers b (take n log)) body shows.base) (subst (λ (b : Body). length (body_bytes b) ≤ snapshot_limit) body shows.within)
      commit within_log k f.0 (omega (arith, low)) sealed.0 sealed.1 f.2

pub exists : (l : BasedLedger) (log : List Entry) → HoldsLedger service_layers (body_of l.snapshot) l.entries log → IsAudited l → IsEncoded l.snapshot → (keys : NodeKeys) (me : NodeId) (commit evidence : ℕ) → commit ≤ length log →
    evidence_below (ledger_book service_layers keys) (record { me = me; base = base_of l; log = log }) commit ≡ Some evidence → (s : Snapshot) × IsSnapshotWith (base_of l) log commit evidence s
exists l log holds valid encoded keys me commit evidence within_log is =
    let found = evidence_found (ledger_book service_layers keys) log (base_of l) (last_signature (ledger_book service_layers keys) (take commit log) - 1) evidence is in
    given_at l log holds valid keys commit within_log evidence (last_signature (ledger_book service_layers keys) (take commit log)) found.high found.low found.evident refl
