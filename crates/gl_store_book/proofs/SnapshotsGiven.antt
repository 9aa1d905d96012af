-- An evidence of a ledger, above which a committed signature stands, has a snapshot that is read as
-- it again.
use Rattle.std.proofs.Common.{◌≡◌, ℕ, zero, suc, ◌-◌, ◌^◌, ◌<◌, ◌≤◌, List, [], ◌∷◌, length, take, Bool, true, false, ◌&&◌, nat_eq, nat_le, nat_lt, slice_get, None, Some, is_ok, if◌then◌else◌, refl, ap, subst, ◌∙◌, arith}
use Rattle.std.specs.List.{AllByRecursion}
use Rattle.std.proofs.lemmas.Bool.{and_from}
use Rattle.std.proofs.lemmas.Bool.Decides.{nat_tests}
use Rattle.std.proofs.lemmas.List.{length-take-le}
use Rattle.std.proofs.lemmas.Option.{same_Some}
use Rattle.gl_base.proofs.Lists.{slice_get-within}
use Rattle.gl_entry.specs.Entry.{is_entry, is_evidence, is_signature}
use Rattle.gl_entry.specs.Leaf.{id_of}
use Rattle.gl_entry.specs.declared.entry.Entry.{Entry}
use Rattle.gl_rules.specs.Book.{Book}
use Rattle.gl_rules.specs.Log as logs
use Rattle.gl_rules.specs.Log.{last_signature, seqno_with_first}
use Rattle.gl_rules.specs.Replication.{greatest_evidence, is_evidence_at}
use Rattle.gl_gov_rules.specs.GovernedRows.{governed_rows}
use Rattle.gl_snapshot_body.specs.Body.{body_bytes, snapshot_limit}
use Rattle.gl_ledger.specs.Behind.{IsBaseBody}
use Rattle.gl_ledger.specs.NodeKeys.{service_layers}
use Rattle.gl_ledger.specs.Snapshot.{snapshot_of}
use Rattle.gl_ledger.specs.Tree.{leaves_of}
use Rattle.gl_vmaps.specs.Tables.{no_tables}
use Rattle.gl_ledger_base.specs.Ledgers.{IsBase, audited_from}
use Rattle.gl_ledger_base.proofs.LedgersReadable.{readable}
use Rattle.gl_receipt.specs.Made.{Ledger, receipt_by}
use Rattle.gl_receipt.specs.Ranges.{IsDigest}
use Rattle.gl_receipt.specs.declared.components.Receipt.{Receipt}
use Rattle.gl_snapshot.specs.Snapshot.{IsSnapshot, is_evidence_of, receipt_text}
use Rattle.gl_snapshot.specs.declared.snapshot.Snapshot.{Snapshot}
use Rattle.gl_answers.specs.Receipts.{receipts_of}
use Rattle.gl_answers.specs.Snapshots.{IsSnapshotWith}
use Rattle.gl_store_book.proofs.KeysInForce.{IsGiven, all_read, evidence_given, evidence_later}
use Rattle.gl_store_book.proofs.ReceiptRanges.{leaves_digests, receipt_evidence, receipt_path, receipt_signed, receipt_textual}
use Rattle.gl_store_book.proofs.ReceiptTexts.{IsTextual, receipt_again, receipt_short}

-- ---- what the rules of consensus read

module _ {E Q G R A F : Type 0} (b : Book E Q G R A F) where
  -- An evidence that they find stands above the base, at a seqno up to the last asked for.
  pub record IsFound (log : List E) (base most seqno : ℕ) : Type 0 where
    pub high : base < seqno
    pub low : seqno ≤ most
    pub evident : is_evidence_at b (logs.entry_at log seqno) ≡ true

  pub evidence_found : (log : List E) (base most seqno : ℕ) → greatest_evidence b log base most ≡ Some seqno → IsFound log base most seqno
  unfolding greatest_evidence
  evidence_found log base zero seqno is = absurd (cc)
  evidence_found log base (suc n) seqno is =
      go (nat_lt base (suc n)) refl (is_evidence_at b (logs.entry_at log (suc n))) refl is (λ h. evidence_found log base n seqno h)
    where
      wider : IsFound log base n seqno → IsFound log base (suc n) seqno
      wider f = record { high = f.high; low = (let low = f.low in omega (arith, low)); evident = f.evident }

      here : suc n ≡ seqno → base < suc n → is_evidence_at b (logs.entry_at log (suc n)) ≡ true → IsFound log base (suc n) seqno
      here same high evident = subst (λ (k : ℕ). IsFound log base (suc n) k) same (record { high = high; low = omega arith; evident = evident })

      go : (t : Bool) → nat_lt base (suc n) ≡ t → (u : Bool) → is_evidence_at b (logs.entry_at log (suc n)) ≡ u → (if t && u then Some (suc n) else greatest_evidence b log base n) ≡ Some seqno →
          (greatest_evidence b log base n ≡ Some seqno → IsFound log base n seqno) → IsFound log base (suc n) seqno
      go true above true evident h rest = here (same_Some (suc n) seqno h) (let high : base < suc n = grind (arith, nat_tests, above) in high) evident
      go true above false evident h rest = wider (rest h)
      go false above u evident h rest = wider (rest h)

  -- where the last signature stands
  pub signature_found : (es : List E) (m : ℕ) → last_signature b es ≡ suc m → (f : E) × (slice_get es m ≡ Some f) × (b.is_signature f ≡ true)
  unfolding last_signature
  signature_found [] m is = absurd (cc)
  signature_found (e ∷ es) m is = go (last_signature b es) refl (b.is_signature e) refl m is (λ k h. signature_found es k h)
    where
      go : (n : ℕ) → last_signature b es ≡ n → (t : Bool) → b.is_signature e ≡ t → (m : ℕ) → seqno_with_first t n ≡ suc m → ((k : ℕ) → last_signature b es ≡ suc k → (f : E) × (slice_get es k ≡ Some f) × (b.is_signature f ≡ true)) →
          (f : E) × (slice_get (e ∷ es) m ≡ Some f) × (b.is_signature f ≡ true)
      go zero none true signs zero h rest = (e, refl, signs)
      go zero none true signs (suc m) h rest = absurd (cc)
      go zero none false signs m h rest = absurd (cc)
      go (suc k) some t signs zero h rest = absurd (cc)
      go (suc k) some t signs (suc m) h rest = rest m (some ∙ (let same : suc k ≡ suc m = cc in same))

-- ---- there is one

module _ (base : ℕ) (log : List Entry) (valid : audited_from service_layers base log ≡ None) (n : ℕ) (e : Entry) (at : slice_get log n ≡ Some e) (evident : is_evidence e.content ≡ true) (above : base ≤ n)
    (stands : IsBase service_layers (snapshot_of (take n log)) (take n log)) (small : length (body_bytes (snapshot_of (take n log))) ≤ snapshot_limit)
    (commit : ℕ) (within_log : commit ≤ length log) (k : ℕ) (f : Entry) (later : n < k) (committed : k < commit) (sealed : slice_get log k ≡ Some f) (signs : is_signature f.content ≡ true) where
  abbrev l : Ledger
  l = receipts_of base log commit

  given : IsGiven log l e
  given = evidence_given service_layers base log valid n e at evident commit within_log above k f later committed sealed signs

  abbrev receipt : Receipt
  receipt = receipt_by l (id_of e) e given.signature

  abbrev snapshot : Snapshot
  snapshot = record { body = snapshot_of (take n log); receipt = receipt; entry = e }

  fits : is_entry e ≡ true
  fits = (all_read service_layers base log valid).in_order.fits n e at

  signature_fits : is_entry given.signature ≡ true
  signature_fits = (all_read service_layers base log valid).in_order.fits given.place given.signature given.there

  digests : AllByRecursion IsDigest (leaves_of log)
  digests = leaves_digests no_tables log

  counted : (snapshot_of (take n log)).base ≡ n
  counted = let there = slice_get-within log n e at in let long = length-take-le n log (omega (arith, there)) in omega (arith, long)

  base_body : IsBaseBody (snapshot_of (take n log))
  base_body = readable service_layers (snapshot_of (take n log)) (take n log) stands (let some = evidence_later service_layers base log valid n e at evident in let is = counted in omega (arith, some, is)) small

  governed : is_ok (governed_rows (snapshot_of (take n log)).base (snapshot_of (take n log)).rows) ≡ true
  governed = ap (λ r. is_ok r) base_body.spelled

  evidence_next : is_evidence_of (snapshot_of (take n log)).base e ≡ true
  evidence_next =
      let num = (all_read service_layers base log valid).in_order.seqnos n e at in
      let is = counted in
      let next : nat_eq e.seqno (suc (snapshot_of (take n log)).base) ≡ true = grind (arith, nat_tests, num, is) in
      and_from (is_evidence e.content) (nat_eq e.seqno (suc (snapshot_of (take n log)).base)) evident next

  textual : IsTextual receipt
  textual = receipt_textual l digests e given.signature fits signature_fits

  is_snapshot : IsSnapshot snapshot
  is_snapshot =
      let short = receipt_short receipt textual (receipt_evidence l digests e given.signature fits signature_fits) (receipt_path l digests e given.signature fits signature_fits) (receipt_signed l digests e given.signature fits signature_fits) in
      record {
        body = base_body.fits;
        within = (let w : nat_le (length (body_bytes (snapshot_of (take n log)))) snapshot_limit ≡ true = grind (arith, nat_tests, small) in w);
        governed = governed;
        receipt = receipt_again receipt textual;
        text = (let w : nat_lt (length (receipt_text receipt)) (2 ^ 32) ≡ true = grind (arith, nat_tests, short) in w);
        entry = fits;
        evidence = evidence_next;
      }

  pub snapshot_given : (s : Snapshot) × IsSnapshotWith base log commit (suc n) s
  snapshot_given = (
    snapshot,
    record {
      body = ap (λ (m : ℕ). snapshot_of (take m log)) (let z : n ≡ suc n - 1 = omega arith in z);
      entry = at;
      receipt = given.receipt;
      readable = is_snapshot;
    },
  )
