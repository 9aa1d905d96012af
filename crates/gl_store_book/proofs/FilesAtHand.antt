-- The bytes that a node keeps of a snapshot stay those as its ledger grows, and are those of the
-- snapshot with this evidence, whichever commit it is asked at.
use Rattle.std.proofs.Common.{◌≡◌, ℕ, zero, suc, ◌+◌, ◌-◌, ◌<◌, ◌≤◌, List, [], ◌∷◌, ◌++◌, length, take, Option, Some, None, Result, Ok, Err, IfSome, OnOk, OnErr, refl, sym, ap, ap₂, subst, ◌∙◌, arith, append-nil}
use Rattle.std.proofs.lemmas.List.{append_assoc, length-append, take_all, take-append-le}
use Rattle.std.proofs.lemmas.Option.{same_Some}
use Rattle.gl_answers.specs.Receipts.{receipts_of}
use Rattle.gl_answers.specs.Snapshots.{IsSnapshotWith}
use Rattle.gl_entry.specs.Leaf.{id_of}
use Rattle.gl_entry.specs.declared.entry.Entry.{Entry}
use Rattle.gl_ledger.specs.NodeKeys.{service_layers}
use Rattle.gl_ledger.specs.Snapshot.{snapshot_of}
use Rattle.gl_ledger_base.specs.Ledgers.{HoldsLedger}
use Rattle.gl_receipt.specs.Made.{entry_at, receipt_of}
use Rattle.gl_receipt.specs.declared.components.Receipt.{Receipt}
use Rattle.gl_receipt.proofs.MakeLemmas.{within}
use Rattle.gl_snapshot.specs.Snapshot.{file_bytes}
use Rattle.gl_snapshot.specs.declared.snapshot.Snapshot.{Snapshot}
use Rattle.gl_snapshot_body.specs.declared.body.Body.{Body}
use Rattle.gl_store_book.specs.AtHand.{IsAtHand, IsFileOf, IsFileWith}
use Rattle.gl_ledger.specs.declared.breach.Broken.{Broken}
use Rattle.gl_store_book.specs.BasedLedgers.{BasedLedger, base_of, body_of, broken_after, cut_to, len_of, with_entries}
use Rattle.gl_store_book.specs.Taken.{appended, unless_breaks}
use Rattle.gl_store_book.specs.declared.snapshot_file.SnapshotFile.{SnapshotFile}
use Rattle.gl_store_book.proofs.ReceiptParts.{at_more, made_parts, receipt_more, receipt_same}

-- ---- one ledger

-- its bytes are those of the snapshot, whichever commit that is told at
pub same_file : (base : ℕ) (log : List Entry) (c d evidence : ℕ) (file : List ℕ) (s : Snapshot) → IsFileWith base log c evidence file → IsSnapshotWith base log d evidence s → file ≡ file_bytes s
same_file base log c d evidence file s f w =
    let t = f.snapshot in
    let entry : t.entry ≡ s.entry = same_Some _ _ (sym f.entry ∙ w.entry) in
    let receipt : t.receipt ≡ s.receipt =
    receipt_same base c d log (id_of s.entry) t.receipt s.receipt (subst (λ (e : Entry). receipt_of (receipts_of base log c) (id_of e) ≡ Ok t.receipt) entry f.receipt) w.receipt in
    f.bytes
    ∙ ap₂ (λ (b : Body) (r : Receipt). file_bytes (record { body = b; receipt = r; entry = t.entry })) (f.body ∙ sym w.body) receipt
    ∙ ap (λ (e : Entry). file_bytes (record { body = s.body; receipt = s.receipt; entry = e })) entry

-- with more entries
pub file_longer : (base : ℕ) (log more : List Entry) (c evidence : ℕ) (file : List ℕ) → IsFileWith base log c evidence file → IsFileWith base (log ++ more) c evidence file
file_longer base log more c evidence file f =
    let low = (within log evidence f.snapshot.entry f.entry).1 in
    record {
      committed = let long = length-append log more in let within = f.committed in omega (arith, long, within);
      snapshot = f.snapshot;
      body = f.body ∙ ap snapshot_of (sym (take-append-le (evidence - 1) log more (omega (arith, low))));
      entry = at_more log more evidence low ∙ f.entry;
      receipt = receipt_more base log more c f.committed (id_of f.snapshot.entry) f.snapshot.receipt (made_parts (receipts_of base log c) (id_of f.snapshot.entry) f.snapshot.receipt f.receipt);
      bytes = f.bytes;
    }

-- ---- a node's ledger

file_more : (l : BasedLedger) (es : List Entry) (file : SnapshotFile) → IsFileOf l file → IsFileOf (with_entries l (l.entries ++ es)) file
file_more l es file f log holds =
    let before : List Entry = holds.below ++ l.entries in
    let are : log ≡ holds.below ++ (l.entries ++ es) = holds.whole in
    let whole : before ++ es ≡ log = append_assoc holds.below l.entries es ∙ sym are in
    subst (λ (xs : List Entry). IsFileWith (base_of l) xs file.commit file.evidence file.bytes.items) whole
    (file_longer (base_of l) before es file.commit file.evidence file.bytes.items (f before (record { below = holds.below; base = holds.base; whole = refl })))

pub at_hand_same : (l m : BasedLedger) (file : Option SnapshotFile) → m ≡ l → IsAtHand l file → IsAtHand m file
at_hand_same l m file same f = subst (λ (x : BasedLedger). IsAtHand x file) (sym same) f

pub at_hand_more : (l m : BasedLedger) (es : List Entry) (file : Option SnapshotFile) → m ≡ with_entries l (l.entries ++ es) → IsAtHand l file → IsAtHand m file
at_hand_more l m es None more f = tt
at_hand_more l m es (Some file) more f = subst (λ (x : BasedLedger). IsFileOf x file) (sym more) (file_more l es file f)

-- a file that is dropped where the ledger is cut

-- What is kept of a file where a ledger is cut to a seqno: all of it, where none of the ledger is cut.
abbrev Left : BasedLedger → ℕ → Option SnapshotFile → Option SnapshotFile → Type 0
Left l to old new = IfSome new (λ file. (old ≡ Some file) × (len_of l ≤ to))

uncut : (l : BasedLedger) (to : ℕ) → len_of l ≤ to → cut_to to l ≡ l
uncut l to high = ap (with_entries l) (take_all (to - base_of l) l.entries (omega (arith, high)))

pub at_hand_cut : (l m : BasedLedger) (old new : Option SnapshotFile) (to : ℕ) → m ≡ cut_to to l → Left l to old new → IsAtHand l old → IsAtHand m new
at_hand_cut l m old None to cut left f = tt
at_hand_cut l m old (Some file) to cut left f = at_hand_same l m (Some file) (cut ∙ uncut l to left.1) (subst (IsAtHand l) left.0 f)

-- the entries that a ledger takes stand after its own
appended_is : (l m : BasedLedger) (es : List Entry) → appended l es ≡ Ok m → m ≡ with_entries l (l.entries ++ es)
unfolding appended
appended_is l m [] h = let same : l ≡ m = cc in sym same ∙ ap (with_entries l) (sym (append-nil l.entries))
appended_is l m (e ∷ es) h = appended_is (with_entries l (l.entries ++ e ∷ [])) m es (unbroken (broken_after l e) h) ∙ ap (with_entries l) (append_assoc l.entries (e ∷ []) es)
  where
    unbroken : (o : Option Broken) → unless_breaks o (appended (with_entries l (l.entries ++ e ∷ [])) es) ≡ Ok m → appended (with_entries l (l.entries ++ e ∷ [])) es ≡ Ok m
    unbroken None h = h
    unbroken (Some b) h = absurd (cc)

pub at_hand_replaced : {X E : Type 0} (l m : BasedLedger) (old new : Option SnapshotFile) (to : ℕ) (es : List Entry) (r : Result X E) → OnOk r (appended (cut_to to l) es ≡ Ok m) → OnErr r (m ≡ l) → Left l to old new → IsAtHand l old → IsAtHand m new
at_hand_replaced l m old None to es r took same left f = tt
at_hand_replaced l m old (Some file) to es (Ok x) took same left f =
    at_hand_more l m es (Some file) (appended_is l m es (ap (λ (x : BasedLedger). appended x es) (sym (uncut l to left.1)) ∙ took)) (subst (IsAtHand l) left.0 f)
at_hand_replaced l m old (Some file) to es (Err x) took same left f = at_hand_same l m (Some file) same (subst (IsAtHand l) left.0 f)
