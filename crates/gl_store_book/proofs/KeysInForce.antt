-- In a ledger without a fault, the key in force at an evidence is the one at the first signature
-- above it, so the evidence has a receipt where that signature is committed.
use Rattle.std.proofs.Common.{◌≡◌, ℕ, zero, suc, ◌+◌, ◌-◌, ◌<◌, ◌≤◌, List, [], ◌∷◌, length, take, drop, min, Bool, true, false, cond, ◌==◌, nat_le, nat_lt, slice_get, Option, None, Some, option_map, Result, Ok, Err, refl, sym, ap, ap₂, subst, ◌∙◌, arith}
use Rattle.std.specs.Cmp.Lexicographic.{bytes_decides}
use Rattle.std.specs.List.{find}
use Rattle.std.proofs.lemmas.Bool.{and_parts}
use Rattle.std.proofs.lemmas.Bool.Decides.{nat_tests}
use Rattle.std.proofs.lemmas.List.{length-take-le}
use Rattle.gl_base.specs.Status.{decided, undecided, status_of}
use Rattle.gl_base.specs.declared.tx_id.Status.{Status}
use Rattle.gl_base.specs.declared.tx_id.Status.TheVariants as statuses
use Rattle.gl_base.specs.declared.tx_id.TxId.{TxId}
use Rattle.gl_base.proofs.Lists.{slice_get-below, slice_get-drop, slice_get-take, slice_get-within, take-next}
use Rattle.gl_entry.specs.Entry.{is_evidence, is_signature}
use Rattle.gl_entry.specs.Leaf.{id_of}
use Rattle.gl_entry.specs.declared.entry.Content.{Content}
use Rattle.gl_entry.specs.declared.entry.Content.TheVariants as content
use Rattle.gl_entry.specs.declared.entry.Entry.{Entry}
use Rattle.gl_rules.specs.World.{first_view}
use Rattle.gl_ledger.specs.Broken.{is_in_order}
use Rattle.gl_ledger.specs.Layers.{Layers}
use Rattle.gl_ledger.specs.Past.{last_of, past_from}
use Rattle.gl_ledger.specs.Recordings.{is_founding, last_entry, recording_of}
use Rattle.gl_ledger.specs.ServiceRow.{identity_in}
use Rattle.gl_ledger.specs.Tree.{tables_of}
use Rattle.gl_ledger.specs.declared.recording.Recording.{Recording}
use Rattle.gl_ledger.specs.declared.recording.Recording.TheVariants as recordings
use Rattle.gl_ledger.proofs.EachPassing.{passes-take}
use Rattle.gl_ledger.proofs.Passing.{PassesAfter}
use Rattle.gl_ledger_base.specs.Ledgers.{audited_from}
use Rattle.gl_ledger_base.proofs.LedgersEach.{all_from, broken_counting, each_from}
use Rattle.gl_ledger_base.proofs.LedgersPassing.{passing_from}
use Rattle.gl_ledger_base.proofs.LedgersRead.{IsRead, is_read}
use Rattle.gl_receipt.specs.Made.{Ledger, above_base, commit_id, committed_entry, entry_at, if_committed, receipt_by, receipt_of, signature_above, status_in}
use Rattle.gl_receipt.specs.declared.make_fault.MakeFault.{MakeFault}
use Rattle.gl_receipt.specs.declared.make_fault.MakeFault.TheVariants.{BelowBase}
use Rattle.gl_answers.specs.Receipts.{receipts_of}
use Rattle.gl_store_book.proofs.KeysKept.{IsKeyed, key_steady, none_begins}
use Rattle.gl_store_book.proofs.ReceiptParts.{IsLater, made_by}

-- ---- the first signature

-- The first signature among entries stands at an index up to this one.
record IsFirst (es : List Entry) (most : ℕ) : Type 0 where
  at : ℕ
  entry : Entry
  found : find (λ (e : Entry). is_signature e.content) es ≡ Some entry
  there : slice_get es at ≡ Some entry
  low : at ≤ most
  before : (i : ℕ) (g : Entry) → i < at → slice_get es i ≡ Some g → is_signature g.content ≡ false

first_in : (es : List Entry) (most : ℕ) (f : Entry) → slice_get es most ≡ Some f → is_signature f.content ≡ true → IsFirst es most
first_in [] most f at signs = absurd (cc)
first_in (x ∷ es) most f at signs = go (is_signature x.content) refl most at (λ m h. first_in es m f h signs)
  where
    go : (b : Bool) → is_signature x.content ≡ b → (n : ℕ) → slice_get (x ∷ es) n ≡ Some f → ((m : ℕ) → slice_get es m ≡ Some f → IsFirst es m) → IsFirst (x ∷ es) n
    go true is n at later = record {
      at = 0;
      entry = x;
      found = ap (λ (b : Bool). cond b (Some x) (find (λ (e : Entry). is_signature e.content) es)) is;
      there = refl;
      low = omega arith;
      before = λ i g below h. absurd (omega (arith, below));
    }
    go false is zero at later = absurd (let same : x ≡ f = cc in let both = sym is ∙ ap (λ (e : Entry). is_signature e.content) same ∙ signs in cc)
    go false is (suc n) at later =
        let rest = later n at in
        record {
          at = suc rest.at;
          entry = rest.entry;
          found = ap (λ (b : Bool). cond b (Some x) (find (λ (e : Entry). is_signature e.content) es)) is ∙ rest.found;
          there = rest.there;
          low = (let low = rest.low in omega (arith, low));
          before = λ i g below h. skip i g rest below h;
        }
      where
        skip : (i : ℕ) (g : Entry) → (rest : IsFirst es n) → i < suc rest.at → slice_get (x ∷ es) i ≡ Some g → is_signature g.content ≡ false
        skip zero g rest below h = let same : x ≡ g = cc in sym (ap (λ (e : Entry). is_signature e.content) same) ∙ is
        skip (suc i) g rest below h = rest.before i g (omega (arith, below)) h

-- ---- a ledger without a fault

-- The ledger gives the receipt of an entry, by a signature of it.
pub record IsGiven (log : List Entry) (l : Ledger) (e : Entry) : Type 0 where
  pub signature : Entry
  pub place : ℕ
  pub there : slice_get log place ≡ Some signature
  pub receipt : receipt_of l (id_of e) ≡ Ok (receipt_by l (id_of e) e signature)

unsigned_evidence : (c : Content) → is_evidence c ≡ true → is_signature c ≡ false
unsigned_evidence (content.Evidence d) is = refl
unsigned_evidence (content.Governance b) is = refl
unsigned_evidence (content.Application b) is = refl
unsigned_evidence (content.Signature s) is = absurd (cc)

module _ (layers : Layers) (base : ℕ) (log : List Entry) (valid : audited_from layers base log ≡ None) where
  abbrev identity : ℕ → List ℕ
  identity n = identity_in (tables_of (take n log))

  pub all_read : IsRead log
  all_read = is_read layers base log valid

  valid_upto : (n : ℕ) → audited_from layers base (take n log) ≡ None
  valid_upto n = all_from layers base (take n log) (passes-take (broken_counting layers base) log n (each_from layers base log valid))

  -- what an entry has passed
  passed_at : (i : ℕ) (e : Entry) → slice_get log i ≡ Some e → PassesAfter layers (past_from (min base (length (take i log))) (take i log)) e
  passed_at i e at = passing_from layers (min base (length (take i log))) (take i log) e (each_from layers base log valid i e at)

  keyed_upto : (n : ℕ) → n < length log → IsKeyed (take (suc n) log)
  keyed_upto n within =
      let read = is_read layers base (take (suc n) log) (valid_upto (suc n)) in
      let long : length (take (suc n) log) ≡ suc n = length-take-le (suc n) log (omega (arith, within)) in
      record { governed = read.governed; tables = read.tables; founded = read.founded (omega (arith, long)) }

  last_there : (i : ℕ) (f : Entry) → slice_get log i ≡ Some f → last_entry (take (suc i) log) ≡ Some f
  last_there i f at =
      let within = slice_get-within log i f at in
      let long : length (take (suc i) log) ≡ suc i = length-take-le (suc i) log (omega (arith, within)) in
      ap (slice_get (take (suc i) log)) (let last : length (take (suc i) log) - 1 ≡ i = omega (arith, long) in last) ∙ slice_get-take (suc i) log i f (omega arith) at

  -- after an entry that is no signature the key is as before
  key_after : (i : ℕ) (f g : Entry) → slice_get log i ≡ Some f → is_signature f.content ≡ false → slice_get log (suc i) ≡ Some g → identity (suc (suc i)) ≡ identity (suc i)
  key_after i f g first signs next =
      let within = slice_get-within log (suc i) g next in
      let whole = take-next log (suc i) g next in
      let p = passed_at (suc i) g next in
      let order : is_in_order (Some (last_of f)) p.recording g.view ≡ true = ap (λ (o : Option Entry). is_in_order (option_map last_of o) p.recording g.view) (sym (last_there i f first)) ∙ p.order in
      let none = none_begins (last_of f) p.recording g.view order signs in
      ap (λ (es : List Entry). identity_in (tables_of es)) whole
      ∙ key_steady (take (suc i) log) g p.recording (keyed_upto i (omega (arith, within))) (subst IsKeyed whole (keyed_upto (suc i) within)) p.reads none.0 none.1

  -- an evidence isn't the first entry
  pub evidence_later : (n : ℕ) (e : Entry) → slice_get log n ≡ Some e → is_evidence e.content ≡ true → 0 < n
  evidence_later (suc n) e at evident = omega arith
  evidence_later zero e at evident =
      absurd (let p = passed_at 0 e at in
      let founds = (and_parts (is_founding p.recording) (e.view == first_view) p.view).0 in
      by e.content evident p.recording p.reads founds)
    where
      by : (c : Content) → is_evidence c ≡ true → (t : Recording) → recording_of c ≡ Some t → is_founding t ≡ true → ⊥
      by (content.Evidence d) is t reads founds = let same : recordings.Evidence d ≡ t = cc in let both = ap is_founding same ∙ founds in cc
      by (content.Governance b) is t reads founds = cc
      by (content.Application b) is t reads founds = cc
      by (content.Signature s) is t reads founds = cc

  module _ (n : ℕ) (e : Entry) (at : slice_get log n ≡ Some e) (evident : is_evidence e.content ≡ true) where
    -- between it and the first signature above it none changes the key
    module _ (first : ℕ) (before : (i : ℕ) (g : Entry) → i < first → slice_get (drop (suc n) log) i ≡ Some g → is_signature g.content ≡ false) (s : Entry) (there : slice_get (drop (suc n) log) first ≡ Some s) where
      placed : slice_get log (suc n + first) ≡ Some s
      placed = sym (slice_get-drop (suc n) log first (suc n + first) refl) ∙ there

      unsigned_at : (j : ℕ) (f : Entry) → j ≤ first → slice_get log (n + j) ≡ Some f → is_signature f.content ≡ false
      unsigned_at zero f low here =
          let same : e ≡ f = (let both = sym at ∙ ap (slice_get log) (let z : n ≡ n + 0 = omega arith in z) ∙ here in cc) in
          sym (ap (λ (x : Entry). is_signature x.content) same) ∙ unsigned_evidence e.content evident
      unsigned_at (suc j) f low here =
          before j f (omega (arith, low)) (slice_get-drop (suc n) log j (n + suc j) (let z : n + suc j ≡ suc n + j = omega arith in z) ∙ here)

      steady : (j : ℕ) → j ≤ suc first → identity (suc n + j) ≡ identity (suc n)
      steady zero low = ap identity (let z : suc n + 0 ≡ suc n = omega arith in z)
      steady (suc j) low =
          let within = slice_get-within log (suc n + first) s placed in
          let f = slice_get-below log (n + j) (omega (arith, within, low)) in
          let g = slice_get-below log (suc (n + j)) (omega (arith, within, low)) in
          ap identity (let z : suc n + suc j ≡ suc (suc (n + j)) = omega arith in z)
          ∙ key_after (n + j) f.0 g.0 f.1 (unsigned_at j f.0 (omega (arith, low)) f.1) g.1
          ∙ ap identity (let z : suc (n + j) ≡ suc n + j = omega arith in z)
          ∙ steady j (omega (arith, low))

    -- ---- its receipt

    module _ (commit : ℕ) (within : commit ≤ length log) (above : base ≤ n) (k : ℕ) (f : Entry) (later : n < k) (committed : k < commit) (sealed : slice_get log k ≡ Some f) (signs : is_signature f.content ≡ true) where
      abbrev l : Ledger
      l = receipts_of base log commit

      numbered : e.seqno ≡ suc n
      numbered = all_read.in_order.seqnos n e at

      entry_there : entry_at log e.seqno ≡ Some e
      entry_there = ap (entry_at log) numbered ∙ at

      status_is : (m : ℕ) → commit ≡ m → status_in l (id_of e) ≡ statuses.Committed
      status_is zero is = absurd (omega (arith, is, committed))
      status_is (suc m) is =
          let g = slice_get-below log m (omega (arith, is, within)) in
          let id : Option TxId = Some (record { view = g.0.view; seqno = commit }) in
          let last : commit_id l ≡ id = ap (λ (o : Option Entry). option_map (λ (view : ℕ). record { view = view; seqno = commit }) (option_map (λ (x : Entry). x.view) o)) (ap (entry_at log) is ∙ g.1) in
          let low : nat_le e.seqno commit ≡ true = (let num = numbered in grind (arith, nat_tests, num, later, committed)) in
          let held : (e.view == e.view) ≡ true = grind (arith, nat_tests) in
          ap₂ (λ (o : Option ℕ) (c : Option TxId). status_of (id_of e) o c) (ap (option_map (λ (x : Entry). x.view)) entry_there) last
          ∙ ap (λ (b : Bool). cond b (decided (e.view == e.view)) (undecided (e.view == e.view) (nat_lt e.view g.0.view))) low
          ∙ ap decided held

      committed_is : committed_entry l (id_of e) ≡ Ok e
      committed_is = ap₂ (λ (s : Status) (o : Option Entry). if_committed s o) (status_is commit refl) entry_there

      above_is : above_base l e.seqno ≡ Ok tt
      above_is =
          let high : nat_le e.seqno base ≡ false = (let num = numbered in grind (arith, nat_tests, num, above)) in
          ap (λ (b : Bool). cond {A = Result Unit MakeFault} b (Err (BelowBase base)) (Ok tt)) high

      first : IsFirst (drop (suc n) log) (k - suc n)
      first = first_in (drop (suc n) log) (k - suc n) f (slice_get-drop (suc n) log (k - suc n) k (omega (arith, later)) ∙ sealed) signs

      signature_there : slice_get log (suc n + first.at) ≡ Some first.entry
      signature_there = placed first.at first.before first.entry first.there

      signature_numbered : first.entry.seqno ≡ suc (suc n + first.at)
      signature_numbered = all_read.in_order.seqnos (suc n + first.at) first.entry signature_there

      same_key : identity e.seqno ≡ identity first.entry.seqno
      same_key =
          ap identity numbered
          ∙ sym (ap identity (signature_numbered ∙ (let z : suc (suc n + first.at) ≡ suc n + suc first.at = omega arith in z)) ∙ steady first.at first.before first.entry first.there (suc first.at) (omega arith))

      later_is : IsLater l e.seqno first.entry
      later_is = record {
        found = ap (λ (m : ℕ). signature_above log m) numbered ∙ first.found;
        within = (let num = signature_numbered in let low = first.low in omega (arith, num, low, later, committed));
        under = (bytes_decides (identity e.seqno) (identity first.entry.seqno)).1 same_key;
      }

      pub evidence_given : IsGiven log l e
      evidence_given = record {
        signature = first.entry;
        place = suc n + first.at;
        there = signature_there;
        receipt = made_by l (id_of e) (receipt_by l (id_of e) e first.entry) (record { entry = e; signature = first.entry; committed = committed_is; above = above_is; later = later_is; made = refl });
      }
