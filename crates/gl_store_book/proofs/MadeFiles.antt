-- The bytes that a node makes of a snapshot of its ledger are right in each ledger that it stands
-- for, and there are some where that ledger has a snapshot with this evidence.
use Rattle.std.proofs.Common.{◌≡◌, ℕ, zero, suc, ◌+◌, ◌-◌, ◌<◌, ◌≤◌, ◌^◌, Bool, true, false, ◌&&◌, List, [], ◌∷◌, ◌++◌, length, take, drop, min, nat_le, nat_lt, Option, Some, None, IsSome, Result, Ok, Err, option_map, cond, IfSome, Vec, Global, if◌then◌else◌, refl, sym, ap, ap₂, subst, ◌∙◌, arith}
use Rattle.std.specs.Result.{result_ok}
use Rattle.std.proofs.lemmas.Bool.{and_parts}
use Rattle.std.proofs.lemmas.List.{drop_min, length-take, take_min, take_rest}
use Rattle.std.proofs.lemmas.Option.{same_Some}
use Rattle.gl_answers.specs.Receipts.{receipts_of}
use Rattle.gl_answers.specs.Snapshots.{IsSnapshotWith}
use Rattle.gl_base.proofs.Lists.{slice_get-within}
use Rattle.gl_entry.specs.Entry.{is_entry}
use Rattle.gl_entry.specs.Leaf.{id_of}
use Rattle.gl_entry.specs.declared.entry.Entry.{Entry}
use Rattle.gl_ledger.specs.NodeKeys.{service_layers}
use Rattle.gl_ledger.specs.Snapshot.{snapshot_of, snapshot_over}
use Rattle.gl_ledger_base.specs.Ledgers.{HoldsLedger}
use Rattle.gl_ledger_base.proofs.LedgersHeld.{held_snapshot}
use Rattle.gl_ledger_base.proofs.LedgersReads.{held_above, held_cut}
use Rattle.gl_receipt.specs.Made as made
use Rattle.gl_receipt.specs.declared.components.Receipt.{Receipt}
use Rattle.gl_receipt.specs.declared.make_fault.MakeFault.{MakeFault}
use Rattle.gl_rules.specs.Log.{entry_at}
use Rattle.gl_snapshot.specs.Snapshot.{IsSnapshot, file_bytes, fits, receipt_text, spelled}
use Rattle.gl_snapshot.specs.declared.snapshot.Snapshot.{Snapshot}
use Rattle.gl_snapshot_body.specs.Body.{body_bytes, is_body, is_counted, snapshot_limit}
use Rattle.gl_snapshot_body.specs.declared.body.Body.{Body}
use Rattle.gl_store_book.specs.AtHand.{IsFileWith, received_in, with_receipt}
use Rattle.gl_store_book.specs.BasedLedgers.{BasedLedger, base_of, body_of, len_of}
use Rattle.gl_store_book.proofs.ReceiptCommits.{committed_within}

-- ---- an entry with its receipt

same_Ok : {F : Type 0} (r t : Receipt) → ◌≡◌ {A = Result Receipt F} (Ok r) (Ok t) → r ≡ t
same_Ok r t h = cc

pub none_received : (receipt : Entry → Result Receipt MakeFault) (o : Option Entry) → None ≡ o → None ≡ with_receipt receipt o
none_received receipt o is = ap (with_receipt receipt) is

pub received : (receipt : Entry → Result Receipt MakeFault) (o : Option Entry) (e : Entry) (r : Option Receipt) → Some e ≡ o → r ≡ result_ok (receipt e) → option_map (λ r. (e, r)) r ≡ with_receipt receipt o
received receipt o e r at is = ap (option_map (λ r. (e, r))) is ∙ ap (with_receipt receipt) at

-- Both are there.
record AreThere (gives : Entry → Result Receipt MakeFault) (o : Option Entry) (e : Entry) (r : Receipt) : Type 0 where
  entry : o ≡ Some e
  receipt : gives e ≡ Ok r

are_there : (gives : Entry → Result Receipt MakeFault) (o : Option Entry) (e : Entry) (r : Receipt) → ◌≡◌ {A = Option (Entry × Receipt)} (Some (e, r)) (with_receipt gives o) → AreThere gives o e r
are_there gives None e r h = absurd (cc)
are_there gives (Some f) e r h = go (gives f) refl h
  where
    go : (g : Result Receipt MakeFault) → gives f ≡ g → ◌≡◌ {A = Option (Entry × Receipt)} (Some (e, r)) (option_map (λ r. (f, r)) (result_ok g)) → AreThere gives (Some f) e r
    go (Err x) is h = absurd (cc)
    go (Ok t) is h =
        let both = same_Some (e, r) (f, t) h in
        let same : e ≡ f = ap (λ (p : Entry × Receipt). p.0) both in
        record { entry = ap Some (sym same); receipt = ap gives same ∙ is ∙ ap Ok (sym (ap (λ (p : Entry × Receipt). p.1) both)) }

-- ---- what spells

spelled_is : (s : Snapshot) (bytes : List ℕ) → Some bytes ≡ spelled s → bytes ≡ file_bytes s
spelled_is s bytes h = go (fits s) h
  where
    go : (b : Bool) → Some bytes ≡ cond b (Some (file_bytes s)) None → bytes ≡ file_bytes s
    go true h = same_Some _ _ h
    go false h = absurd (cc)

-- a snapshot does
spells : (s : Snapshot) → IsSnapshot s → spelled s ≡ Some (file_bytes s)
spells s is =
    let counted : is_counted s.body ≡ true = (and_parts _ (is_counted s.body) is.body).1 in
    let all : fits s ≡ true = rw (counted, is.within, is.text, is.entry) refl in
    ap (λ (b : Bool). if b then Some (file_bytes s) else None) all

-- ---- behind a base

same_at : (es : List Entry) (seqno : ℕ) → entry_at es seqno ≡ made.entry_at es seqno
same_at es zero = refl
same_at es (suc i) = refl

within_at : (es : List Entry) (n : ℕ) (e : Entry) → entry_at es n ≡ Some e → (0 < n) × (n ≤ length es)
within_at es zero e at = absurd (cc)
within_at es (suc i) e at = let low = slice_get-within es i e at in (omega arith, omega (arith, low))

-- What is said of the body of the entries before the evidence.
abbrev pub IsBefore : BasedLedger → ℕ → Body → Type 0
IsBefore l evidence b = base_of l < evidence → evidence ≤ len_of l → b ≡ snapshot_over (body_of l.snapshot) (take (evidence - 1 - base_of l) l.entries)

module _ (l : BasedLedger) (log : List Entry) (holds : HoldsLedger service_layers (body_of l.snapshot) l.entries log) (commit evidence : ℕ) where
  abbrev told : Body
  told = body_of l.snapshot

  abbrev gives : Entry → Result Receipt MakeFault
  gives e = made.receipt_of (receipts_of (base_of l) log commit) (id_of e)

  body_held : base_of l < evidence → snapshot_over told (take (evidence - 1 - base_of l) l.entries) ≡ snapshot_of (take (evidence - 1) log)
  body_held low =
      held_snapshot service_layers told (take (evidence - 1 - base_of l) l.entries) (take (evidence - 1) log)
      (held_cut service_layers told l.entries log holds (evidence - 1) (omega (arith, low)))

  module _ (e : Entry) (r : Receipt) (b : Body) (found : ◌≡◌ {A = Option (Entry × Receipt)} (Some (e, r)) (received_in l log commit evidence)) (before : IsBefore l evidence b) where
    there : AreThere gives (entry_at l.entries (evidence - base_of l)) e r
    there = are_there gives (entry_at l.entries (evidence - base_of l)) e r found

    low : base_of l < evidence
    low = let w = (within_at l.entries (evidence - base_of l) e there.entry).0 in omega (arith, w)

    body_is : b ≡ snapshot_of (take (evidence - 1) log)
    body_is =
        let w = (within_at l.entries (evidence - base_of l) e there.entry).1 in
        before low (let under = low in omega (arith, w, under)) ∙ body_held low

    entry_is : made.entry_at log evidence ≡ Some e
    entry_is = sym (same_at log evidence) ∙ held_above service_layers told l.entries log holds evidence low ∙ there.entry

    abbrev snapshot : Snapshot
    snapshot = record { body = b; receipt = r; entry = e }

    -- the bytes that are made are right
    pub made_right : (bytes : List ℕ) → Some bytes ≡ spelled snapshot → IsFileWith (base_of l) log commit evidence bytes
    made_right bytes spells = record {
      committed = committed_within (base_of l) log commit (id_of e) r there.receipt;
      snapshot = snapshot;
      body = body_is;
      entry = entry_is;
      receipt = there.receipt;
      bytes = spelled_is snapshot bytes spells;
    }

    -- and there are some where there is a snapshot
    pub made_some : (s : Snapshot) → IsSnapshotWith (base_of l) log commit evidence s → spelled snapshot ≡ Some (file_bytes s)
    made_some s w =
        let entry : e ≡ s.entry = same_Some _ _ (sym entry_is ∙ w.entry) in
        let receipt : r ≡ s.receipt = same_Ok r s.receipt (sym there.receipt ∙ ap gives entry ∙ w.receipt) in
        let body : b ≡ s.body = body_is ∙ sym w.body in
        ap₂ (λ (x : Body) (y : Receipt). spelled (record { body = x; receipt = y; entry = e })) body receipt
        ∙ ap (λ (x : Entry). spelled (record { body = s.body; receipt = s.receipt; entry = x })) entry
        ∙ spells s w.readable

  -- there are an entry and a receipt then
  pub some_received : (s : Snapshot) → base_of l < evidence → IsSnapshotWith (base_of l) log commit evidence s → received_in l log commit evidence ≡ Some (s.entry, s.receipt)
  some_received s above w =
      let at : entry_at l.entries (evidence - base_of l) ≡ Some s.entry = sym (held_above service_layers told l.entries log holds evidence above) ∙ same_at log evidence ∙ w.entry in
      ap (with_receipt gives) at ∙ ap (λ (g : Result Receipt MakeFault). option_map (λ r. (s.entry, r)) (result_ok g)) w.receipt

-- what is made of the parts
pub spelled_right : (l : BasedLedger) (commit evidence : ℕ) (e : Entry) (r : Receipt) (b : Body) (o : Option (Vec ℕ Global)) → option_map (λ (v : Vec ℕ Global). v.items) o ≡ spelled (record { body = b; receipt = r; entry = e }) → IsBefore l evidence b →
    ((log : List Entry) → HoldsLedger service_layers (body_of l.snapshot) l.entries log → ◌≡◌ {A = Option (Entry × Receipt)} (Some (e, r)) (received_in l log commit evidence)) →
    IfSome o (λ v. (log : List Entry) → HoldsLedger service_layers (body_of l.snapshot) l.entries log → IsFileWith (base_of l) log commit evidence v.items)
spelled_right l commit evidence e r b None is before found = tt
spelled_right l commit evidence e r b (Some v) is before found = λ log holds. made_right l log holds commit evidence e r b (found log holds) before v.items is

pub spelled_some : (l : BasedLedger) (log : List Entry) (holds : HoldsLedger service_layers (body_of l.snapshot) l.entries log) (commit evidence : ℕ) (e : Entry) (r : Receipt) (b : Body) →
    ◌≡◌ {A = Option (Entry × Receipt)} (Some (e, r)) (received_in l log commit evidence) → IsBefore l evidence b →
    (o : Option (Vec ℕ Global)) → option_map (λ (v : Vec ℕ Global). v.items) o ≡ spelled (record { body = b; receipt = r; entry = e }) → (s : Snapshot) → IsSnapshotWith (base_of l) log commit evidence s → IsSome o
spelled_some l log holds commit evidence e r b found before (Some v) is s w = refl
spelled_some l log holds commit evidence e r b found before None is s w =
    let none : None ≡ Some (file_bytes s) = is ∙ made_some l log holds commit evidence e r b found before s w in
    absurd (cc)

-- ---- a part of them

-- cut off in front, and then behind
pub part_within : (bytes : List ℕ) (offset m n most : ℕ) → m ≡ min offset (length bytes) → n ≡ min (length (take (length bytes - m) (drop m bytes))) most →
    take n (take (length bytes - m) (drop m bytes)) ≡ take most (drop offset bytes)
part_within bytes offset m n most front behind =
    let rest = take_rest bytes m in
    let size : n ≡ min most (length (drop m bytes)) = let long = ap (λ (xs : List ℕ). length xs) rest in omega (arith, behind, long) in
    ap₂ (λ (k : ℕ) (xs : List ℕ). take k xs) size rest ∙ take_min most (drop m bytes) ∙ ap (λ (k : ℕ). take most (drop k bytes)) front ∙ ap (take most) (drop_min offset bytes)

pub part_sized : (bytes : List ℕ) (offset most : ℕ) → length (take most (drop offset bytes)) ≤ most
part_sized bytes offset most = let long = length-take most (drop offset bytes) in omega (arith, long)
