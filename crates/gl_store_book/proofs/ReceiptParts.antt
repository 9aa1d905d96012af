-- Of what a receipt by a ledger is made; and a ledger with more entries gives it too.
use Rattle.std.proofs.Common.{◌≡◌, ℕ, zero, suc, ◌-◌, ◌≤◌, List, ◌++◌, length, take, drop, Bool, true, false, ◌&&◌, nat_le, Option, None, Some, option_map, Result, Ok, Err, if◌then◌else◌, refl, sym, ap, ap₂, subst, ◌∙◌, arith}
use Rattle.std.specs.List.{find}
use Rattle.std.specs.Option.{option_or}
use Rattle.std.proofs.lemmas.Bool.{and_parts}
use Rattle.std.proofs.lemmas.Bool.Decides.{nat_tests}
use Rattle.std.proofs.lemmas.List.{drop-append-le, take-append-le}
use Rattle.std.proofs.lemmas.List.Folds.{find-append}
use Rattle.std.proofs.lemmas.Option.{same_Some}
use Rattle.gl_base.specs.Bytes.{same_bytes}
use Rattle.gl_base.specs.Status.{status_of}
use Rattle.gl_base.specs.Steps.{◌>>=◌}
use Rattle.gl_base.specs.declared.tx_id.TxId.{TxId}
use Rattle.gl_base.proofs.Lists.{slice_get-append, slice_get-below}
use Rattle.gl_base.proofs.Steps.{bind_ok}
use Rattle.gl_entry.specs.Entry.{is_signature}
use Rattle.gl_entry.specs.declared.entry.Entry.{Entry}
use Rattle.gl_ledger.specs.ServiceRow.{identity_in}
use Rattle.gl_ledger.specs.Tree.{leaves_of, tables_of}
use Rattle.gl_merkle.specs.Path.{path_of}
use Rattle.gl_receipt.specs.Made.{Ledger, above_base, commit_id, committed_entry, components_of, entry_at, if_committed, if_within, is_under_same_key, later_signature, receipt_by, receipt_of, recorded_signature, signature_above, signed_in_entry, status_in, view_at}
use Rattle.gl_receipt.specs.declared.components.Receipt.{Receipt}
use Rattle.gl_receipt.specs.declared.make_fault.MakeFault.{MakeFault}
use Rattle.gl_receipt.specs.declared.make_fault.MakeFault.TheVariants.{NoLaterSignature}
use Rattle.gl_receipt.proofs.MakeLemmas.{entry_of, within}
use Rattle.gl_audit.proofs.Cutting.{leaves_of-take}
use Rattle.gl_answers.specs.Receipts.{receipts_of}

-- ---- the parts

-- The first signature above a seqno is committed, and under the key in force there.
pub record IsLater (l : Ledger) (seqno : ℕ) (s : Entry) : Type 0 where
  pub found : signature_above l.entries seqno ≡ Some s
  pub within : s.seqno ≤ l.commit
  pub under : is_under_same_key l seqno s.seqno ≡ true

later_parts : (l : Ledger) (seqno : ℕ) (s : Entry) → later_signature l seqno ≡ Ok s → IsLater l seqno s
later_parts l seqno s h = go (signature_above l.entries seqno) refl h
  where
    chosen : (f : Entry) → signature_above l.entries seqno ≡ Some f → (passes : Bool) → (nat_le f.seqno l.commit && is_under_same_key l seqno f.seqno) ≡ passes →
        ◌≡◌ {A = Result Entry MakeFault} (if passes then Ok f else Err (NoLaterSignature l.commit)) (Ok s) → IsLater l seqno s
    chosen f is false off h = absurd (cc)
    chosen f is true on h =
        let same : f ≡ s = cc in
        let both = and_parts (nat_le f.seqno l.commit) (is_under_same_key l seqno f.seqno) on in
        subst (λ (x : Entry). IsLater l seqno x) same (record { found = is; within = (let low = both.0 in grind (arith, nat_tests, low)); under = both.1 })

    go : (o : Option Entry) → signature_above l.entries seqno ≡ o → if_within l seqno o ≡ Ok s → IsLater l seqno s
    go None is h = absurd (cc)
    go (Some f) is h = chosen f is (nat_le f.seqno l.commit && is_under_same_key l seqno f.seqno) refl h

later_by : (l : Ledger) (seqno : ℕ) (s : Entry) → IsLater l seqno s → later_signature l seqno ≡ Ok s
later_by l seqno s is =
    let within = is.within in
    let low : nat_le s.seqno l.commit ≡ true = grind (arith, nat_tests, within) in
    ap (if_within l seqno) is.found
    ∙ ap₂ (λ (a b : Bool). if a && b then Ok s else Err (NoLaterSignature l.commit)) low is.under

-- the receipt is that of an entry and a signature
pub record IsMade (l : Ledger) (id : TxId) (r : Receipt) : Type 0 where
  pub entry : Entry
  pub signature : Entry
  pub committed : committed_entry l id ≡ Ok entry
  pub above : above_base l id.seqno ≡ Ok tt
  pub later : IsLater l id.seqno signature
  pub made : receipt_by l id entry signature ≡ r

pub made_parts : (l : Ledger) (id : TxId) (r : Receipt) → receipt_of l id ≡ Ok r → IsMade l id r
unfolding receipt_of
made_parts l id r h =
    let one = bind_ok (committed_entry l id) _ r h in
    let two = bind_ok (above_base l id.seqno) _ r one.2 in
    let three = bind_ok (later_signature l id.seqno) _ r two.2 in
    let same : receipt_by l id one.0 three.0 ≡ r = (let is = three.2 in cc) in
    record { entry = one.0; signature = three.0; committed = one.1; above = two.1; later = later_parts l id.seqno three.0 three.1; made = same }

pub made_by : (l : Ledger) (id : TxId) (r : Receipt) → IsMade l id r → receipt_of l id ≡ Ok r
unfolding receipt_of
made_by l id r is =
    ap (λ (o : Result Entry MakeFault). o >>= (λ e. above_base l id.seqno >>= (λ u. later_signature l id.seqno >>= (λ s. Ok (receipt_by l id e s))))) is.committed
    ∙ ap (λ (o : Result Unit MakeFault). o >>= (λ u. later_signature l id.seqno >>= (λ s. Ok (receipt_by l id is.entry s)))) is.above
    ∙ ap (λ (o : Result Entry MakeFault). o >>= (λ s. Ok (receipt_by l id is.entry s))) (later_by l id.seqno is.signature is.later)
    ∙ ap Ok is.made

-- ---- another commit

-- the commit changes no receipt that there is
pub receipt_same : (base c d : ℕ) (log : List Entry) (id : TxId) (r q : Receipt) → receipt_of (receipts_of base log c) id ≡ Ok r → receipt_of (receipts_of base log d) id ≡ Ok q → r ≡ q
receipt_same base c d log id r q one other =
    let a = made_parts (receipts_of base log c) id r one in
    let b = made_parts (receipts_of base log d) id q other in
    let entry : a.entry ≡ b.entry =
    same_Some a.entry b.entry (sym (entry_of (receipts_of base log c) id a.entry a.committed).there ∙ (entry_of (receipts_of base log d) id b.entry b.committed).there) in
    let signature : a.signature ≡ b.signature = same_Some a.signature b.signature (sym a.later.found ∙ b.later.found) in
    sym a.made ∙ ap₂ (λ (e s : Entry). receipt_by (receipts_of base log c) id e s) entry signature ∙ b.made

-- ---- more entries

pub at_more : (log more : List Entry) (n : ℕ) → n ≤ length log → entry_at (log ++ more) n ≡ entry_at log n
at_more log more zero low = refl
at_more log more (suc i) low = let x = slice_get-below log i (omega (arith, low)) in slice_get-append log more i x.0 x.1 ∙ sym x.1

module _ (base : ℕ) (log more : List Entry) (c : ℕ) (within_log : c ≤ length log) (id : TxId) (r : Receipt) (is : IsMade (receipts_of base log c) id r) where
  abbrev old : Ledger
  old = receipts_of base log c

  abbrev new : Ledger
  new = receipts_of base (log ++ more) c

  low : id.seqno ≤ length log
  low = (within log id.seqno is.entry (entry_of old id is.entry is.committed).there).1

  view_same : (n : ℕ) → n ≤ length log → view_at (log ++ more) n ≡ view_at log n
  view_same n within = ap (option_map (λ (e : Entry). e.view)) (at_more log more n within)

  identity_same : (n : ℕ) → n ≤ length log → new.identity n ≡ old.identity n
  identity_same n within = ap (λ (es : List Entry). identity_in (tables_of es)) (take-append-le n log more within)

  leaves_same : (n : ℕ) → n ≤ length log → take n new.leaves ≡ take n old.leaves
  leaves_same n within = sym (leaves_of-take (log ++ more) n) ∙ ap leaves_of (take-append-le n log more within) ∙ leaves_of-take log n

  status_same : status_in new id ≡ status_in old id
  status_same =
      ap (λ (o : Option ℕ). status_of id o (commit_id new)) (view_same id.seqno low)
      ∙ ap (λ (o : Option ℕ). status_of id (view_at log id.seqno) (option_map (λ (view : ℕ). record { view = view; seqno = c }) o)) (view_same c within_log)

  committed_same : committed_entry new id ≡ Ok is.entry
  committed_same =
      ap (λ (o : Option Entry). if_committed (status_in new id) o) (at_more log more id.seqno low)
      ∙ ap (λ s. if_committed s (entry_at log id.seqno)) status_same
      ∙ is.committed

  signed_low : is.signature.seqno ≤ length log
  signed_low = let w = is.later.within in omega (arith, w, within_log)

  later_same : IsLater new id.seqno is.signature
  later_same = record {
    found =
        ap (find (λ (e : Entry). is_signature e.content)) (drop-append-le id.seqno log more low)
        ∙ find-append (λ (e : Entry). is_signature e.content) (drop id.seqno log) more
        ∙ ap (λ (o : Option Entry). option_or o (find (λ (e : Entry). is_signature e.content) more)) is.later.found;
    within = is.later.within;
    under = ap₂ same_bytes (identity_same id.seqno low) (identity_same is.signature.seqno signed_low) ∙ is.later.under;
  }

  by_same : receipt_by new id is.entry is.signature ≡ r
  by_same =
      ap₂ (λ (key : List ℕ) (leaves : List (List ℕ)). record {
        leaf_components = components_of key id is.entry;
        proof = path_of leaves id.seqno;
        signature = recorded_signature is.signature.content;
        signed = signed_in_entry is.signature;
      }) (identity_same id.seqno low) (leaves_same (is.signature.seqno - 1) (let w = signed_low in omega (arith, w)))
      ∙ is.made

  pub receipt_more : receipt_of new id ≡ Ok r
  receipt_more = made_by new id r (record { entry = is.entry; signature = is.signature; committed = committed_same; above = is.above; later = later_same; made = by_same })
