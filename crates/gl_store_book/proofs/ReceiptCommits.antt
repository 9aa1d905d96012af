-- A ledger that gives a receipt has the entry up to which it is committed.
use Rattle.std.proofs.Common.{◌≡◌, ℕ, ◌<◌, ◌≤◌, Bool, true, false, cond, List, length, Option, None, Some, option_map, Result, Ok, nat_le, nat_lt, refl, sym, ap, ◌∙◌, arith}
use Rattle.std.proofs.lemmas.Bool.Decides.{nat_tests}
use Rattle.gl_base.specs.Status.{decided, is_held, status_of, undecided}
use Rattle.gl_base.specs.declared.tx_id.Status.{Status}
use Rattle.gl_base.specs.declared.tx_id.Status.TheVariants as statuses
use Rattle.gl_base.specs.declared.tx_id.TxId.{TxId}
use Rattle.gl_entry.specs.declared.entry.Entry.{Entry}
use Rattle.gl_receipt.specs.Made.{commit_id, entry_at, if_committed, receipt_of, status_in, view_at}
use Rattle.gl_receipt.specs.declared.components.Receipt.{Receipt}
use Rattle.gl_receipt.proofs.MakeLemmas.{within}
use Rattle.gl_answers.specs.Receipts.{receipts_of}
use Rattle.gl_store_book.proofs.ReceiptParts.{made_parts}

is_committed : (status : Status) (found : Option Entry) (e : Entry) → if_committed status found ≡ Ok e → status ≡ statuses.Committed
is_committed statuses.Committed found e h = refl
is_committed statuses.Unknown found e h = absurd (cc)
is_committed statuses.Pending found e h = absurd (cc)
is_committed statuses.Invalid found e h = absurd (cc)

-- there is a last committed entry then
some_commit : (id : TxId) (local : Option ℕ) (commit : Option TxId) → (id.seqno ≡ 0 → local ≡ None) → status_of id local commit ≡ statuses.Committed → (k : TxId) × (commit ≡ Some k)
some_commit id local commit none h = by_commit commit refl
  where
    decide : (low held later : Bool) → nat_le id.seqno 0 ≡ low → is_held id local ≡ held → cond low (decided held) (undecided held later) ≡ statuses.Committed → id.seqno ≡ 0 → ⊥
    decide low true later is holds h at = let no : is_held id local ≡ false = ap (is_held id) (none at) in absurd (cc)
    decide true false later is holds h at = absurd (cc)
    decide false false true is holds h at = absurd (cc)
    decide false false false is holds h at = absurd (cc)

    zero_of : (low held later : Bool) → nat_le id.seqno 0 ≡ low → cond low (decided held) (undecided held later) ≡ statuses.Committed → id.seqno ≡ 0
    zero_of true held later is h = grind (arith, nat_tests, is)
    zero_of false true later is h = absurd (cc)
    zero_of false false true is h = absurd (cc)
    zero_of false false false is h = absurd (cc)

    by_commit : (c : Option TxId) → commit ≡ c → (k : TxId) × (commit ≡ Some k)
    by_commit (Some k) is = (k, is)
    by_commit None is =
        let at : status_of id local None ≡ statuses.Committed = ap (status_of id local) (sym is) ∙ h in
        absurd (decide (nat_le id.seqno 0) (is_held id local) (nat_lt id.view 0) refl refl at (zero_of (nat_le id.seqno 0) (is_held id local) (nat_lt id.view 0) refl at))

none_at_zero : (es : List Entry) (seqno : ℕ) → seqno ≡ 0 → view_at es seqno ≡ None
none_at_zero es seqno at = ap (view_at es) at

-- and it is one of the entries
commit_within : (es : List Entry) (seqno : ℕ) (k : TxId) → option_map (λ (view : ℕ). record { view = view; seqno = seqno }) (view_at es seqno) ≡ Some k → seqno ≤ length es
commit_within es seqno k h = go (entry_at es seqno) refl h
  where
    go : (o : Option Entry) → entry_at es seqno ≡ o → option_map (λ (view : ℕ). record { view = view; seqno = seqno }) (option_map (λ (e : Entry). e.view) o) ≡ Some k → seqno ≤ length es
    go None is h = absurd (cc)
    go (Some e) is h = (within es seqno e is).1

-- a ledger that gives a receipt has the entry up to which it is committed
pub committed_within : (base : ℕ) (es : List Entry) (commit : ℕ) (id : TxId) (r : Receipt) → receipt_of (receipts_of base es commit) id ≡ Ok r → commit ≤ length es
committed_within base es commit id r h =
    let l = receipts_of base es commit in
    let made = made_parts l id r h in
    let status = is_committed (status_in l id) (entry_at es id.seqno) made.entry made.committed in
    let some = some_commit id (view_at es id.seqno) (commit_id l) (none_at_zero es id.seqno) status in
    commit_within es commit some.0 some.1
