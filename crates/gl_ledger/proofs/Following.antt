-- What may follow a ledger: the view that the next entry may have, and the places that may be
-- committed.
use Rattle.std.proofs.Common.{◌≡◌, ℕ, zero, suc, ◌+◌, ◌<◌, ◌≤◌, List, [], ◌∷◌, ◌++◌, length, Some, Ok, Err, Bool, true, false, nat_lt, refl, sym, subst, arith, ⊎_elim, if◌then◌else◌}
use Rattle.std.specs.List.{slice_get}
use Rattle.std.proofs.lemmas.Bool.Decides.{nat_tests}
use Rattle.gl_base.specs.TxId.{last_seqno}
use Rattle.gl_rules.specs.Log.{entry_at}
use Rattle.gl_ledger.specs.Ledger.{HasViewsUpTo, sign_result, genesis_entry, signature_entry, opening_ledger}
use Rattle.gl_ledger.specs.Makers.{by_store}
use Rattle.gl_ledger.specs.Signed.{IsSignedAt}
use Rattle.gl_requests.specs.declared.genesis.Genesis as request
use Rattle.gl_ledger.specs.declared.refusal.Refusal.TheVariants as refusals
use Rattle.gl_entry.specs.declared.entry.Entry.{Entry}
use Rattle.gl_base.proofs.Lists.{slice_get-push, slice_get-last}

-- an entry of at most this view may be pushed
pub up_to-push : (ledger : List Entry) (e : Entry) (view : ℕ) → HasViewsUpTo view ledger → e.view ≤ view → HasViewsUpTo view (ledger ++ e ∷ [])
up_to-push ledger e view up low i f s = ⊎_elim
    (λ (old : slice_get ledger i ≡ Some f). up i f old)
    (λ (new : (i ≡ length ledger) × (f ≡ e)). subst (λ (x : Entry). x.view ≤ view) (sym new.1) low)
    (slice_get-push ledger e i f s)

-- a later view may follow where an earlier may
pub up_to-later : (ledger : List Entry) (view later : ℕ) → HasViewsUpTo view ledger → view ≤ later → HasViewsUpTo later ledger
up_to-later ledger view later up low i f s = let h : f.view ≤ view = up i f s in omega arith

pub up_to-opening : (g : request.Genesis) (node bytes : List ℕ) → HasViewsUpTo 2 (opening_ledger g node bytes)
up_to-opening g node bytes zero e s = let p : genesis_entry g ≡ e = cc in subst (λ (x : Entry). x.view ≤ 2) p (omega arith)
up_to-opening g node bytes (suc zero) e s =
    let p : signature_entry node bytes (genesis_entry g ∷ []) 2 2 ≡ e = cc in subst (λ (x : Entry). x.view ≤ 2) p (omega arith)
up_to-opening g node bytes (suc (suc i)) e s = absurd (cc)

-- a signature is made where a place is left
pub sign_ok : (node bytes : List ℕ) (ledger : List Entry) (view commit : ℕ) (e : Entry) → sign_result node bytes ledger view commit ≡ Ok e →
    (e ≡ signature_entry node bytes ledger view commit) × (length ledger < last_seqno)
sign_ok node bytes ledger view commit e h = go (nat_lt (length ledger) last_seqno) refl h
  where
    go : (left : Bool) → nat_lt (length ledger) last_seqno ≡ left →
        (if left then Ok (signature_entry node bytes ledger view commit) else Err refusals.SeqnoLimit) ≡ Ok e →
        (e ≡ signature_entry node bytes ledger view commit) × (length ledger < last_seqno)
    go true is p = let same : signature_entry node bytes ledger view commit ≡ e = cc in (sym same, grind (arith, nat_tests))
    go false is p = absurd (cc)

-- and in the book's words it is the same
pub book_sign_ok : (node bytes : List ℕ) (ledger : List Entry) (view commit : ℕ) (e : Entry) → by_store (sign_result node bytes ledger view commit) ≡ Ok e →
    (e ≡ signature_entry node bytes ledger view commit) × (length ledger < last_seqno)
book_sign_ok node bytes ledger view commit e h = go (nat_lt (length ledger) last_seqno) refl h
  where
    go : (left : Bool) → nat_lt (length ledger) last_seqno ≡ left →
        by_store (if left then Ok (signature_entry node bytes ledger view commit) else Err refusals.SeqnoLimit) ≡ Ok e →
        (e ≡ signature_entry node bytes ledger view commit) × (length ledger < last_seqno)
    go true is p = let same : signature_entry node bytes ledger view commit ≡ e = cc in (sym same, grind (arith, nat_tests))
    go false is p = absurd (cc)

pub up_to-signature : (ledger : List Entry) (node bytes : List ℕ) (view commit : ℕ) → HasViewsUpTo view ledger →
    HasViewsUpTo view (ledger ++ signature_entry node bytes ledger view commit ∷ [])
up_to-signature ledger node bytes view commit up = up_to-push ledger (signature_entry node bytes ledger view commit) view up (omega arith)

-- a signature that was made stands at the place that it was given
pub signature-last : (ledger : List Entry) (node bytes : List ℕ) (view commit : ℕ) → IsSignedAt (ledger ++ signature_entry node bytes ledger view commit ∷ []) (length ledger + 1)
signature-last ledger node bytes view commit =
    let e = signature_entry node bytes ledger view commit in
    let same : suc (length ledger) ≡ length ledger + 1 = omega arith in
    let at : entry_at (ledger ++ e ∷ []) (suc (length ledger)) ≡ Some e = slice_get-last ledger e in
    subst (λ (n : ℕ). IsSignedAt (ledger ++ e ∷ []) n) same (e, at, refl)
