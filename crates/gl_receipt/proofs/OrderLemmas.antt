-- A list of entries whose i-th has seqno i: what is found in it has its seqno.
use Rattle.std.proofs.Common.{◌≡◌, ℕ, zero, suc, ◌+◌, ◌<◌, Bool, false, true, cond, List, [], ◌∷◌, ◌++◌, length, drop, Option, None, Some, slice_get, Bor, IfSome, nat_le, refl, sym, ap, ◌∙◌, inl, inr, arith}
use Rattle.std.specs.List.{position_or_len}
use Rattle.std.specs.Option.{option_copied}
use Rattle.std.proofs.lemmas.Bool.Decides.{nat_tests}
use Rattle.std.proofs.lemmas.List.Folds.{find_at}
use Rattle.gl_base.proofs.Lists.{slice_get-drop, slice_get-of_append}
use Rattle.gl_entry.specs.Entry.{is_signature}
use Rattle.gl_entry.specs.declared.entry.Entry.{Entry}
use Rattle.gl_receipt.specs.Made.{Ledger, entry_at, entry_above_base, signature_above}

-- the entry at each index has the seqno of its place
abbrev pub AreInOrder : List Entry → Type 0
AreInOrder es = (i : ℕ) (e : Entry) → slice_get es i ≡ Some e → e.seqno ≡ suc i

pub in_order-push : (es : List Entry) (e : Entry) → AreInOrder es → e.seqno ≡ length es + 1 → AreInOrder (es ++ e ∷ [])
in_order-push es e order at i f h = elim (slice_get-of_append es (e ∷ []) i f h) [
  | inl before ↦ order i f before
  | inr last ↦ go last.0 last.1 last.2
]
  where
    go : (j : ℕ) → i ≡ length es + j → slice_get (e ∷ []) j ≡ Some f → f.seqno ≡ suc i
    go zero place there = let same : e ≡ f = cc in ap (λ (x : Entry). x.seqno) (sym same) ∙ at ∙ omega (arith, place)
    go (suc j) place there = absurd (cc)

-- ---- an entry

pub entry_numbered : (es : List Entry) (seqno : ℕ) (o : Option (Bor Entry)) → AreInOrder es → option_copied o ≡ entry_at es seqno → IfSome o (λ e. e.now.seqno ≡ seqno)
entry_numbered es seqno None order there = tt
entry_numbered es zero (Some e) order there = absurd (cc)
entry_numbered es (suc i) (Some e) order there = order i e.now (sym there)

-- ---- a base

-- where none was let go, each entry is above the base
pub held_whole : (l : Ledger) (seqno : ℕ) → l.base ≡ 0 → entry_above_base l seqno ≡ entry_at l.entries seqno
held_whole l zero whole = let low : nat_le 0 l.base ≡ true = grind (arith, nat_tests) in λ i. cond {A = Option Entry} (low i) None (entry_at l.entries 0)
held_whole l (suc n) whole = let high : nat_le (suc n) l.base ≡ false = grind (arith, nat_tests) in λ i. cond {A = Option Entry} (high i) None (entry_at l.entries (suc n))

-- ---- the first signature above a seqno

found_at : (es : List Entry) (n : ℕ) (f : Entry) → AreInOrder es → signature_above es n ≡ Some f → (n < f.seqno) × (entry_at es f.seqno ≡ Some f)
found_at es n f order found =
    let j : ℕ = position_or_len (λ (e : Entry). is_signature e.content) (drop n es) in
    let there : slice_get es (n + j) ≡ Some f =
    sym (slice_get-drop n es j (n + j) refl) ∙ sym (find_at (λ (e : Entry). is_signature e.content) (drop n es)) ∙ found in
    let place : f.seqno ≡ suc (n + j) = order (n + j) f there in
    (omega (arith, place), ap (entry_at es) place ∙ there)

pub signature_after : (es : List Entry) (n : ℕ) (o : Option (Bor Entry)) → AreInOrder es → option_copied o ≡ signature_above es n → IfSome o (λ e. n < e.now.seqno)
signature_after es n None order found = tt
signature_after es n (Some e) order found = (found_at es n e.now order (sym found)).0

pub signature_numbered : (es : List Entry) (n : ℕ) (o : Option (Bor Entry)) → AreInOrder es → option_copied o ≡ signature_above es n
    → IfSome o (λ e. entry_at es e.now.seqno ≡ option_copied o)
signature_numbered es n None order found = tt
signature_numbered es n (Some e) order found = (found_at es n e.now order (sym found)).1
