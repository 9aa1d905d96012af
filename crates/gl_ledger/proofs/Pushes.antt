-- What holds of each entry after those before it, in a ledger with one more.
use Rattle.std.proofs.Common.{◌≡◌, ⊎_elim, ℕ, ◌-◌, ◌<◌, List, [], ◌∷◌, ◌++◌, length, take, Some, None, refl, sym, ◌∙◌, ap, subst, arith, slice_get}
use Rattle.gl_base.proofs.Lists.{slice_get-push, take-push, take-all, slice_get-within}
use Rattle.gl_entry.specs.declared.entry.Entry.{Entry}
use Rattle.gl_ledger.specs.Recordings.{last_entry}

-- what holds of each entry after those before it holds with one more
pub each-push : (P : ℕ → List Entry → Entry → Type 0) (ledger : List Entry) (e : Entry) → ((i : ℕ) (f : Entry) → slice_get ledger i ≡ Some f → P i (take i ledger) f) → P (length ledger) ledger e →
    (i : ℕ) (f : Entry) → slice_get (ledger ++ e ∷ []) i ≡ Some f → P i (take i (ledger ++ e ∷ [])) f
each-push P ledger e h one i f s = ⊎_elim
    (λ (old : slice_get ledger i ≡ Some f).
    let w : i < length ledger = slice_get-within ledger i f old in
    subst (λ (before : List Entry). P i before f) (sym (take-push ledger e i (omega arith))) (h i f old))
    (λ (new : (i ≡ length ledger) × (f ≡ e)).
    subst (λ (before : List Entry). P i before f)
    (sym (take-push ledger e i (omega (arith, new.0)) ∙ ap (λ (n : ℕ). take n ledger) new.0 ∙ take-all ledger))
    (subst (λ (x : Entry). P i ledger x) (sym new.1) (subst (λ (n : ℕ). P n ledger e) (sym new.0) one)))
    (slice_get-push ledger e i f s)

-- a ledger without a last entry is empty
pub no_last : (ledger : List Entry) → last_entry ledger ≡ None → ledger ≡ []
no_last [] h = refl
no_last (x ∷ xs) h =
    let at : length (x ∷ xs) - 1 ≡ length xs = omega arith in
    let none : slice_get (x ∷ xs) (length xs) ≡ None = ap (slice_get (x ∷ xs)) (sym at) ∙ h in
    absurd (let t = there xs x in let k = sym t.1 ∙ none in cc)
  where
    there : (ys : List Entry) (y : Entry) → (z : Entry) × (slice_get (y ∷ ys) (length ys) ≡ Some z)
    there [] y = (y, refl)
    there (z ∷ ys) y = there ys z
