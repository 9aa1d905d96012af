-- The peaks with more leaves after those that have some peaks.
use Rattle.std.proofs.Common.{◌≡◌, ℕ, zero, suc, ◌+◌, ◌-◌, ◌/◌, ◌%◌, ◌^◌, ◌<◌, List, [], ◌∷◌, ◌++◌, length, take, get_or, refl, sym, ap, ◌∙◌, arith, length-append, append_assoc, append-nil, inl, inr}
use Rattle.std.proofs.Math.Nat.{pow-suc}
use Rattle.std.proofs.lemmas.Bool.{cases_eq, eq-eqb, ne_eqb}
use Rattle.gl_merkle.specs.Tree.{inner_of, root_within, root_of}
use Rattle.gl_merkle.specs.Peaks.{peaks_within, peaks_of, peaks_with, peaks_over, root_of_peaks}
use Rattle.gl_merkle.specs.Levels.{pairs_of}
use Rattle.gl_merkle.proofs.TreeLemmas.{below_pow}
use Rattle.gl_merkle.proofs.PairLemmas.{length-pairs}
use Rattle.gl_merkle.proofs.PeakLemmas.{unpaired, unpaired-even, unpaired-odd, peaks_within-low, peaks_within-pairs, peaks_of-within, root_within-peaks}
use Rattle.gl_merkle.proofs.LevelLemmas.{pairs_of-push_even, pairs_of-push_odd, last_of-push}

-- ---- one leaf more

pub peaks_with-even : (h n : ℕ) (ps : List (List ℕ)) (x : List ℕ) → n % 2 ≡ 0 → peaks_with h n ps x ≡ ps ++ x ∷ []
unfolding peaks_with
peaks_with-even zero n ps x even = refl
peaks_with-even (suc h) n ps x even = rw (eq-eqb _ _ even)

pub peaks_with-odd : (h n : ℕ) (ps : List (List ℕ)) (x : List ℕ) → n % 2 ≡ 1 →
    peaks_with (suc h) n ps x ≡ peaks_with h (n / 2) (take (length ps - 1) ps) (inner_of (get_or ps (length ps - 1) []) x)
unfolding peaks_with
peaks_with-odd h n ps x odd = rw (ne_eqb (n % 2) 0 (λ q. omega arith))

unpaired-push : (ls : List (List ℕ)) (x : List ℕ) → length ls % 2 ≡ 0 → unpaired (ls ++ x ∷ []) ≡ x ∷ []
unpaired-push [] x even = refl
unpaired-push (y ∷ []) x even = absurd (omega arith)
unpaired-push (y ∷ z ∷ ls) x even = unpaired-push ls x (omega arith)

first_leaf : (ls : List (List ℕ)) (x : List ℕ) → length ls < 1 → peaks_with 0 (length ls) (peaks_within 0 ls) x ≡ peaks_within 1 (ls ++ x ∷ [])
unfolding peaks_within root_within peaks_with
first_leaf [] x fits = refl
first_leaf (y ∷ ls) x fits = absurd (omega arith)

peaks_within-push : (h : ℕ) (ls : List (List ℕ)) (x : List ℕ) → length ls < 2 ^ h → peaks_with h (length ls) (peaks_within h ls) x ≡ peaks_within (suc h) (ls ++ x ∷ [])
peaks_within-push zero ls x fits = first_leaf ls x fits
peaks_within-push (suc h) ls x fits =
    let two = pow-suc 2 h in
    let four = pow-suc 2 (suc h) in
    let up = length-pairs ls in
    let size = length-append ls (x ∷ []) in
    let before = peaks_within-pairs h ls fits in
    let after = peaks_within-pairs (suc h) (ls ++ x ∷ []) (omega arith) in
    elim (cases_eq (length ls % 2) 0) [
      | inl even ↦ (
          let alone : peaks_within (suc h) ls ≡ peaks_within h (pairs_of ls) = before ∙ rw (unpaired-even ls even) (append-nil (peaks_within h (pairs_of ls))) in
          peaks_with-even (suc h) (length ls) (peaks_within (suc h) ls) x even
          ∙ ap (λ (ps : List (List ℕ)). ps ++ x ∷ []) (alone ∙ sym (peaks_within-low h (pairs_of ls) (omega arith)) ∙ ap (peaks_within (suc h)) (sym (pairs_of-push_even ls x even)))
          ∙ ap (λ (ps : List (List ℕ)). peaks_within (suc h) (pairs_of (ls ++ x ∷ [])) ++ ps) (sym (unpaired-push ls x even))
          ∙ sym after)
      | inr uneven ↦ (
          let odd : length ls % 2 ≡ 1 = omega arith in
          let last = get_or ls (length ls - 1) [] in
          let ends = last_of-push (peaks_within (suc h) ls) (peaks_within h (pairs_of ls)) last (before ∙ ap (λ (r : List (List ℕ)). peaks_within h (pairs_of ls) ++ r) (unpaired-odd ls odd)) in
          let none : unpaired (ls ++ x ∷ []) ≡ [] = unpaired-even (ls ++ x ∷ []) (omega arith) in
          peaks_with-odd h (length ls) (peaks_within (suc h) ls) x odd
          ∙ ap (λ (ps : List (List ℕ)). peaks_with h (length ls / 2) ps (inner_of (get_or (peaks_within (suc h) ls) (length (peaks_within (suc h) ls) - 1) []) x)) ends.1
          ∙ ap (λ (l : List ℕ). peaks_with h (length ls / 2) (peaks_within h (pairs_of ls)) (inner_of l x)) ends.0
          ∙ ap (λ (n : ℕ). peaks_with h n (peaks_within h (pairs_of ls)) (inner_of last x)) (sym up)
          ∙ peaks_within-push h (pairs_of ls) (inner_of last x) (omega arith)
          ∙ ap (peaks_within (suc h)) (sym (pairs_of-push_odd ls x odd))
          ∙ sym (after ∙ rw none (append-nil (peaks_within (suc h) (pairs_of (ls ++ x ∷ []))))))
    ]

pub peaks_of-push : (ls : List (List ℕ)) (x : List ℕ) → peaks_of (ls ++ x ∷ []) ≡ peaks_with (suc (length ls)) (length ls) (peaks_of ls) x
peaks_of-push ls x =
    let n = length ls in
    let fits = below_pow n in
    let two = pow-suc 2 n in
    let four = pow-suc 2 (suc n) in
    let size = length-append ls (x ∷ []) in
    peaks_of-within (suc (suc n)) (ls ++ x ∷ []) (omega arith)
    ∙ sym (peaks_within-push (suc n) ls x (omega arith))
    ∙ ap (λ (ps : List (List ℕ)). peaks_with (suc n) n ps x) (sym (peaks_of-within (suc n) ls (omega arith)))

-- ---- more leaves

pub peaks_of-more : (xs ys : List (List ℕ)) → peaks_of (xs ++ ys) ≡ peaks_over (length xs) (peaks_of xs) ys
peaks_of-more xs [] = ap peaks_of (append-nil xs)
peaks_of-more xs (y ∷ ys) =
    let one : length (xs ++ y ∷ []) ≡ suc (length xs) = omega (arith, length-append xs (y ∷ [])) in
    ap peaks_of (sym (append_assoc xs (y ∷ []) ys))
    ∙ peaks_of-more (xs ++ y ∷ []) ys
    ∙ ap (λ (n : ℕ). peaks_over n (peaks_of (xs ++ y ∷ [])) ys) one
    ∙ ap (λ (ps : List (List ℕ)). peaks_over (suc (length xs)) ps ys) (peaks_of-push xs y)

pub peaks_over-push : (n : ℕ) (ps xs : List (List ℕ)) (x : List ℕ) → peaks_over n ps (xs ++ x ∷ []) ≡ peaks_with (suc (n + length xs)) (n + length xs) (peaks_over n ps xs) x
peaks_over-push n ps [] x = let all : n + 0 ≡ n = omega arith in rw all
peaks_over-push n ps (y ∷ ys) x =
    let more : n + suc (length ys) ≡ suc n + length ys = omega arith in
    rw more (peaks_over-push (suc n) (peaks_with (suc n) n ps y) ys x)

-- the root of leaves is that of their peaks, of none too
pub root_of-peaks : (ls : List (List ℕ)) → root_of ls ≡ root_of_peaks (peaks_of ls)
unfolding root_of root_within peaks_of peaks_within
root_of-peaks [] = refl
root_of-peaks (l ∷ ls) = root_within-peaks (length (l ∷ ls)) (l ∷ ls) (below_pow (length (l ∷ ls))) (omega arith)
