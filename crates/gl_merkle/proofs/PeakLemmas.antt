-- The peaks, from below: the last node without a neighbour, and the peaks of the level above.
use Rattle.std.proofs.Common.{◌≡◌, ℕ, zero, suc, ◌*◌, ◌-◌, ◌/◌, ◌%◌, ◌^◌, ◌<◌, ◌≤◌, List, [], ◌∷◌, ◌++◌, length, take, drop, get_or, refl, sym, ap, ◌∙◌, arith, length-drop, length-append, append-nil, inl, inr, count_ones}
use lib.Count.{ones_step}
use Rattle.std.proofs.Math.Nat.{pow-suc}
use Rattle.std.proofs.lemmas.Nat.{pow_pos, zero_from_ones, ones_le_self}
use Rattle.std.proofs.lemmas.Bool.{cases_lt, cases_order, cond-true, cond-false, le-leb, lt-leb}
use Rattle.std.proofs.lemmas.List.{length-take-le, take_all, drop_all}
use Rattle.gl_merkle.specs.Tree.{inner_of, root_within}
use Rattle.gl_merkle.specs.Peaks.{peaks_within, peaks_of, root_of_peaks}
use Rattle.gl_merkle.specs.Levels.{pairs_of}
use Rattle.gl_merkle.proofs.TreeLemmas.{below_pow, pow_mono, root_within-low, root_within-split}
use Rattle.gl_merkle.proofs.PairLemmas.{pair_all, length-pairs, pairs_of-take, pairs_of-drop, root_within-pairs}

pub peaks_within-low : (h : ℕ) (ls : List (List ℕ)) → length ls < 2 ^ h → peaks_within (suc h) ls ≡ peaks_within h ls
unfolding peaks_within
peaks_within-low h ls lt = cond-false _ _ _ (lt-leb _ _ lt)

pub peaks_within-high : (h : ℕ) (ls : List (List ℕ)) → 2 ^ h ≤ length ls → peaks_within (suc h) ls ≡ root_within h (take (2 ^ h) ls) ∷ peaks_within h (drop (2 ^ h) ls)
unfolding peaks_within
peaks_within-high h ls le = cond-true _ _ _ (le-leb _ _ le)

pub peaks_within-up : (k h : ℕ) (ls : List (List ℕ)) → h ≤ k → length ls < 2 ^ h → peaks_within k ls ≡ peaks_within h ls
peaks_within-up zero h ls le fits = let e : h ≡ zero = omega arith in rw e
peaks_within-up (suc k) h ls le fits =
    elim (cases_lt k h) [
      | inl lt ↦ (let e : h ≡ suc k = omega arith in rw e)
      | inr ge ↦ peaks_within-low k ls (omega (arith, pow_mono h k ge)) ∙ peaks_within-up k h ls ge fits
    ]

-- the peaks at any height that bounds the leaves
pub peaks_of-within : (h : ℕ) (ls : List (List ℕ)) → length ls < 2 ^ h → peaks_of ls ≡ peaks_within h ls
unfolding peaks_of
peaks_of-within h ls fits =
    elim (cases_lt h (length ls)) [
      | inl lt ↦ peaks_within-up (length ls) h ls (omega arith) fits
      | inr ge ↦ sym (peaks_within-up h (length ls) ls ge (below_pow (length ls)))
    ]

-- the last node of a level that has no neighbour
abbrev pub unpaired : List (List ℕ) → List (List ℕ)
unpaired [] = []
unpaired (x ∷ []) = x ∷ []
unpaired (x ∷ y ∷ rest) = unpaired rest

pub pair_all-unpaired : (ls : List (List ℕ)) → pair_all ls ≡ pairs_of ls ++ unpaired ls
pair_all-unpaired [] = refl
pair_all-unpaired (x ∷ []) = refl
pair_all-unpaired (x ∷ y ∷ ls) = ap (λ r. inner_of x y ∷ r) (pair_all-unpaired ls)

pub unpaired-even : (ls : List (List ℕ)) → length ls % 2 ≡ 0 → unpaired ls ≡ []
unpaired-even [] e = refl
unpaired-even (x ∷ []) e = absurd (omega arith)
unpaired-even (x ∷ y ∷ ls) e = unpaired-even ls (omega arith)

pub unpaired-odd : (ls : List (List ℕ)) → length ls % 2 ≡ 1 → unpaired ls ≡ get_or ls (length ls - 1) [] ∷ []
unpaired-odd [] e = absurd (omega arith)
unpaired-odd (x ∷ []) e = refl
unpaired-odd (x ∷ y ∷ ls) e = let some : suc (suc (length ls)) - 1 ≡ suc (suc (length ls - 1)) = omega arith in rw some (unpaired-odd ls (omega arith))

pub unpaired-drop : (m n : ℕ) (ls : List (List ℕ)) → n ≡ m * 2 → n ≤ length ls → unpaired (drop n ls) ≡ unpaired ls
unpaired-drop zero n ls e le = rw e
unpaired-drop (suc m) n [] e le = absurd (omega arith)
unpaired-drop (suc m) n (x ∷ []) e le = absurd (omega arith)
unpaired-drop (suc m) n (x ∷ y ∷ ls) e le = let two : n ≡ suc (suc (m * 2)) = omega arith in rw two (unpaired-drop m (m * 2) ls refl (omega arith))

-- the unpaired node is what follows the pairs
pub drop-unpaired : (ls : List (List ℕ)) → drop (length ls / 2 * 2) ls ≡ unpaired ls
drop-unpaired [] = refl
drop-unpaired (x ∷ []) = refl
drop-unpaired (x ∷ y ∷ ls) = let two : suc (suc (length ls)) / 2 * 2 ≡ suc (suc (length ls / 2 * 2)) = omega arith in rw two (drop-unpaired ls)

-- an even number of nodes is paired whole
pub pair_all-even : (ls : List (List ℕ)) → length ls % 2 ≡ 0 → pair_all ls ≡ pairs_of ls
pair_all-even ls e = rw (pair_all-unpaired ls, unpaired-even ls e, append-nil)

peaks_at_one : (ls : List (List ℕ)) → length ls < 2 → peaks_within 1 ls ≡ peaks_within 0 (pairs_of ls) ++ unpaired ls
unfolding peaks_within root_within
peaks_at_one [] lt = refl
peaks_at_one (x ∷ []) lt = refl
peaks_at_one (x ∷ y ∷ ls) lt = absurd (omega arith)

pub peaks_within-pairs : (h : ℕ) (ls : List (List ℕ)) → length ls < 2 ^ suc h → peaks_within (suc h) ls ≡ peaks_within h (pairs_of ls) ++ unpaired ls
peaks_within-pairs zero ls fits = peaks_at_one ls fits
peaks_within-pairs (suc h) ls fits =
    let two = pow-suc 2 (suc h) in
    let four = pow-suc 2 h in
    let up = length-pairs ls in
    elim (cases_lt (length ls) (2 ^ suc h)) [
      | inl lt ↦ peaks_within-low (suc h) ls lt ∙ peaks_within-pairs h ls lt ∙ ap (λ r. r ++ unpaired ls) (sym (peaks_within-low h (pairs_of ls) (omega arith)))
      | inr le ↦ (
          let size = length-take-le (2 ^ suc h) ls (omega arith) in
          let rest = length-drop (2 ^ suc h) ls in
          let prefix = root_within-pairs h (take (2 ^ suc h) ls) (omega arith) in
          let even = pair_all-even (take (2 ^ suc h) ls) (omega arith) in
          let half_of : 2 ^ suc h / 2 ≡ 2 ^ h = omega arith in
          peaks_within-high (suc h) ls le
          ∙ rw (prefix, even, pairs_of-take (2 ^ suc h) ls, half_of, peaks_within-pairs h (drop (2 ^ suc h) ls) (omega arith), pairs_of-drop (2 ^ h) (2 ^ suc h) ls four, unpaired-drop (2 ^ h) (2 ^ suc h) ls four le, peaks_within-high h (pairs_of ls) (omega arith)))
    ]

length-unpaired : (ls : List (List ℕ)) → length (unpaired ls) ≡ length ls % 2
length-unpaired [] = refl
length-unpaired (x ∷ []) = refl
length-unpaired (x ∷ y ∷ ls) = let e = length-unpaired ls in omega arith

-- there are as many peaks as the number of leaves has ones in binary
pub length-peaks_within : (h : ℕ) (ls : List (List ℕ)) → length ls < 2 ^ h → length (peaks_within h ls) ≡ count_ones (length ls)
unfolding peaks_within
length-peaks_within zero ls fits =
    let none : length ls ≡ 0 = omega arith in
    let bound = ones_le_self 0 in
    rw none (omega arith)
length-peaks_within (suc h) ls fits =
    let two = pow-suc 2 h in
    let pairs = length-pairs ls in
    let here = length-peaks_within h (pairs_of ls) (omega arith) in
    let step = ones_step (length ls) in
    let last = length-unpaired ls in
    rw (peaks_within-pairs h ls fits, length-append, here, last, pairs, step) (omega arith)

peaks_within-nil : (h : ℕ) → peaks_within h [] ≡ []
unfolding peaks_within
peaks_within-nil zero = refl
peaks_within-nil (suc h) = peaks_within-low h [] (pow_pos h) ∙ peaks_within-nil h

root_of_peaks-more : (x : List ℕ) (ps : List (List ℕ)) → 0 < length ps → root_of_peaks (x ∷ ps) ≡ inner_of x (root_of_peaks ps)
root_of_peaks-more x [] lt = absurd (omega arith)
root_of_peaks-more x (p ∷ ps) lt = refl

some_peaks : (h : ℕ) (ls : List (List ℕ)) → length ls < 2 ^ h → 0 < length ls → 0 < length (peaks_within h ls)
some_peaks h ls fits some =
    let count = length-peaks_within h ls fits in
    elim (cases_lt 0 (length (peaks_within h ls))) [
      | inl lt ↦ lt
      | inr none ↦ (let zero_leaves = zero_from_ones (length ls) (omega arith) in absurd (omega arith))
    ]

-- the root of the leaves is that of their peaks
pub root_within-peaks : (h : ℕ) (ls : List (List ℕ)) → length ls < 2 ^ h → 0 < length ls → root_within h ls ≡ root_of_peaks (peaks_within h ls)
root_within-peaks zero ls fits some = absurd (omega arith)
root_within-peaks (suc h) ls fits some =
    let two = pow-suc 2 h in
    let rest = length-drop (2 ^ h) ls in
    elim (cases_order (length ls) (2 ^ h)) [
      | inl e ↦ (
          let whole = take_all (2 ^ h) ls (omega arith) in
          let end = drop_all (2 ^ h) ls (omega arith) in
          rw (root_within-low h ls (omega arith), peaks_within-high h ls (omega arith), whole, end, peaks_within-nil h))
      | inr (inl lt) ↦ rw (root_within-low h ls (omega arith), peaks_within-low h ls lt) (root_within-peaks h ls lt some)
      | inr (inr gt) ↦ (
          let here = root_within-peaks h (drop (2 ^ h) ls) (omega arith) (omega arith) in
          let more = some_peaks h (drop (2 ^ h) ls) (omega arith) (omega arith) in
          rw (root_within-split h ls gt, peaks_within-high h ls (omega arith), root_of_peaks-more _ _ more, here))
    ]
