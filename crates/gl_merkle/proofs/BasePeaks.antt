-- What is read from the levels of a frontier over a base with any peaks, those of no leaves too.
use Rattle.std.proofs.Common.{◌≡◌, ℕ, zero, suc, ◌+◌, ◌*◌, ◌-◌, ◌/◌, ◌%◌, ◌^◌, ◌<◌, ◌≤◌, List, [], ◌∷◌, ◌++◌, Option, Some, None, option_to_list, cond, eqb, length, take, get_or, refl, sym, ap, ap₂, ◌∙◌, arith, append-nil, inl, inr, count_ones}
use lib.Count.{ones_step}
use Rattle.std.proofs.Math.Nat.{pow-suc}
use Rattle.std.proofs.lemmas.Nat.{ones_le_self}
use Rattle.std.proofs.lemmas.Bool.{cases_eq, eq-eqb, ne_eqb}
use Rattle.std.proofs.lemmas.List.{get_or-take, get_or_append_left, get_or_at, take_more, take_all, length-take-le}
use Rattle.gl_merkle.specs.Tree.{inner_of}
use Rattle.gl_merkle.specs.Peaks.{peaks_with, root_of_peaks}
use Rattle.gl_merkle.specs.Levels.{AreSized, with_node, cut_to, base_levels, last_node, over_tail, tail_of, level_peaks}
use Rattle.gl_merkle.proofs.LevelLemmas.{last_of-push, base_levels-even, base_levels-odd}
use Rattle.gl_merkle.proofs.MorePeaks.{peaks_with-even, peaks_with-odd}

-- the peak of a level that has the same last node
last_peak : (r s : List (List ℕ)) (b k : ℕ) → (k % 2 ≡ 1 → last_node r b k ≡ last_node s b k) → cond (eqb (k % 2) 0) [] (last_node r b k ∷ []) ≡ cond (eqb (k % 2) 0) [] (last_node s b k ∷ [])
last_peak r s b k same =
    elim (cases_eq (k % 2) 0) [
      | inl even ↦ rw (eq-eqb _ _ even)
      | inr odd ↦ rw (ne_eqb _ _ odd) (ap (λ (x : List ℕ). x ∷ []) (same (omega arith)))
    ]

-- a node more leaves the peaks of the nodes before
pub level_peaks-kept : (rs : List (List (List ℕ))) (b n k : ℕ) (x : List ℕ) → AreSized b n rs → b ≤ k → k ≤ n → level_peaks (with_node rs x) b k ≡ level_peaks rs b k
level_peaks-kept [] b n k x h low high = refl
level_peaks-kept (r ∷ rs) b n k x h low high =
    let last = last_peak (r ++ x ∷ []) r b k (λ odd. get_or_append_left r (x ∷ []) [] (k - 1 - b / 2 * 2) (omega (arith, h.0, odd))) in
    elim (cases_eq (length r % 2) 0) [
      | inl even ↦ rw (eq-eqb _ _ even) (ap (λ ps. level_peaks rs (b / 2) (k / 2) ++ ps) last)
      | inr odd ↦ rw (ne_eqb _ _ odd) (ap₂ (λ ps qs. ps ++ qs) (level_peaks-kept rs (b / 2) (n / 2) (k / 2) _ h.1 (omega arith) (omega arith)) last)
    ]

-- so does a cut of the nodes after
pub level_peaks-cut : (rs : List (List (List ℕ))) (b m k : ℕ) → b ≤ k → k ≤ m → level_peaks (cut_to b m rs) b k ≡ level_peaks rs b k
level_peaks-cut [] b m k low high = refl
level_peaks-cut (r ∷ rs) b m k low high =
    ap₂ (λ ps qs. ps ++ qs) (level_peaks-cut rs (b / 2) (m / 2) (k / 2) (omega arith) (omega arith))
    (last_peak (take (m - b / 2 * 2) r) r b k (λ odd. get_or-take (m - b / 2 * 2) r (k - 1 - b / 2 * 2) [] (omega (arith, odd))))

-- the peaks after one node more
level_peaks-push_even : (r : List (List ℕ)) (rs : List (List (List ℕ))) (b n h : ℕ) (x : List ℕ) → AreSized b n (r ∷ rs) → n % 2 ≡ 0 → level_peaks (with_node (r ∷ rs) x) b (n + 1) ≡ peaks_with h n (level_peaks (r ∷ rs) b n) x
level_peaks-push_even r rs b n h x sized even =
    let up : (n + 1) / 2 ≡ n / 2 = omega arith in
    let last : last_node (r ++ x ∷ []) b (n + 1) ≡ x = get_or_at r x [] [] (n + 1 - 1 - b / 2 * 2) (omega (arith, sized.0)) in
    rw (eq-eqb (length r % 2) 0 (omega (arith, sized.0)), ne_eqb ((n + 1) % 2) 0 (λ q. omega arith), up, last, eq-eqb (n % 2) 0 even, append-nil)
    (sym (peaks_with-even h n (level_peaks rs (b / 2) (n / 2)) x even))

pub level_peaks-push : (rs : List (List (List ℕ))) (b n h : ℕ) (x : List ℕ) → AreSized b n rs → n + 1 < 2 ^ length rs → n < 2 ^ h → level_peaks (with_node rs x) b (n + 1) ≡ peaks_with h n (level_peaks rs b n) x
level_peaks-push [] b n h x sized fits small = absurd (omega arith)
level_peaks-push (r ∷ rs) b n zero x sized fits small = level_peaks-push_even r rs b n zero x sized (omega arith)
level_peaks-push (r ∷ rs) b n (suc h) x sized fits small =
    let two = pow-suc 2 (length rs) in
    let four = pow-suc 2 h in
    elim (cases_eq (n % 2) 0) [
      | inl even ↦ level_peaks-push_even r rs b n (suc h) x sized even
      | inr odd ↦ (
          let up : (n + 1) / 2 ≡ n / 2 + 1 = omega arith in
          let place : n - 1 - b / 2 * 2 ≡ length r - 1 = omega (arith, sized.0) in
          let ps = level_peaks rs (b / 2) (n / 2) in
          let last = get_or r (length r - 1) [] in
          let ends = last_of-push (ps ++ last ∷ []) ps last refl in
          let rest = level_peaks-push rs (b / 2) (n / 2) h (inner_of last x) sized.1 (omega arith) (omega arith) in
          rw (ne_eqb (length r % 2) 0 (λ q. omega (arith, sized.0, q)), eq-eqb ((n + 1) % 2) 0 (omega arith), up, ne_eqb (n % 2) 0 odd, place, append-nil, peaks_with-odd h n (ps ++ last ∷ []) x (omega arith), ends.0, ends.1) rest)
    ]

-- the levels of a base have its peaks
pub level_peaks-base : (k b : ℕ) (ps : List (List ℕ)) → length ps ≡ count_ones b → b < 2 ^ k → level_peaks (base_levels k b ps) b b ≡ ps
unfolding base_levels
level_peaks-base zero b [] count fits = refl
level_peaks-base zero b (p ∷ ps) count fits = absurd (omega (arith, ones_le_self b))
level_peaks-base (suc k) b ps count fits =
    let two = pow-suc 2 k in
    let ones = ones_step b in
    elim (cases_eq (b % 2) 0) [
      | inl even ↦ rw (base_levels-even k b ps even, eq-eqb _ _ even, append-nil) (level_peaks-base k (b / 2) ps (omega arith) (omega arith))
      | inr uneven ↦ (
          let odd : b % 2 ≡ 1 = omega arith in
          let first : b - 1 - b / 2 * 2 ≡ 0 = omega arith in
          let less = length ps - 1 in
          let all : less + 1 ≡ length ps = omega arith in
          let size : length (take less ps) ≡ count_ones (b / 2) = omega (arith, length-take-le less ps (omega arith)) in
          rw (base_levels-odd k b ps odd, ne_eqb _ _ uneven, first, level_peaks-base k (b / 2) (take less ps) size (omega arith))
          (sym (take_more ps less [] (omega arith)) ∙ take_all (less + 1) ps (omega arith)))
    ]

-- ---- the root

root_of_peaks-join : (ps : List (List ℕ)) (x y : List ℕ) → root_of_peaks (ps ++ inner_of x y ∷ []) ≡ root_of_peaks ((ps ++ x ∷ []) ++ y ∷ [])
root_of_peaks-join [] x y = refl
root_of_peaks-join (p ∷ []) x y = refl
root_of_peaks-join (p ∷ q ∷ ps) x y = ap (inner_of p) (root_of_peaks-join (q ∷ ps) x y)

root_of_peaks-tail : (ps : List (List ℕ)) (x : List ℕ) (t : Option (List ℕ)) → root_of_peaks (ps ++ over_tail x t ∷ []) ≡ root_of_peaks ((ps ++ x ∷ []) ++ option_to_list t)
root_of_peaks-tail ps x None = ap root_of_peaks (sym (append-nil (ps ++ x ∷ [])))
root_of_peaks-tail ps x (Some y) = root_of_peaks-join ps x y

-- the incomplete node after the last level is the root of the peaks, whatever these are
pub tail_of-peaks : (rs : List (List (List ℕ))) (b n : ℕ) (t : Option (List ℕ)) → n < 2 ^ length rs → 0 < n + length (option_to_list t) → tail_of rs b n t ≡ Some (root_of_peaks (level_peaks rs b n ++ option_to_list t))
tail_of-peaks [] b n None fits some = absurd (omega arith)
tail_of-peaks [] b n (Some x) fits some = refl
tail_of-peaks (r ∷ rs) b n t fits some =
    let two = pow-suc 2 (length rs) in
    elim (cases_eq (n % 2) 0) [
      | inl even ↦ rw (eq-eqb _ _ even, append-nil) (tail_of-peaks rs (b / 2) (n / 2) t (omega arith) (omega arith))
      | inr odd ↦ rw (ne_eqb _ _ odd)
          (tail_of-peaks rs (b / 2) (n / 2) (Some (over_tail (last_node r b n) t)) (omega arith) (omega arith)
          ∙ ap Some (root_of_peaks-tail (level_peaks rs (b / 2) (n / 2)) (last_node r b n) t))
    ]
