-- The tree from below: the nodes of a level in pairs, the last one without a neighbour taken along
-- as it is.
use Rattle.std.proofs.Common.{◌≡◌, ℕ, zero, suc, ◌+◌, ◌*◌, ◌-◌, ◌/◌, ◌%◌, ◌^◌, ◌<◌, ◌≤◌, cond, eqb, ltb, List, [], ◌∷◌, ◌++◌, Option, Some, None, option_to_list, length, take, drop, get_or, refl, sym, ap, ap₂, ◌∙◌, arith, length-drop, append_assoc, inl, inr}
use Rattle.std.proofs.Math.Nat.{pow-suc}
use Rattle.std.proofs.lemmas.Bool.{cases_lt, eq-eqb, ne_eqb, lt-ltb, le-ltb}
use Rattle.std.proofs.lemmas.List.{length-take-le, get_or-take, get_or-drop, drop_all}
use Rattle.gl_merkle.specs.declared.tree.Step.{Step}
use Rattle.gl_merkle.specs.declared.tree.Step.TheVariants.{Left, Right}
use Rattle.gl_merkle.specs.Tree.{inner_of, root_within}
use Rattle.gl_merkle.specs.Path.{path_within}
use Rattle.gl_merkle.specs.Levels.{pairs_of}
use Rattle.gl_merkle.proofs.TreeLemmas.{root_within-low, root_within-split, path_within-low, path_within-left, path_within-right}

pub half : (n : ℕ) → suc (suc n) / 2 ≡ suc (n / 2)
half n = omega arith

-- the nodes one level up, a last one without a neighbour taken along
abbrev pub pair_all : List (List ℕ) → List (List ℕ)
pair_all [] = []
pair_all (x ∷ []) = x ∷ []
pair_all (x ∷ y ∷ rest) = inner_of x y ∷ pair_all rest

pub length-pairs : (ls : List (List ℕ)) → length (pairs_of ls) ≡ length ls / 2
length-pairs [] = refl
length-pairs (x ∷ []) = refl
length-pairs (x ∷ y ∷ ls) = ap suc (length-pairs ls) ∙ sym (half (length ls))

pub length-pair_all : (ls : List (List ℕ)) → length (pair_all ls) ≡ (length ls + 1) / 2
length-pair_all [] = refl
length-pair_all (x ∷ []) = refl
length-pair_all (x ∷ y ∷ ls) = let e = length-pair_all ls in omega arith

pub pairs_of-take : (n : ℕ) (ls : List (List ℕ)) → pairs_of (take n ls) ≡ take (n / 2) (pairs_of ls)
pairs_of-take zero ls = refl
pairs_of-take (suc zero) [] = refl
pairs_of-take (suc zero) (x ∷ ls) = refl
pairs_of-take (suc (suc n)) [] = rw (half n)
pairs_of-take (suc (suc n)) (x ∷ []) = rw (half n)
pairs_of-take (suc (suc n)) (x ∷ y ∷ ls) = rw (half n) (ap (λ r. inner_of x y ∷ r) (pairs_of-take n ls))

pub pairs_of-drop : (m n : ℕ) (ls : List (List ℕ)) → n ≡ m * 2 → pairs_of (drop n ls) ≡ drop m (pairs_of ls)
pairs_of-drop zero n ls e = rw e
pairs_of-drop (suc m) n [] e = let two : n ≡ suc (suc (m * 2)) = omega arith in rw two
pairs_of-drop (suc m) n (x ∷ []) e = let two : n ≡ suc (suc (m * 2)) = omega arith in rw two
pairs_of-drop (suc m) n (x ∷ y ∷ ls) e = let two : n ≡ suc (suc (m * 2)) = omega arith in rw two (pairs_of-drop m (m * 2) ls refl)

pub pair_all-take : (m n : ℕ) (ls : List (List ℕ)) → n ≡ m * 2 → n ≤ length ls → pair_all (take n ls) ≡ take m (pair_all ls)
pair_all-take zero n ls e le = rw e
pair_all-take (suc m) n [] e le = absurd (omega arith)
pair_all-take (suc m) n (x ∷ []) e le = absurd (omega arith)
pair_all-take (suc m) n (x ∷ y ∷ ls) e le =
    let two : n ≡ suc (suc (m * 2)) = omega arith in
    rw two (ap (λ r. inner_of x y ∷ r) (pair_all-take m (m * 2) ls refl (omega arith)))

pub pair_all-drop : (m n : ℕ) (ls : List (List ℕ)) → n ≡ m * 2 → pair_all (drop n ls) ≡ drop m (pair_all ls)
pair_all-drop zero n ls e = rw e
pair_all-drop (suc m) n [] e = let two : n ≡ suc (suc (m * 2)) = omega arith in rw two
pair_all-drop (suc m) n (x ∷ []) e = let two : n ≡ suc (suc (m * 2)) = omega arith in rw two (sym (drop_all m [] (omega arith)))
pair_all-drop (suc m) n (x ∷ y ∷ ls) e = let two : n ≡ suc (suc (m * 2)) = omega arith in rw two (pair_all-drop m (m * 2) ls refl)

root_at_two : (ls : List (List ℕ)) → length ls ≤ 2 → root_within 1 ls ≡ root_within 0 (pair_all ls)
unfolding root_within
root_at_two [] le = refl
root_at_two (x ∷ []) le = refl
root_at_two (x ∷ y ∷ []) le = refl
root_at_two (x ∷ y ∷ z ∷ ls) le = absurd (omega arith)

-- the root of the level above is the root
pub root_within-pairs : (h : ℕ) (ls : List (List ℕ)) → length ls ≤ 2 ^ suc h → root_within (suc h) ls ≡ root_within h (pair_all ls)
root_within-pairs zero ls fits = root_at_two ls fits
root_within-pairs (suc h) ls fits =
    let two = pow-suc 2 (suc h) in
    let four = pow-suc 2 h in
    let up = length-pair_all ls in
    elim (cases_lt (2 ^ suc h) (length ls)) [
      | inr le ↦ root_within-low (suc h) ls le ∙ root_within-pairs h ls le ∙ sym (root_within-low h (pair_all ls) (omega arith))
      | inl lt ↦ (
          let size = length-take-le (2 ^ suc h) ls (omega arith) in
          let rest = length-drop (2 ^ suc h) ls in
          root_within-split (suc h) ls lt
          ∙ ap₂ inner_of (root_within-pairs h (take (2 ^ suc h) ls) (omega arith)) (root_within-pairs h (drop (2 ^ suc h) ls) (omega arith))
          ∙ ap₂ (λ a b. inner_of (root_within h a) (root_within h b)) (pair_all-take (2 ^ h) (2 ^ suc h) ls four (omega arith)) (pair_all-drop (2 ^ h) (2 ^ suc h) ls four)
          ∙ sym (root_within-split h (pair_all ls) (omega arith)))
    ]

-- ---- paths

-- the step from the node at this place, counted from 0, to the level above
abbrev pub step_in : List (List ℕ) → ℕ → Option Step
step_in ls p =
    cond (eqb (p % 2) 1) (Some (Left (get_or ls (p - 1) []))) (cond (ltb (p + 1) (length ls)) (Some (Right (get_or ls (p + 1) []))) None)

path_at_two : (ls : List (List ℕ)) (p : ℕ) → p < length ls → length ls ≤ 2 → path_within 1 ls (p + 1) ≡ option_to_list (step_in ls p) ++ path_within 0 (pair_all ls) (p / 2 + 1)
unfolding path_within root_within
path_at_two [] p lt le = absurd (omega arith)
path_at_two (x ∷ []) p lt le = let e : p ≡ 0 = omega arith in rw e
path_at_two (x ∷ y ∷ []) zero lt le = refl
path_at_two (x ∷ y ∷ []) (suc p) lt le = let e : p ≡ 0 = omega arith in rw e
path_at_two (x ∷ y ∷ z ∷ ls) p lt le = absurd (omega arith)

step_in-take : (m n p : ℕ) (ls : List (List ℕ)) → n ≡ m * 2 → n < length ls → p < n → step_in (take n ls) p ≡ step_in ls p
step_in-take m n p ls e le lt =
    let size = length-take-le n ls (omega arith) in
    elim (cases_lt 0 (p % 2)) [
      | inl odd ↦ (
          let t = eq-eqb (p % 2) 1 (omega arith) in
          rw (t, get_or-take n ls (p - 1) [] (omega arith)))
      | inr even ↦ (
          let t = ne_eqb (p % 2) 1 (λ q. omega arith) in
          let short = lt-ltb (p + 1) (length (take n ls)) (omega arith) in
          let long = lt-ltb (p + 1) (length ls) (omega arith) in
          rw (t, short, long, get_or-take n ls (p + 1) [] (omega arith)))
    ]

step_in-drop : (m n p : ℕ) (ls : List (List ℕ)) → n ≡ m * 2 → n ≤ p → step_in (drop n ls) (p - n) ≡ step_in ls p
step_in-drop m n p ls e le =
    let size = length-drop n ls in
    elim (cases_lt 0 (p % 2)) [
      | inl odd ↦ (
          let t = eq-eqb (p % 2) 1 (omega arith) in
          let u = eq-eqb ((p - n) % 2) 1 (omega arith) in
          let at : n + (p - n - 1) ≡ p - 1 = omega arith in
          rw (t, u, get_or-drop n ls (p - n - 1) [], at))
      | inr even ↦ (
          let t = ne_eqb (p % 2) 1 (λ q. omega arith) in
          let u = ne_eqb ((p - n) % 2) 1 (λ q. omega arith) in
          let at : n + (p - n + 1) ≡ p + 1 = omega arith in
          elim (cases_lt (p + 1) (length ls)) [
            | inl more ↦ (
                let short = lt-ltb (p - n + 1) (length (drop n ls)) (omega arith) in
                let long = lt-ltb (p + 1) (length ls) (omega arith) in
                rw (t, u, short, long, get_or-drop n ls (p - n + 1) [], at))
            | inr none ↦ (
                let short = le-ltb (p - n + 1) (length (drop n ls)) (omega arith) in
                let long = le-ltb (p + 1) (length ls) (omega arith) in
                rw (t, u, short, long))
          ])
    ]

pub path_within-pairs : (h : ℕ) (ls : List (List ℕ)) (p : ℕ) → p < length ls → length ls ≤ 2 ^ suc h → path_within (suc h) ls (p + 1) ≡ option_to_list (step_in ls p) ++ path_within h (pair_all ls) (p / 2 + 1)
path_within-pairs zero ls p lt fits = path_at_two ls p lt fits
path_within-pairs (suc h) ls p lt fits =
    let two = pow-suc 2 (suc h) in
    let four = pow-suc 2 h in
    let up = length-pair_all ls in
    elim (cases_lt (2 ^ suc h) (length ls)) [
      | inr le ↦ path_within-low (suc h) ls (p + 1) le ∙ path_within-pairs h ls p lt le ∙ ap (λ r. option_to_list (step_in ls p) ++ r) (sym (path_within-low h (pair_all ls) (p / 2 + 1) (omega arith)))
      | inl gt ↦ (
          let size = length-take-le (2 ^ suc h) ls (omega arith) in
          let rest = length-drop (2 ^ suc h) ls in
          let prefix = pair_all-take (2 ^ h) (2 ^ suc h) ls four (omega arith) in
          let back = pair_all-drop (2 ^ h) (2 ^ suc h) ls four in
          elim (cases_lt p (2 ^ suc h)) [
            | inl left ↦ (
                let here = path_within-pairs h (take (2 ^ suc h) ls) p (omega arith) (omega arith) in
                let there = root_within-pairs h (drop (2 ^ suc h) ls) (omega arith) in
                path_within-left (suc h) ls (p + 1) gt (omega arith)
                ∙ rw (here, there, prefix, back, step_in-take (2 ^ h) (2 ^ suc h) p ls four gt left, path_within-left h (pair_all ls) (p / 2 + 1) (omega arith) (omega arith), append_assoc))
            | inr right ↦ (
                let here = path_within-pairs h (drop (2 ^ suc h) ls) (p - 2 ^ suc h) (omega arith) (omega arith) in
                let there = root_within-pairs h (take (2 ^ suc h) ls) (omega arith) in
                let place : p + 1 - 2 ^ suc h ≡ p - 2 ^ suc h + 1 = omega arith in
                let above : (p - 2 ^ suc h) / 2 + 1 ≡ p / 2 + 1 - 2 ^ h = omega arith in
                path_within-right (suc h) ls (p + 1) gt (omega arith)
                ∙ rw (place, here, there, prefix, back, step_in-drop (2 ^ h) (2 ^ suc h) p ls four right, path_within-right h (pair_all ls) (p / 2 + 1) (omega arith) (omega arith), above, append_assoc))
          ])
    ]
