-- The tree split at the greatest power of two below the number of its leaves, whatever height
-- bounds it.
use Rattle.std.proofs.Common.{◌≡◌, ℕ, zero, suc, ◌*◌, ◌-◌, ◌^◌, ◌<◌, ◌≤◌, List, [], ◌∷◌, ◌++◌, length, take, drop, sym, ap₂, ◌∙◌, arith, length-drop, inl, inr}
use Rattle.std.proofs.Math.Nat.{pow-suc, pow-le-pow_right}
use Rattle.std.proofs.lemmas.Bool.{le-leb, lt-leb, cond-true, cond-false, cases_lt}
use Rattle.std.proofs.lemmas.List.{length-take-le}
use Rattle.gl_merkle.specs.declared.tree.Step.TheVariants.{Left, Right}
use Rattle.gl_merkle.specs.Tree.{inner_of, root_within, root_of}
use Rattle.gl_merkle.specs.Path.{path_within, path_of}

pub below_pow : (n : ℕ) → n < 2 ^ n
below_pow zero = omega arith
below_pow (suc n) = omega (arith, below_pow n, pow-suc 2 n)

pub pow_mono : (h k : ℕ) → h ≤ k → 2 ^ h ≤ 2 ^ k
pow_mono h k le = pow-le-pow_right (omega arith) le

-- a higher bound gives the same root
pub root_within-low : (h : ℕ) (ls : List (List ℕ)) → length ls ≤ 2 ^ h → root_within (suc h) ls ≡ root_within h ls
unfolding root_within
root_within-low h ls le = cond-true _ _ _ (le-leb _ _ le)

pub root_within-split : (h : ℕ) (ls : List (List ℕ)) → 2 ^ h < length ls → root_within (suc h) ls ≡ inner_of (root_within h (take (2 ^ h) ls)) (root_within h (drop (2 ^ h) ls))
unfolding root_within
root_within-split h ls lt = cond-false _ _ _ (lt-leb _ _ lt)

pub root_within-up : (k h : ℕ) (ls : List (List ℕ)) → h ≤ k → length ls ≤ 2 ^ h → root_within k ls ≡ root_within h ls
root_within-up zero h ls le fits = let e : h ≡ zero = omega arith in rw e
root_within-up (suc k) h ls le fits =
    elim (cases_lt k h) [
      | inl lt ↦ (let e : h ≡ suc k = omega arith in rw e)
      | inr ge ↦ root_within-low k ls (omega (arith, pow_mono h k ge)) ∙ root_within-up k h ls ge fits
    ]

-- the root at any height that bounds the leaves
pub root_of-within : (h : ℕ) (ls : List (List ℕ)) → length ls ≤ 2 ^ h → root_of ls ≡ root_within h ls
unfolding root_of
root_of-within h ls fits =
    elim (cases_lt h (length ls)) [
      | inl lt ↦ root_within-up (length ls) h ls (omega arith) fits
      | inr ge ↦ sym (root_within-up h (length ls) ls ge (omega (arith, below_pow (length ls))))
    ]

pub root_of-one : (l : List ℕ) → root_of (l ∷ []) ≡ l
unfolding root_of root_within
root_of-one l = root_of-within 0 (l ∷ []) (omega arith)

-- the root of several leaves: w is the greatest power of two below their number
pub root_of-split : (k w : ℕ) (ls : List (List ℕ)) → w ≡ 2 ^ k → w < length ls → length ls ≤ 2 * w → root_of ls ≡ inner_of (root_of (take w ls)) (root_of (drop w ls))
root_of-split k w ls e lt le =
    let two = pow-suc 2 k in
    let whole : length ls ≤ 2 ^ suc k = omega arith in
    let left : length (take w ls) ≤ 2 ^ k = rw (length-take-le w ls (omega arith)) (omega arith) in
    let right : length (drop w ls) ≤ 2 ^ k = rw (length-drop w ls) (omega arith) in
    root_of-within (suc k) ls whole
    ∙ root_within-split k ls (omega arith)
    ∙ rw (← e) (ap₂ inner_of (sym (root_of-within k (take w ls) left)) (sym (root_of-within k (drop w ls) right)))

-- ---- paths, split likewise

pub path_within-low : (h : ℕ) (ls : List (List ℕ)) (i : ℕ) → length ls ≤ 2 ^ h → path_within (suc h) ls i ≡ path_within h ls i
unfolding path_within
path_within-low h ls i le = cond-true _ _ _ (le-leb _ _ le)

pub path_within-left : (h : ℕ) (ls : List (List ℕ)) (i : ℕ) → 2 ^ h < length ls → i ≤ 2 ^ h → path_within (suc h) ls i ≡ path_within h (take (2 ^ h) ls) i ++ Right (root_within h (drop (2 ^ h) ls)) ∷ []
unfolding path_within
path_within-left h ls i lt le = cond-false _ _ _ (lt-leb _ _ lt) ∙ cond-true _ _ _ (le-leb _ _ le)

pub path_within-right : (h : ℕ) (ls : List (List ℕ)) (i : ℕ) → 2 ^ h < length ls → 2 ^ h < i → path_within (suc h) ls i ≡ path_within h (drop (2 ^ h) ls) (i - 2 ^ h) ++ Left (root_within h (take (2 ^ h) ls)) ∷ []
unfolding path_within
path_within-right h ls i lt le = cond-false _ _ _ (lt-leb _ _ lt) ∙ cond-false _ _ _ (lt-leb _ _ le)

pub path_within-up : (k h : ℕ) (ls : List (List ℕ)) (i : ℕ) → h ≤ k → length ls ≤ 2 ^ h → path_within k ls i ≡ path_within h ls i
path_within-up zero h ls i le fits = let e : h ≡ zero = omega arith in rw e
path_within-up (suc k) h ls i le fits =
    elim (cases_lt k h) [
      | inl lt ↦ (let e : h ≡ suc k = omega arith in rw e)
      | inr ge ↦ path_within-low k ls i (omega (arith, pow_mono h k ge)) ∙ path_within-up k h ls i ge fits
    ]

-- the path at any height that bounds the leaves
pub path_of-within : (h : ℕ) (ls : List (List ℕ)) (i : ℕ) → length ls ≤ 2 ^ h → path_of ls i ≡ path_within h ls i
unfolding path_of
path_of-within h ls i fits =
    elim (cases_lt h (length ls)) [
      | inl lt ↦ path_within-up (length ls) h ls i (omega arith) fits
      | inr ge ↦ sym (path_within-up h (length ls) ls i ge (omega (arith, below_pow (length ls))))
    ]

pub path_of-one : (ls : List (List ℕ)) (i : ℕ) → length ls ≡ 1 → path_of ls i ≡ []
unfolding path_within
path_of-one ls i one = path_of-within 0 ls i (omega arith)

-- the path of a leaf in the left part, and in the right part: w is the greatest power of two below
-- the leaves' number
pub path_of-left : (k w : ℕ) (ls : List (List ℕ)) (i : ℕ) → w ≡ 2 ^ k → w < length ls → length ls ≤ 2 * w → i ≤ w → path_of ls i ≡ path_of (take w ls) i ++ Right (root_of (drop w ls)) ∷ []
path_of-left k w ls i e lt le at =
    let two = pow-suc 2 k in
    let whole : length ls ≤ 2 ^ suc k = omega arith in
    let left : length (take w ls) ≤ 2 ^ k = rw (length-take-le w ls (omega arith)) (omega arith) in
    let right : length (drop w ls) ≤ 2 ^ k = rw (length-drop w ls) (omega arith) in
    path_of-within (suc k) ls i whole
    ∙ path_within-left k ls i (omega arith) (omega arith)
    ∙ rw (← e) (ap₂ (λ p r. p ++ Right r ∷ []) (sym (path_of-within k (take w ls) i left)) (sym (root_of-within k (drop w ls) right)))

pub path_of-right : (k w : ℕ) (ls : List (List ℕ)) (i : ℕ) → w ≡ 2 ^ k → w < length ls → length ls ≤ 2 * w → w < i → path_of ls i ≡ path_of (drop w ls) (i - w) ++ Left (root_of (take w ls)) ∷ []
path_of-right k w ls i e lt le at =
    let two = pow-suc 2 k in
    let whole : length ls ≤ 2 ^ suc k = omega arith in
    let left : length (take w ls) ≤ 2 ^ k = rw (length-take-le w ls (omega arith)) (omega arith) in
    let right : length (drop w ls) ≤ 2 ^ k = rw (length-drop w ls) (omega arith) in
    path_of-within (suc k) ls i whole
    ∙ path_within-right k ls i (omega arith) (omega arith)
    ∙ rw (← e) (ap₂ (λ p r. p ++ Left r ∷ []) (sym (path_of-within k (drop w ls) (i - w) right)) (sym (root_of-within k (take w ls) left)))
