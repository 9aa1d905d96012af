-- A path climbs to the root, and two ways that meet collide.
use Rattle.std.proofs.Common.{◌≡◌, ◌≢◌, ℕ, zero, suc, ◌+◌, ◌-◌, ◌^◌, ◌≤◌, List, [], ◌∷◌, ◌++◌, length, take, drop, get_or, refl, sym, ap, ◌∙◌, arith, length-drop, length-append, inl, inr}
use Rattle.std.proofs.Math.Nat.{pow-suc}
use Rattle.std.proofs.lemmas.Bool.{cases_lt, cases_Bool, both_ways}
use Rattle.std.proofs.lemmas.List.{length-take-le, get_or-take, get_or-drop, take_at, drop_at}
use Rattle.std.proofs.lemmas.Grind.{fold-append}
use Rattle.std.proofs.lemmas.Slice.Eq.{bytes_eq-Decides}
use Rattle.std.specs.Str.{bytes_eq}
use Rattle.sha2.specs.Sha256.{sha256}
use Rattle.sha2.proofs.Facts256.{length-sha256}
use Rattle.gl_merkle.specs.declared.tree.Step.{Step}
use Rattle.gl_merkle.specs.declared.tree.Step.TheVariants.{Left, Right}
use Rattle.gl_merkle.specs.Tree.{inner_of, root_within}
use Rattle.gl_merkle.specs.Path.{path_within, climb_of, joined}
use Rattle.gl_merkle.specs.Collision.{IsSameSide, HaveSameSides, input_of, Collide}
use Rattle.gl_merkle.proofs.TreeLemmas.{root_within-low, root_within-split, path_within-low, path_within-left, path_within-right}

climb-one : (ls : List (List ℕ)) (i : ℕ) → 1 ≤ i → i ≤ length ls → length ls ≤ 1 → climb_of (get_or ls (i - 1) []) (path_within 0 ls i) ≡ root_within 0 ls
unfolding path_within root_within
climb-one ls i low high one = let e : i - 1 ≡ 0 = omega arith in rw e

pub climb-within : (h : ℕ) (ls : List (List ℕ)) (i : ℕ) → 1 ≤ i → i ≤ length ls → length ls ≤ 2 ^ h → climb_of (get_or ls (i - 1) []) (path_within h ls i) ≡ root_within h ls
climb-within zero ls i low high fits = climb-one ls i low high fits
climb-within (suc h) ls i low high fits =
    let two = pow-suc 2 h in
    elim (cases_lt (2 ^ h) (length ls)) [
      | inr le ↦ rw (path_within-low h ls i le, root_within-low h ls le) (climb-within h ls i low high le)
      | inl lt ↦ elim (cases_lt (2 ^ h) i) [
        | inr left ↦ (
            let size = length-take-le (2 ^ h) ls (omega arith) in
            let here = climb-within h (take (2 ^ h) ls) i low (omega arith) (omega arith) in
            let at = get_or-take (2 ^ h) ls (i - 1) [] (omega arith) in
            rw (path_within-left h ls i lt left, root_within-split h ls lt, fold-append, ← at)
            (ap (λ x. inner_of x (root_within h (drop (2 ^ h) ls))) here))
        | inl right ↦ (
            let size = length-drop (2 ^ h) ls in
            let here = climb-within h (drop (2 ^ h) ls) (i - 2 ^ h) (omega arith) (omega arith) (omega arith) in
            let place : 2 ^ h + (i - 2 ^ h - 1) ≡ i - 1 = omega arith in
            let at = get_or-drop (2 ^ h) ls (i - 2 ^ h - 1) [] ∙ ap (λ n. get_or ls n []) place in
            rw (path_within-right h ls i lt right, root_within-split h ls lt, fold-append, ← at)
            (ap (λ x. inner_of (root_within h (take (2 ^ h) ls)) x) here))
      ]
    ]

-- ---- two ways that meet

pub joined-input : (a : List ℕ) (x : Step) → joined a x ≡ sha256 (input_of a x)
joined-input a (Left z) = refl
joined-input a (Right z) = refl

pub length-joined : (a : List ℕ) (x : Step) → length (joined a x) ≡ 32
length-joined a x = ap length (joined-input a x) ∙ length-sha256 (input_of a x)

same_ends : (z a w b : List ℕ) → length a ≡ length b → z ++ a ≡ w ++ b → a ≡ b
same_ends z a w b len e =
    let prefixes : length z ≡ length w = omega (arith, length-append z a, length-append w b, ap length e) in
    sym (drop_at z a (length z) refl) ∙ ap (drop (length z)) e ∙ drop_at w b (length z) (sym prefixes)

input_of-differ : (a b : List ℕ) (x y : Step) → length a ≡ length b → a ≢ b → IsSameSide x y → input_of a x ≢ input_of b y
input_of-differ a b (Left z) (Left w) len ne same = λ e. ne (same_ends z a w b len e)
input_of-differ a b (Left z) (Right w) len ne same = absurd same
input_of-differ a b (Right z) (Left w) len ne same = absurd same
input_of-differ a b (Right z) (Right w) len ne same = λ e. ne (sym (take_at a z (length a) refl) ∙ ap (take (length a)) e ∙ take_at b w (length a) (sym len))

pub collide-climb : (a : List ℕ) (s : List Step) (b : List ℕ) (t : List Step) → length a ≡ length b → a ≢ b → HaveSameSides s t → climb_of a s ≡ climb_of b t → Collide a s b t
collide-climb a [] b [] len ne same meet = ne meet
collide-climb a [] b (y ∷ t) len ne same meet = absurd same
collide-climb a (x ∷ s) b [] len ne same meet = absurd same
collide-climb a (x ∷ s) b (y ∷ t) len ne same meet =
    elim (cases_Bool (bytes_eq (joined a x) (joined b y))) [
      | inl same_node ↦ inl (input_of-differ a b x y len ne same.0, sym (joined-input a x) ∙ (bytes_eq-Decides (joined a x) (joined b y)).0 same_node ∙ joined-input b y)
      | inr other_node ↦ inr (collide-climb (joined a x) s (joined b y) t (length-joined a x ∙ sym (length-joined b y)) (λ e. both_ways _ other_node ((bytes_eq-Decides (joined a x) (joined b y)).1 e)) same.1 meet)
    ]

-- ---- the sides of a path hang on the place and the number of leaves alone

HaveSameSides-append : (s t : List Step) (x y : Step) → HaveSameSides s t → IsSameSide x y → HaveSameSides (s ++ x ∷ []) (t ++ y ∷ [])
HaveSameSides-append [] [] x y h same = (same, tt)
HaveSameSides-append [] (z ∷ t) x y h same = absurd h
HaveSameSides-append (w ∷ s) [] x y h same = absurd h
HaveSameSides-append (w ∷ s) (z ∷ t) x y h same = (h.0, HaveSameSides-append s t x y h.1 same)

sides_at_zero : (ls ms : List (List ℕ)) (i : ℕ) → HaveSameSides (path_within 0 ls i) (path_within 0 ms i)
unfolding path_within
sides_at_zero ls ms i = tt

pub HaveSameSides-path : (h : ℕ) (ls ms : List (List ℕ)) (i : ℕ) → length ls ≡ length ms → HaveSameSides (path_within h ls i) (path_within h ms i)
HaveSameSides-path zero ls ms i e = sides_at_zero ls ms i
HaveSameSides-path (suc h) ls ms i e =
    elim (cases_lt (2 ^ h) (length ls)) [
      | inr le ↦ rw (path_within-low h ls i le, path_within-low h ms i (omega arith)) (HaveSameSides-path h ls ms i e)
      | inl lt ↦ elim (cases_lt (2 ^ h) i) [
        | inr left ↦ (
            let one = length-take-le (2 ^ h) ls (omega arith) in
            let two = length-take-le (2 ^ h) ms (omega arith) in
            rw (path_within-left h ls i lt left, path_within-left h ms i (omega arith) left)
            (HaveSameSides-append _ _ (Right (root_within h (drop (2 ^ h) ls))) (Right (root_within h (drop (2 ^ h) ms))) (HaveSameSides-path h (take (2 ^ h) ls) (take (2 ^ h) ms) i (one ∙ sym two)) tt))
        | inl right ↦ (
            let one = length-drop (2 ^ h) ls in
            let two = length-drop (2 ^ h) ms in
            rw (path_within-right h ls i lt right, path_within-right h ms i (omega arith) right)
            (HaveSameSides-append _ _ (Left (root_within h (take (2 ^ h) ls))) (Left (root_within h (take (2 ^ h) ms))) (HaveSameSides-path h (drop (2 ^ h) ls) (drop (2 ^ h) ms) (i - 2 ^ h) (omega arith)) tt))
      ]
    ]
