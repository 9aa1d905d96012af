-- A way that ends at a root, followed down from there.
use Rattle.std.proofs.Common.{◌≡◌, ◌≢◌, ◌⊎◌, ℕ, zero, suc, ◌+◌, ◌-◌, ◌^◌, ◌<◌, ◌≤◌, List, [], ◌∷◌, ◌++◌, length, take, drop, get_or, refl, sym, subst, ap, ◌∙◌, arith, length-append, inl, inr, All, Contains}
use Rattle.std.proofs.Math.Nat.{pow-suc}
use Rattle.std.proofs.lemmas.Nat.{pow_pos}
use Rattle.std.proofs.lemmas.Bool.{cases_lt, cases_Bool, both_ways, cond-true, cond-false, le-leb, lt-leb}
use Rattle.std.proofs.lemmas.List.{length-take-le, length-drop, get_or-take, get_or-drop, take_at, drop_at, get_or_at, take-append-drop}
use Rattle.std.proofs.lemmas.List.Elements.{All-take, All-drop, Contains-append_left, Contains-append_right, Contains-push, Contains-get_or}
use Rattle.std.proofs.lemmas.Grind.{fold-append}
use Rattle.std.proofs.lemmas.Slice.Eq.{bytes_eq-Decides}
use Rattle.std.specs.Str.{bytes_eq}
use Rattle.sha2.specs.Sha256.{sha256}
use Rattle.sha2.proofs.Facts256.{length-sha256}
use Rattle.gl_merkle.specs.declared.tree.Step.{Step}
use Rattle.gl_merkle.specs.declared.tree.Step.TheVariants.{Left, Right}
use Rattle.gl_merkle.specs.Tree.{root_within, root_of}
use Rattle.gl_merkle.specs.Path.{path_within, path_of, climb_of, joined}
use Rattle.gl_merkle.specs.Collision.{input_of}
use Rattle.gl_merkle.specs.Reach.{IsDigest, sibling_of, inputs_on, inputs_within, inputs_of, IsReached}
use Rattle.gl_merkle.proofs.TreeLemmas.{below_pow, root_within-low, root_within-split, path_within-low, path_within-left, path_within-right}
use Rattle.gl_merkle.proofs.PathLemmas.{joined-input, length-joined}

inputs_within-low : (h : ℕ) (ls : List (List ℕ)) → length ls ≤ 2 ^ h → inputs_within (suc h) ls ≡ inputs_within h ls
unfolding inputs_within
inputs_within-low h ls le = cond-true _ _ _ (le-leb _ _ le)

inputs_within-split : (h : ℕ) (ls : List (List ℕ)) → 2 ^ h < length ls → inputs_within (suc h) ls ≡ (root_within h (take (2 ^ h) ls) ++ root_within h (drop (2 ^ h) ls)) ∷ inputs_within h (take (2 ^ h) ls) ++ inputs_within h (drop (2 ^ h) ls)
unfolding inputs_within
inputs_within-split h ls lt = cond-false _ _ _ (lt-leb _ _ lt)

Contains-head : (x : List ℕ) (xs : List (List ℕ)) → Contains (x ∷ xs) x
Contains-head x xs = (0, omega arith, refl)

Contains-tail : (x y : List ℕ) (xs : List (List ℕ)) → Contains xs y → Contains (x ∷ xs) y
Contains-tail x y xs c = (suc c.0, omega (arith, c.1), c.2)

inputs_on-append : (node : List ℕ) (s : List Step) (x : Step) → inputs_on node (s ++ x ∷ []) ≡ inputs_on node s ++ input_of (climb_of node s) x ∷ []
inputs_on-append node [] x = refl
inputs_on-append node (y ∷ s) x = ap (λ r. input_of node y ∷ r) (inputs_on-append (joined node y) s x)

-- the steps but the last, and the last
last_of : (s : List Step) → 0 < length s → (t : List Step) × (x : Step) × (s ≡ t ++ x ∷ []) × (length t < length s)
last_of (x ∷ []) some = ([], x, refl, omega arith)
last_of [] some = absurd (omega arith)
last_of (x ∷ y ∷ s) some =
    let rest = last_of (y ∷ s) (omega arith) in
    (x ∷ rest.0, rest.1, ap (λ r. x ∷ r) rest.2, omega (arith, rest.3))

length-climb_of : (s : List Step) (node : List ℕ) → IsDigest node → IsDigest (climb_of node s)
length-climb_of [] node h = h
length-climb_of (x ∷ s) node h = length-climb_of s (joined node x) (length-joined node x)

root_at_zero : (ls : List (List ℕ)) → root_within 0 ls ≡ get_or ls 0 []
unfolding root_within
root_at_zero ls = refl

path_at_zero : (ls : List (List ℕ)) (i : ℕ) → path_within 0 ls i ≡ []
unfolding path_within
path_at_zero ls i = refl

length-root_within : (h : ℕ) (ls : List (List ℕ)) → 0 < length ls → length ls ≤ 2 ^ h → All IsDigest ls → IsDigest (root_within h ls)
length-root_within zero ls some fits all = rw (root_at_zero ls) (all 0 [] some)
length-root_within (suc h) ls some fits all =
    elim (cases_lt (2 ^ h) (length ls)) [
      | inl lt ↦ rw (root_within-split h ls lt) (length-sha256 _)
      | inr le ↦ rw (root_within-low h ls le) (length-root_within h ls some le all)
    ]

-- what a way that ends at the root of at most 2 ^ h leaves can be
abbrev ReachedWithin : ℕ → List ℕ → List Step → List (List ℕ) → Type 0
ReachedWithin h node steps ls =
    ((i : ℕ) × (1 ≤ i) × (i ≤ length ls) × (node ≡ get_or ls (i - 1) []) × (steps ≡ path_within h ls i))
    ⊎ (((a : List ℕ) × (b : List ℕ) × Contains (inputs_on node steps) a × Contains (inputs_within h ls) b × (a ≢ b) × (sha256 a ≡ sha256 b))
    ⊎ (((b : List ℕ) × Contains (inputs_within h ls) b × (node ≡ sha256 b))
    ⊎ ((a : List ℕ) × (l : List ℕ) × Contains (inputs_on node steps) a × Contains ls l × (l ≡ sha256 a))))

-- the same root, one height further
reached-low : (h : ℕ) (node : List ℕ) (steps : List Step) (ls : List (List ℕ)) → length ls ≤ 2 ^ h → ReachedWithin h node steps ls → ReachedWithin (suc h) node steps ls
reached-low h node steps ls le (inl p) = inl (p.0, p.1, p.2, p.3, p.4 ∙ sym (path_within-low h ls p.0 le))
reached-low h node steps ls le (inr (inl p)) = inr (inl (p.0, p.1, p.2, rw (inputs_within-low h ls le) p.3, p.4, p.5))
reached-low h node steps ls le (inr (inr (inl p))) = inr (inr (inl (p.0, rw (inputs_within-low h ls le) p.1, p.2)))
reached-low h node steps ls le (inr (inr (inr p))) = inr (inr (inr p))

-- from the right part of the tree
reached-right : (h : ℕ) (node : List ℕ) (steps : List Step) (ls : List (List ℕ)) → 2 ^ h < length ls → ReachedWithin h node steps (drop (2 ^ h) ls) → ReachedWithin (suc h) node (steps ++ Left (root_within h (take (2 ^ h) ls)) ∷ []) ls
reached-right h node steps ls lt (inl p) =
    let size = length-drop (2 ^ h) ls in
    let index : 2 ^ h + (p.0 - 1) ≡ p.0 + 2 ^ h - 1 = omega arith in
    let back : p.0 + 2 ^ h - 2 ^ h ≡ p.0 = omega arith in
    inl (
      p.0 + 2 ^ h,
      omega arith,
      omega (arith, p.2, size),
      p.3 ∙ get_or-drop (2 ^ h) ls (p.0 - 1) [] ∙ ap (λ k. get_or ls k []) index,
      ap (λ s. s ++ Left (root_within h (take (2 ^ h) ls)) ∷ []) (p.4 ∙ ap (path_within h (drop (2 ^ h) ls)) (sym back)) ∙ sym (path_within-right h ls (p.0 + 2 ^ h) lt (omega (arith, p.1))),
    )
reached-right h node steps ls lt (inr (inl p)) =
    inr (inl (
      p.0,
      p.1,
      rw (inputs_on-append node steps (Left (root_within h (take (2 ^ h) ls)))) (Contains-append_left (inputs_on node steps) _ p.0 p.2),
      rw (inputs_within-split h ls lt) (Contains-append_right ((root_within h (take (2 ^ h) ls) ++ root_within h (drop (2 ^ h) ls)) ∷ inputs_within h (take (2 ^ h) ls)) (inputs_within h (drop (2 ^ h) ls)) p.1 p.3),
      p.4,
      p.5,
    ))
reached-right h node steps ls lt (inr (inr (inl p))) =
    inr (inr (inl (p.0, rw (inputs_within-split h ls lt) (Contains-append_right ((root_within h (take (2 ^ h) ls) ++ root_within h (drop (2 ^ h) ls)) ∷ inputs_within h (take (2 ^ h) ls)) (inputs_within h (drop (2 ^ h) ls)) p.0 p.1), p.2)))
reached-right h node steps ls lt (inr (inr (inr p))) =
    let there = rw (take-append-drop (2 ^ h) ls) at (Contains-append_right (take (2 ^ h) ls) (drop (2 ^ h) ls) p.1 p.3) in
    inr (inr (inr (p.0, p.1, rw (inputs_on-append node steps (Left (root_within h (take (2 ^ h) ls)))) (Contains-append_left (inputs_on node steps) _ p.0 p.2), there, p.4)))

-- from the left part of the tree
reached-left : (h : ℕ) (node : List ℕ) (steps : List Step) (ls : List (List ℕ)) → 2 ^ h < length ls → ReachedWithin h node steps (take (2 ^ h) ls) → ReachedWithin (suc h) node (steps ++ Right (root_within h (drop (2 ^ h) ls)) ∷ []) ls
reached-left h node steps ls lt (inl p) =
    let size = length-take-le (2 ^ h) ls (omega arith) in
    inl (
      p.0,
      p.1,
      omega (arith, p.2, size),
      p.3 ∙ get_or-take (2 ^ h) ls (p.0 - 1) [] (omega (arith, p.1, p.2, size)),
      ap (λ s. s ++ Right (root_within h (drop (2 ^ h) ls)) ∷ []) p.4 ∙ sym (path_within-left h ls p.0 lt (omega (arith, p.2, size))),
    )
reached-left h node steps ls lt (inr (inl p)) =
    inr (inl (
      p.0,
      p.1,
      rw (inputs_on-append node steps (Right (root_within h (drop (2 ^ h) ls)))) (Contains-append_left (inputs_on node steps) _ p.0 p.2),
      rw (inputs_within-split h ls lt) (Contains-append_left (_ ∷ inputs_within h (take (2 ^ h) ls)) (inputs_within h (drop (2 ^ h) ls)) p.1 (Contains-tail _ p.1 (inputs_within h (take (2 ^ h) ls)) p.3)),
      p.4,
      p.5,
    ))
reached-left h node steps ls lt (inr (inr (inl p))) =
    inr (inr (inl (p.0, rw (inputs_within-split h ls lt) (Contains-append_left (_ ∷ inputs_within h (take (2 ^ h) ls)) (inputs_within h (drop (2 ^ h) ls)) p.0 (Contains-tail _ p.0 (inputs_within h (take (2 ^ h) ls)) p.1)), p.2)))
reached-left h node steps ls lt (inr (inr (inr p))) =
    let there = rw (take-append-drop (2 ^ h) ls) at (Contains-append_left (take (2 ^ h) ls) (drop (2 ^ h) ls) p.1 p.3) in
    inr (inr (inr (p.0, p.1, rw (inputs_on-append node steps (Right (root_within h (drop (2 ^ h) ls)))) (Contains-append_left (inputs_on node steps) _ p.0 p.2), there, p.4)))

-- two inputs of two digests each are equal in both parts
same_parts : (z m a b : List ℕ) → IsDigest z → IsDigest a → z ++ m ≡ a ++ b → (z ≡ a) × (m ≡ b)
same_parts z m a b hz ha e =
    (sym (take_at z m 32 hz) ∙ ap (take 32) e ∙ take_at a b 32 ha, sym (drop_at z m 32 hz) ∙ ap (drop 32) e ∙ drop_at a b 32 ha)

-- the last step of the way, at the node over both parts of the tree
reach-node : (h : ℕ) (node : List ℕ) (t : List Step) (x : Step) (ls : List (List ℕ)) → IsDigest (sibling_of x) → IsDigest (climb_of node t) → All IsDigest ls → 2 ^ h < length ls → length ls ≤ 2 ^ suc h → climb_of node (t ++ x ∷ []) ≡ root_within (suc h) ls → (climb_of node t ≡ root_within h (take (2 ^ h) ls) → ReachedWithin h node t (take (2 ^ h) ls)) → (climb_of node t ≡ root_within h (drop (2 ^ h) ls) → ReachedWithin h node t (drop (2 ^ h) ls)) → ReachedWithin (suc h) node (t ++ x ∷ []) ls
reach-node h node t (Left z) ls digest here all lt fits meet in_left in_right =
    let two = pow-suc 2 h in
    let full = pow_pos h in
    let size = length-take-le (2 ^ h) ls (omega arith) in
    let a = root_within h (take (2 ^ h) ls) in
    let b = root_within h (drop (2 ^ h) ls) in
    let prefix = length-root_within h (take (2 ^ h) ls) (omega arith) (omega arith) (All-take IsDigest (2 ^ h) ls all) in
    let one = sym (fold-append joined node t (Left z ∷ [])) ∙ meet ∙ root_within-split h ls lt in
    elim (cases_Bool (bytes_eq (z ++ climb_of node t) (a ++ b))) [
      | inl same ↦ (
          let parts = same_parts z (climb_of node t) a b digest prefix ((bytes_eq-Decides (z ++ climb_of node t) (a ++ b)).0 same) in
          rw parts.0 (reached-right h node t ls lt (in_right parts.1)))
      | inr other ↦ inr (inl (
        z ++ climb_of node t,
        a ++ b,
        rw (inputs_on-append node t (Left z)) (Contains-push (inputs_on node t) (z ++ climb_of node t)),
        rw (inputs_within-split h ls lt) (Contains-head (a ++ b) (inputs_within h (take (2 ^ h) ls) ++ inputs_within h (drop (2 ^ h) ls))),
        (λ e. both_ways _ other ((bytes_eq-Decides (z ++ climb_of node t) (a ++ b)).1 e)),
        one,
      ))
    ]
reach-node h node t (Right z) ls digest here all lt fits meet in_left in_right =
    let two = pow-suc 2 h in
    let full = pow_pos h in
    let size = length-take-le (2 ^ h) ls (omega arith) in
    let a = root_within h (take (2 ^ h) ls) in
    let b = root_within h (drop (2 ^ h) ls) in
    let prefix = length-root_within h (take (2 ^ h) ls) (omega arith) (omega arith) (All-take IsDigest (2 ^ h) ls all) in
    let one = sym (fold-append joined node t (Right z ∷ [])) ∙ meet ∙ root_within-split h ls lt in
    elim (cases_Bool (bytes_eq (climb_of node t ++ z) (a ++ b))) [
      | inl same ↦ (
          let parts = same_parts (climb_of node t) z a b here prefix ((bytes_eq-Decides (climb_of node t ++ z) (a ++ b)).0 same) in
          rw parts.1 (reached-left h node t ls lt (in_left parts.0)))
      | inr other ↦ inr (inl (
        climb_of node t ++ z,
        a ++ b,
        rw (inputs_on-append node t (Right z)) (Contains-push (inputs_on node t) (climb_of node t ++ z)),
        rw (inputs_within-split h ls lt) (Contains-head (a ++ b) (inputs_within h (take (2 ^ h) ls) ++ inputs_within h (drop (2 ^ h) ls))),
        (λ e. both_ways _ other ((bytes_eq-Decides (climb_of node t ++ z) (a ++ b)).1 e)),
        one,
      ))
    ]

last_sibling : (t : List Step) (x : Step) → All (λ y. IsDigest (sibling_of y)) (t ++ x ∷ []) → IsDigest (sibling_of x)
last_sibling t x all =
    let size = length-append t (x ∷ []) in
    rw (get_or_at t x [] x (length t) refl) at (all (length t) x (omega arith))

reach-last : (h : ℕ) (node : List ℕ) (steps t : List Step) (x : Step) (ls : List (List ℕ)) → steps ≡ t ++ x ∷ [] → IsDigest node → All (λ x. IsDigest (sibling_of x)) steps → All IsDigest ls → 2 ^ h < length ls → length ls ≤ 2 ^ suc h → climb_of node steps ≡ root_within (suc h) ls → ((t : List Step) → All (λ x. IsDigest (sibling_of x)) t → climb_of node t ≡ root_within h (take (2 ^ h) ls) → ReachedWithin h node t (take (2 ^ h) ls)) → ((t : List Step) → All (λ x. IsDigest (sibling_of x)) t → climb_of node t ≡ root_within h (drop (2 ^ h) ls) → ReachedWithin h node t (drop (2 ^ h) ls)) → ReachedWithin (suc h) node steps ls
reach-last h node steps t x ls e digest siblings all lt fits meet in_left in_right =
    let P : List Step → Type 0 = λ s. All (λ x. IsDigest (sibling_of x)) s in
    let split = subst P e siblings in
    let fewer = subst P (take_at t (x ∷ []) (length t) refl) (All-take (λ (x : Step). IsDigest (sibling_of x)) (length t) (t ++ x ∷ []) split) in
    let Q : List Step → Type 0 = λ s. ReachedWithin (suc h) node s ls in
    subst Q (sym e) (reach-node h node t x ls (last_sibling t x split) (length-climb_of t node digest) all lt fits
    (ap (climb_of node) (sym e) ∙ meet) (in_left t fewer) (in_right t fewer))

-- the way at the node over both parts of the tree
reach-split : (h : ℕ) (node : List ℕ) (steps : List Step) (ls : List (List ℕ)) → IsDigest node → All (λ x. IsDigest (sibling_of x)) steps → All IsDigest ls → 2 ^ h < length ls → length ls ≤ 2 ^ suc h → climb_of node steps ≡ root_within (suc h) ls → ((t : List Step) → All (λ x. IsDigest (sibling_of x)) t → climb_of node t ≡ root_within h (take (2 ^ h) ls) → ReachedWithin h node t (take (2 ^ h) ls)) → ((t : List Step) → All (λ x. IsDigest (sibling_of x)) t → climb_of node t ≡ root_within h (drop (2 ^ h) ls) → ReachedWithin h node t (drop (2 ^ h) ls)) → ReachedWithin (suc h) node steps ls
reach-split h node [] ls digest siblings all lt fits meet in_left in_right =
    inr (inr (inl (
      root_within h (take (2 ^ h) ls) ++ root_within h (drop (2 ^ h) ls),
      rw (inputs_within-split h ls lt) (Contains-head (root_within h (take (2 ^ h) ls) ++ root_within h (drop (2 ^ h) ls)) (inputs_within h (take (2 ^ h) ls) ++ inputs_within h (drop (2 ^ h) ls))),
      meet ∙ root_within-split h ls lt,
    )))
reach-split h node (y ∷ s) ls digest siblings all lt fits meet in_left in_right =
    let last = last_of (y ∷ s) (omega arith) in
    reach-last h node (y ∷ s) last.0 last.1 ls last.2 digest siblings all lt fits meet in_left in_right

-- the last step of the way, at a tree of one leaf
reach-past : (node : List ℕ) (t : List Step) (x : Step) (ls : List (List ℕ)) → 0 < length ls → climb_of node (t ++ x ∷ []) ≡ root_within 0 ls → ReachedWithin 0 node (t ++ x ∷ []) ls
reach-past node t x ls some meet =
    let one = sym (root_at_zero ls) ∙ sym meet ∙ fold-append joined node t (x ∷ []) ∙ joined-input (climb_of node t) x in
    inr (inr (inr (
      input_of (climb_of node t) x,
      get_or ls 0 [],
      rw (inputs_on-append node t x) (Contains-push (inputs_on node t) (input_of (climb_of node t) x)),
      Contains-get_or ls 0 [] some,
      one,
    )))

pub reach-within : (h : ℕ) (node : List ℕ) (steps : List Step) (ls : List (List ℕ)) → IsDigest node → All (λ x. IsDigest (sibling_of x)) steps → All IsDigest ls → 0 < length ls → length ls ≤ 2 ^ h → climb_of node steps ≡ root_within h ls → ReachedWithin h node steps ls
reach-within zero node [] ls digest siblings all some fits meet =
    inl (1, omega arith, omega arith, meet ∙ root_at_zero ls, sym (path_at_zero ls 1))
reach-within zero node (y ∷ s) ls digest siblings all some fits meet =
    let last = last_of (y ∷ s) (omega arith) in
    let Q : List Step → Type 0 = λ s. ReachedWithin 0 node s ls in
    subst Q (sym last.2) (reach-past node last.0 last.1 ls some (ap (climb_of node) (sym last.2) ∙ meet))
reach-within (suc h) node steps ls digest siblings all some fits meet =
    let two = pow-suc 2 h in
    let full = pow_pos h in
    elim (cases_lt (2 ^ h) (length ls)) [
      | inr le ↦ reached-low h node steps ls le (reach-within h node steps ls digest siblings all some le (meet ∙ root_within-low h ls le))
      | inl lt ↦ reach-split h node steps ls digest siblings all lt fits meet
          (λ t fewer. reach-within h node t (take (2 ^ h) ls) digest fewer (All-take IsDigest (2 ^ h) ls all)
          (let size = length-take-le (2 ^ h) ls (omega arith) in omega arith) (let size = length-take-le (2 ^ h) ls (omega arith) in omega arith))
          (λ t fewer. reach-within h node t (drop (2 ^ h) ls) digest fewer (All-drop IsDigest (2 ^ h) ls all)
          (let size = length-drop (2 ^ h) ls in omega arith) (let size = length-drop (2 ^ h) ls in omega arith))
    ]

named : (node : List ℕ) (steps : List Step) (ls : List (List ℕ)) → ReachedWithin (length ls) node steps ls → IsReached node steps ls
unfolding path_of inputs_of
named node steps ls (inl p) = inl (p.0, record { from_one = p.1; within = p.2; leaf = p.3; path = p.4 })
named node steps ls (inr (inl p)) = inr (inl (p.0, p.1, record { on_way = p.2; in_tree = p.3; differ = p.4; one_digest = p.5 }))
named node steps ls (inr (inr (inl p))) = inr (inr (inl (p.0, record { in_tree = p.1; digest = p.2 })))
named node steps ls (inr (inr (inr p))) = inr (inr (inr (p.0, p.1, record { on_way = p.2; in_list = p.3; digest = p.4 })))

pub reached : (node : List ℕ) (steps : List Step) (ls : List (List ℕ)) → IsDigest node → All (λ x. IsDigest (sibling_of x)) steps → All IsDigest ls → 0 < length ls → climb_of node steps ≡ root_of ls → IsReached node steps ls
unfolding root_of
reached node steps ls digest siblings all some meet =
    named node steps ls (reach-within (length ls) node steps ls digest siblings all some (omega (arith, below_pow (length ls))) meet)
