-- The levels of a frontier: level k has the roots of the complete subtrees of 2 ^ k leaves, in
-- order. Over a base of b leaves a level leaves out what lies whole below the base, but for a peak:
-- of the complete nodes that it would have, it holds those from place b / 2 ^ k on, rounded down to
-- an even place. So the next level's base is half of this one's.
use Rattle.std.specs.Prelude.{◌≡◌, ℕ, zero, suc, ◌+◌, ◌-◌, ◌*◌, ◌/◌, ◌%◌, ◌<◌, ◌≤◌, List, [], ◌∷◌, ◌++◌, Option, Some, None, option_to_list, length, take, drop, map, slice_index_or, nat_eq, nat_lt, if◌then◌else◌, vec_len, vec_capacity}
use Rattle.std.specs.declared.alloc.Global.{Global}
use Rattle.std.specs.declared.vec.Vec.{Vec}
use Rattle.gl_merkle.specs.declared.tree.Step.{Step}
use Rattle.gl_merkle.specs.declared.tree.Step.TheVariants.{Left, Right}
use Rattle.gl_merkle.specs.Tree.{inner_of}

-- a level: a list of digests in order
abbrev pub Level : Type 0
Level = Vec (List ℕ) Global

-- the nodes of each level
abbrev pub nodes_of : List Level → List (List (List ℕ))
nodes_of levels = map (λ v. v.items) levels

-- how many nodes each level has room for
abbrev pub rooms_of : List Level → List ℕ
rooms_of levels = map (λ v. vec_capacity v) levels

-- the complete nodes one level up: one over each two neighbours
abbrev pub pairs_of : List (List ℕ) → List (List ℕ)
pairs_of [] = []
pairs_of (x ∷ []) = []
pairs_of (x ∷ y ∷ rest) = inner_of x y ∷ pairs_of rest

-- over a base of b nodes, n nodes take this many places in each level
abbrev pub AreSized : ℕ → ℕ → List (List (List ℕ)) → Type 0
AreSized b n [] = Unit {0}
AreSized b n (r ∷ rs) = (length r + b / 2 * 2 ≡ n) × AreSized (b / 2) (n / 2) rs

-- over a base of b nodes, each level has room for what n nodes take
abbrev pub AreRoomy : ℕ → ℕ → List ℕ → Type 0
AreRoomy b n [] = Unit {0}
AreRoomy b n (c ∷ cs) = (n ≤ c + b / 2 * 2) × AreRoomy (b / 2) (n / 2) cs

-- over a base of b nodes, each level holds those of the first n nodes
abbrev pub HoldFirst : ℕ → ℕ → List (List (List ℕ)) → Type 0
HoldFirst b n [] = Unit {0}
HoldFirst b n (r ∷ rs) = (n ≤ length r + b / 2 * 2) × HoldFirst (b / 2) (n / 2) rs

-- over a base of b nodes, the levels hold the tree over these nodes
abbrev pub Cover : ℕ → List (List (List ℕ)) → List (List ℕ) → Type 0
Cover b [] nodes = Unit {0}
Cover b (r ∷ rs) nodes = (r ≡ drop (b / 2 * 2) nodes) × Cover (b / 2) rs (pairs_of nodes)

-- each level that one more leaf reaches has room for one more node
abbrev pub HasRoom : List Level → Type 0
HasRoom [] = Unit {0}
HasRoom (v ∷ vs) = (vec_len v < vec_capacity v) × (vec_len v % 2 ≡ 1 → HasRoom vs)

-- the levels after one more node in the lowest: two neighbours make a node of the next
abbrev pub with_node : List (List (List ℕ)) → List ℕ → List (List (List ℕ))
with_node [] x = []
with_node (r ∷ rs) x = (r ++ x ∷ []) ∷
    (if nat_eq (length r % 2) 0 then rs else with_node rs
    (inner_of (slice_index_or r (length r - 1) []) x))

-- the levels cut to the tree of n nodes
abbrev pub cut_to : ℕ → ℕ → List (List (List ℕ)) → List (List (List ℕ))
cut_to b n [] = []
cut_to b n (r ∷ rs) = take (n - b / 2 * 2) r ∷ cut_to (b / 2) (n / 2) rs

-- k levels that hold no more than the peaks of b leaves, greatest first
unfoldable pub base_levels : ℕ → ℕ → List (List ℕ) → List (List (List ℕ))
base_levels zero b ps = []
base_levels (suc k) b ps =
    if nat_eq (b % 2) 0
    then [] ∷ base_levels k (b / 2) ps
    else (slice_index_or ps (length ps - 1) [] ∷ [])
    ∷ base_levels k (b / 2) (take (length ps - 1) ps)

-- ---- the tree of the first n nodes of a level, and the incomplete node after them, if any

-- the last of n nodes of a level over a base of b
abbrev pub last_node : List (List ℕ) → ℕ → ℕ → List ℕ
last_node r b n = slice_index_or r (n - 1 - b / 2 * 2) []

-- a node with the incomplete one after it
abbrev pub over_tail : List ℕ → Option (List ℕ) → List ℕ
over_tail node None = node
over_tail node (Some tail) = inner_of node tail

-- the incomplete node after those of the next level
abbrev pub next_tail : List (List ℕ) → ℕ → ℕ → Option (List ℕ) → Option (List ℕ)
next_tail r b n tail = if nat_eq (n % 2) 0 then tail else Some (over_tail (last_node r b n) tail)

-- the incomplete node after those of the last level
abbrev pub tail_of : List (List (List ℕ)) → ℕ → ℕ → Option (List ℕ) → Option (List ℕ)
tail_of [] b n tail = tail
tail_of (r ∷ rs) b n tail = tail_of rs (b / 2) (n / 2) (next_tail r b n tail)

-- the step past the incomplete node on the right, if there is one
abbrev pub past_tail : Option (List ℕ) → Option Step
past_tail None = None
past_tail (Some tail) = Some (Right tail)

-- the step from the node at this place, counted from 0, to the next level
abbrev pub step_at : List (List ℕ) → ℕ → ℕ → ℕ → Option (List ℕ) → Option Step
step_at r b n place tail =
    if nat_eq (place % 2) 1
    then Some (Left (slice_index_or r (place - 1 - b / 2 * 2) []))
    else (if nat_lt (place + 1) n
    then Some (Right (slice_index_or r (place + 1 - b / 2 * 2) []))
    else (if nat_eq (place + 1) n then past_tail tail else None))

-- the steps from the node at this place, counted from 0, to the root
abbrev pub steps_of : List (List (List ℕ)) → ℕ → ℕ → ℕ → Option (List ℕ) → List Step
steps_of [] b n place tail = []
steps_of (r ∷ rs) b n place tail =
    option_to_list (step_at r b n place tail) ++ steps_of rs (b / 2) (n / 2) (place / 2)
    (next_tail r b n tail)

-- the peaks of n nodes, greatest first
abbrev pub level_peaks : List (List (List ℕ)) → ℕ → ℕ → List (List ℕ)
level_peaks [] b n = []
level_peaks (r ∷ rs) b n =
    level_peaks rs (b / 2) (n / 2) ++ (if nat_eq (n % 2) 0 then [] else last_node r b n ∷ [])
