-- One level written, in a loop over the levels.
use Rattle.std.proofs.Common.{◌≡◌, ℕ, zero, suc, ◌+◌, ◌*◌, ◌-◌, ◌/◌, ◌%◌, ◌<◌, ◌≤◌, List, [], ◌∷◌, ◌++◌, length, take, drop, get_or, set, map, sym, ap, ◌∙◌, arith, append_assoc, append-nil}
use Rattle.std.specs.List.{AllZip}
use Rattle.std.specs.Prelude.{vec_capacity, vec_len, slice_set}
use Rattle.std.proofs.lemmas.List.{take_more_set, drop-set-lt, drop_more, take-append-drop, map-append, map-set, set-get_or, get_or-map, get_or_append_left, get_or_default}
use Rattle.std.proofs.lemmas.Bool.{eq-eqb, ne_eqb}
use Rattle.gl_merkle.specs.Tree.{inner_of}
use Rattle.gl_merkle.specs.Levels.{Level, nodes_of, rooms_of, AreRoomy, HasRoom, with_node, base_levels}
use Rattle.gl_merkle.proofs.LevelLemmas.{base_levels-even, base_levels-odd}

-- what stays of each level stays at a write that keeps it
pub map-set_same : {B : Type 0} (f : Level → B) (vs : List Level) (k : ℕ) (d w : Level) → k < length vs → f w ≡ f (get_or vs k d) → map f (slice_set vs k w) ≡ map f vs
map-set_same f vs k d w lt same =
    map-set f vs k w
    ∙ ap (λ y. set (map f vs) k y) (same ∙ sym (get_or-map f vs k d (f w) lt))
    ∙ set-get_or (map f vs) k (f w)

-- a function of the levels from k on, one level further
pub nodes_of-step : (F G : List (List (List ℕ)) → List (List (List ℕ))) (all : List (List (List ℕ))) (vs : List Level) (k : ℕ) (d w : Level) → k < length vs → ((rs : List (List (List ℕ))) → F ((get_or vs k d).items ∷ rs) ≡ w.items ∷ G rs) → all ≡ nodes_of (take k vs) ++ F (nodes_of (drop k vs)) → all ≡ nodes_of (take (k + 1) (slice_set vs k w)) ++ G (nodes_of (drop (k + 1) (slice_set vs k w)))
nodes_of-step F G all vs k d w lt step before =
    before
    ∙ rw (drop_more vs k d lt, step (nodes_of (drop (k + 1) vs)), take_more_set vs k w lt, drop-set-lt (k + 1) vs k w (omega arith), map-append (λ (u : Level). u.items) (take k vs) (w ∷ []), append_assoc)

-- the same where the levels further on stay
pub nodes_of-stop : (F : List (List (List ℕ)) → List (List (List ℕ))) (all : List (List (List ℕ))) (vs : List Level) (k : ℕ) (d w : Level) → k < length vs → ((rs : List (List (List ℕ))) → F ((get_or vs k d).items ∷ rs) ≡ w.items ∷ rs) → all ≡ nodes_of (take k vs) ++ F (nodes_of (drop k vs)) → nodes_of (slice_set vs k w) ≡ all
nodes_of-stop F all vs k d w lt step before =
    let after = nodes_of-step F (λ rs. rs) all vs k d w lt step before in
    sym (after ∙ sym (map-append (λ (u : Level). u.items) (take (k + 1) (slice_set vs k w)) (drop (k + 1) (slice_set vs k w))) ∙ ap nodes_of (take-append-drop (k + 1) (slice_set vs k w)))

pub HasRoom-next : (vs : List Level) (k : ℕ) (d w : Level) → k < length vs → vec_len (get_or vs k d) % 2 ≡ 1 → HasRoom (drop k vs) → HasRoom (drop (k + 1) (slice_set vs k w))
HasRoom-next vs k d w lt odd room =
    let here = rw (drop_more vs k d lt) at room in
    rw (drop-set-lt (k + 1) vs k w (omega arith)) (here.1 odd)

pub AllZip-le_refl : (xs : List ℕ) → AllZip ◌≤◌ xs xs
AllZip-le_refl [] = tt
AllZip-le_refl (x ∷ xs) = (omega arith, AllZip-le_refl xs)

pub AllZip-le_set : (xs ys : List ℕ) (k c : ℕ) → AllZip ◌≤◌ xs ys → get_or ys k c ≤ c → AllZip ◌≤◌ xs (set ys k c)
AllZip-le_set [] [] k c h le = tt
AllZip-le_set [] (y ∷ ys) k c h le = absurd h
AllZip-le_set (x ∷ xs) [] k c h le = absurd h
AllZip-le_set (x ∷ xs) (y ∷ ys) zero c h le = (omega (arith, h.0), h.1)
AllZip-le_set (x ∷ xs) (y ∷ ys) (suc k) c h le = (h.0, AllZip-le_set xs ys k c h.1 le)

pub rooms_of-grown : (xs : List ℕ) (vs : List Level) (k : ℕ) (d w : Level) → k < length vs → vec_capacity (get_or vs k d) ≤ vec_capacity w → AllZip ◌≤◌ xs (rooms_of vs) → AllZip ◌≤◌ xs (rooms_of (slice_set vs k w))
rooms_of-grown xs vs k d w lt le h =
    let at : get_or (rooms_of vs) k (vec_capacity w) ≡ vec_capacity (get_or vs k d) = get_or-map (λ (u : Level). vec_capacity u) vs k d (vec_capacity w) lt in
    rw (map-set (λ (u : Level). vec_capacity u) vs k w) (AllZip-le_set xs (rooms_of vs) k (vec_capacity w) h (rw at le))

pub AreRoomy-grown : (b n : ℕ) (xs ys : List ℕ) → AllZip ◌≤◌ xs ys → AreRoomy b n xs → AreRoomy b n ys
AreRoomy-grown b n [] [] h room = tt
AreRoomy-grown b n [] (y ∷ ys) h room = absurd h
AreRoomy-grown b n (x ∷ xs) [] h room = absurd h
AreRoomy-grown b n (x ∷ xs) (y ∷ ys) h room = (omega (arith, h.0, room.0), AreRoomy-grown (b / 2) (n / 2) xs ys h.1 room.1)

-- ---- one node more

pub with_node-stop : (v : Level) (node : List ℕ) (s : List (List ℕ)) → s ≡ v.items ++ node ∷ [] → vec_len v % 2 ≡ 0 → (rs : List (List (List ℕ))) → with_node (v.items ∷ rs) node ≡ s ∷ rs
with_node-stop v node s e even rs =
    let size = v.ok.0 in
    rw (e, eq-eqb (length v.items % 2) 0 (omega arith))

pub with_node-step : (v : Level) (node next : List ℕ) (s : List (List ℕ)) → s ≡ v.items ++ node ∷ [] → vec_len v % 2 ≡ 1 → next ≡ inner_of (get_or v.items (vec_len v - 1) []) node → (rs : List (List (List ℕ))) → with_node (v.items ∷ rs) node ≡ s ∷ with_node rs next
with_node-step v node next s e odd is rs =
    let size = v.ok.0 in
    rw (e, ne_eqb (length v.items % 2) 0 (λ q. omega arith), is, size)

pub read_before : (xs : List (List ℕ)) (x y : List ℕ) (k : ℕ) → x ≡ get_or (xs ++ y ∷ []) k x → k < length xs → x ≡ get_or xs k []
read_before xs x y k e lt = e ∙ get_or_append_left xs (y ∷ []) x k lt ∙ get_or_default xs k x [] lt

-- ---- room

pub AreRoomy-step : (b n k : ℕ) (vs : List Level) (w : Level) (P : List ℕ → Type 0) (rest : List ℕ) → k < length vs → n ≤ vec_capacity w + b / 2 * 2 → ((cs : List ℕ) → AreRoomy b n cs → P (rooms_of (take k vs) ++ cs)) → AreRoomy (b / 2) (n / 2) rest → P (rooms_of (take (k + 1) (slice_set vs k w)) ++ rest)
AreRoomy-step b n k vs w P rest lt enough before h =
    rw (take_more_set vs k w lt, map-append (λ (u : Level). vec_capacity u) (take k vs) (w ∷ []), append_assoc) (before (vec_capacity w ∷ rest) (enough, h))

-- ---- the levels of a base

pub make_level-even : (all : List (List (List ℕ))) (vs ws : List Level) (v : Level) (k n b : ℕ) (ps qs : List (List ℕ)) → ws ≡ vs ++ v ∷ [] → v.items ≡ [] → qs ≡ ps → n ≡ suc k → b % 2 ≡ 0 → all ≡ nodes_of vs ++ base_levels n b ps → all ≡ nodes_of ws ++ base_levels k (b / 2) qs
make_level-even all vs ws v k n b ps qs grown empty rest more even before =
    before ∙ rw (more, base_levels-even k b ps even, grown, map-append (λ (u : Level). u.items) vs (v ∷ []), empty, rest, append_assoc)

pub make_level-odd : (all : List (List (List ℕ))) (vs ws : List Level) (v : Level) (k n b : ℕ) (ps qs : List (List ℕ)) → ws ≡ vs ++ v ∷ [] → v.items ≡ get_or ps (length ps - 1) [] ∷ [] → qs ≡ take (length ps - 1) ps → n ≡ suc k → b % 2 ≡ 1 → all ≡ nodes_of vs ++ base_levels n b ps → all ≡ nodes_of ws ++ base_levels k (b / 2) qs
make_level-odd all vs ws v k n b ps qs grown one rest more odd before =
    before ∙ rw (more, base_levels-odd k b ps odd, grown, map-append (λ (u : Level). u.items) vs (v ∷ []), one, rest, append_assoc)

pub make_level-none : (all : List (List (List ℕ))) (vs : List Level) (k b : ℕ) (ps : List (List ℕ)) → k ≡ 0 → all ≡ nodes_of vs ++ base_levels k b ps → nodes_of vs ≡ all
unfolding base_levels
make_level-none all vs zero b ps e before = sym (before ∙ append-nil (nodes_of vs))
make_level-none all vs (suc k) b ps e before = absurd (omega arith)
