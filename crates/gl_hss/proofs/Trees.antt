-- The nodes of a tree: each leaf is its key's, and each inner node is made from the two below it.
use Rattle.std.proofs.Common.{◌≡◌, ℕ, zero, suc, ◌+◌, ◌-◌, ◌*◌, ◌^◌, ◌<◌, ◌≤◌, true, false, List, [], length, get_or, set, refl, sym, ap, ap₂, subst, ◌∙◌, arith, inl, inr}
use Rattle.std.proofs.Math.Nat.{le_trans, mul-le-mul_right, pow-succ', mul_assoc, mul_comm}
use Rattle.std.specs.Prelude.{nat_le}
use Rattle.std.proofs.lemmas.Bool.{cases_eq, cases_lt}
use Rattle.std.proofs.lemmas.Bool.Decides.{nat_tests}
use Rattle.std.proofs.lemmas.List.{get_or-set_same, get_or-set_other}
use Rattle.gl_hss.specs.declared.types.Types.{Types}
use Rattle.gl_hss.specs.declared.types.Types.TheVariants.{H5W4, H5W8, H10W4, H10W8}
use Rattle.gl_hss.specs.Types.{height}
use Rattle.gl_hss.specs.Tree.{leaf_node, inner_node}
use Rattle.gl_hss.specs.Secrets.{PrivateKey, key_of_leaf, node_above, node}

-- ---- a node's equations

leaf_within : (k : PrivateKey) (n r : ℕ) → 2 ^ height k.types ≤ r → node_above k n r ≡ leaf_node k.identifier r (key_of_leaf k (r - 2 ^ height k.types))
unfolding node_above
leaf_within k zero r h = refl
leaf_within k (suc n) r h =
    let t : nat_le (2 ^ height k.types) r ≡ true = grind (arith, nat_tests) in
    rw t refl

inner_within : (k : PrivateKey) (n r : ℕ) → r < 2 ^ height k.types → node_above k (suc n) r ≡ inner_node k.identifier r (node_above k n (2 * r)) (node_above k n (2 * r + 1))
unfolding node_above
inner_within k n r h =
    let t : nat_le (2 ^ height k.types) r ≡ false = grind (arith, nat_tests) in
    rw t refl

pow_suc : (n : ℕ) → 2 ^ suc n ≡ 2 * 2 ^ n
pow_suc n = pow-succ' 2 n

doubled : (r n : ℕ) → r * 2 ^ suc n ≡ 2 * r * 2 ^ n
doubled r n = ap (λ (m : ℕ). r * m) (pow_suc n) ∙ sym (mul_assoc r 2 (2 ^ n)) ∙ ap (λ (m : ℕ). m * 2 ^ n) (mul_comm r 2)

wide_enough : (r n : ℕ) {h : ℕ} → 1 ≤ r → h ≡ 2 * 2 ^ n → h ≤ 2 * r * 2 ^ n
wide_enough r n {h} some e = subst (λ (m : ℕ). m ≤ 2 * r * 2 ^ n) (sym e) (mul-le-mul_right (2 ^ n) (omega arith))

-- more levels than there are change nothing
stable : (k : PrivateKey) (n r : ℕ) → 2 ^ height k.types ≤ r * 2 ^ n → node_above k (suc n) r ≡ node_above k n r
stable k zero r h =
    let leaf : 2 ^ height k.types ≤ r = omega arith in
    leaf_within k 1 r leaf ∙ sym (leaf_within k 0 r leaf)
stable k (suc n) r h =
    elim (cases_lt r (2 ^ height k.types)) [
      | inr leaf ↦ leaf_within k (suc (suc n)) r leaf ∙ sym (leaf_within k (suc n) r leaf)
      | inl inner ↦
          let left : 2 ^ height k.types ≤ 2 * r * 2 ^ n = subst (λ (m : ℕ). 2 ^ height k.types ≤ m) (doubled r n) h in
          let right : 2 ^ height k.types ≤ (2 * r + 1) * 2 ^ n = le_trans left (mul-le-mul_right (2 ^ n) (omega arith)) in
          inner_within k (suc n) r inner ∙ ap₂ (inner_node k.identifier r) (stable k n (2 * r) left) (stable k n (2 * r + 1) right) ∙ sym (inner_within k n r inner)
    ]

height_more : (t : Types) → (n : ℕ) × (height t ≡ suc n)
height_more H5W4 = (4, refl)
height_more H5W8 = (4, refl)
height_more H10W4 = (9, refl)
height_more H10W8 = (9, refl)

pub node-leaf : (k : PrivateKey) (r : ℕ) → 2 ^ height k.types ≤ r → node k r ≡ leaf_node k.identifier r (key_of_leaf k (r - 2 ^ height k.types))
node-leaf k r h = leaf_within k (height k.types) r h

pub node-inner : (k : PrivateKey) (r : ℕ) → 1 ≤ r → r < 2 ^ height k.types → node k r ≡ inner_node k.identifier r (node k (2 * r)) (node k (2 * r + 1))
node-inner k r some h =
    let below = height_more k.types in
    let n = below.0 in
    let wide : 2 ^ height k.types ≡ 2 * 2 ^ n = ap (λ (m : ℕ). 2 ^ m) below.1 ∙ pow_suc n in
    let left : 2 ^ height k.types ≤ 2 * r * 2 ^ n = wide_enough r n some wide in
    let right : 2 ^ height k.types ≤ (2 * r + 1) * 2 ^ n = le_trans left (mul-le-mul_right (2 ^ n) (omega arith)) in
    let whole = λ (q : ℕ). ap (λ (m : ℕ). node_above k m q) below.1 in
    whole r ∙ inner_within k n r h
    ∙ ap₂ (inner_node k.identifier r) (sym (whole (2 * r) ∙ stable k n (2 * r) left)) (sym (whole (2 * r + 1) ∙ stable k n (2 * r + 1) right))

-- ---- nodes written into a list

-- upwards from lo
pub filled_more : (F : ℕ → List ℕ) (xs : List (List ℕ)) (lo i : ℕ) (v : List ℕ) → i < length xs → v ≡ F i → ((r : ℕ) → lo ≤ r → r < i → get_or xs r [] ≡ F r) → (r : ℕ) → lo ≤ r → r < i + 1 → get_or (set xs i v) r [] ≡ F r
filled_more F xs lo i v room e before r above below =
    elim (cases_eq r i) [
      | inl here ↦ rw here (get_or-set_same xs i v [] room ∙ e)
      | inr other ↦ get_or-set_other xs i r v [] other ∙ before r above (omega arith)
    ]

-- downwards to i
pub filled_less : (F : ℕ → List ℕ) (xs : List (List ℕ)) (i hi : ℕ) (v : List ℕ) → i < length xs → v ≡ F i → ((r : ℕ) → i + 1 ≤ r → r < hi → get_or xs r [] ≡ F r) → (r : ℕ) → i ≤ r → r < hi → get_or (set xs i v) r [] ≡ F r
filled_less F xs i hi v room e before r above below =
    elim (cases_eq r i) [
      | inl here ↦ rw here (get_or-set_same xs i v [] room ∙ e)
      | inr other ↦ get_or-set_other xs i r v [] other ∙ before r (omega arith) below
    ]
