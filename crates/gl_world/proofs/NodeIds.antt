-- The identifiers of nodes by their numbers: no two nodes have one.
use Rattle.std.proofs.Common.{◌≡◌, ⊎_elim, ℕ, zero, suc, ◌+◌, ◌-◌, ◌<◌, ◌≤◌, [], length, map, true, not, nat_le, Some, slice_get, sym, ◌∙◌, ap, subst, arith}
use Rattle.std.specs.List.{list_any}
use Rattle.std.proofs.lemmas.Bool.{and_parts, both_ways, cases_lt}
use Rattle.std.proofs.lemmas.Bool.Decides.{nat_tests}
use Rattle.std.proofs.lemmas.Option.{get_or_from_slice_get, slice_get_within}
use Rattle.std.specs.Cmp.Lexicographic.{bytes_decides}
use Rattle.gl_base.specs.Bytes.{same_bytes}
use Rattle.gl_rules.specs.Identity.{NodeId, same}
use Rattle.gl_rules.proofs.Ids.{same_is, same_self}
use Rattle.gl_gov_rules.specs.Refusals.{are_ids_distinct, is_node_with}
use Rattle.gl_world.specs.declared.settings.Settings.{Settings}
use Rattle.gl_world.specs.Founding.{numbers_from, id_of, node_ids, node_of, number_of}
use Rattle.gl_world.specs.Group.{IsGroup}
use Rattle.gl_world.specs.Held.{is_number}
use Rattle.gl_world.specs.Rules.{node_in}
use Rattle.gl_world.proofs.Endorsements.{numbered}
use Rattle.gl_world.proofs.Numbers.{among, length-made, not_true}

-- what stands at an index of what is made of numbers
module _ {A : Type 0} (f : ℕ → A) where
  pub made_at : (first count i : ℕ) → i < count → slice_get (map f (numbers_from first count)) i ≡ Some (f (first + i))
  made_at first zero i low = absurd (omega arith)
  made_at first (suc count) zero low = ap (λ (k : ℕ). Some (f k)) (omega arith)
  made_at first (suc count) (suc i) low = made_at (suc first) count i (omega arith) ∙ ap (λ (k : ℕ). Some (f k)) (omega arith)

  pub made_is : (first count i : ℕ) (y : A) → slice_get (map f (numbers_from first count)) i ≡ Some y → (i < count) × (y ≡ f (first + i))
  made_is first count i y at =
      let low : i < count = omega (arith, slice_get_within (map f (numbers_from first count)) i y at, length-made f first count) in
      let is : Some y ≡ Some (f (first + i)) = sym at ∙ made_at first count i low in
      (low, cc)

-- ---- no two are one

apart_from : (s : Settings) (first count i j : ℕ) → are_ids_distinct (map (node_of s) (numbers_from first count)) ≡ true → i < j → j < count → same (id_of s (first + i)) (id_of s (first + j)) ≡ true → ⊥
apart_from s first zero i j apart low high is = omega arith
apart_from s first (suc count) zero j apart low high is =
    let ids = map (node_of s) (numbers_from (suc first) count) in
    let again = list_any (is_node_with (id_of s first)) ids in
    let both = and_parts (not again) (are_ids_distinct ids) apart in
    let one : id_of s (first + j) ≡ id_of s first = sym (same_is (id_of s (first + 0)) (id_of s (first + j)) is) ∙ ap (id_of s) (omega arith) in
    both_ways again (not_true again both.0)
    (among (is_node_with (id_of s first)) (node_of s) (first + j) (suc first) count (omega arith) (omega arith) (is_one (id_of s (first + j)) (id_of s first) one))
  where
    is_one : (x y : NodeId) → x ≡ y → same_bytes x y ≡ true
    is_one x y is = (bytes_decides x y).1 is
apart_from s first (suc count) (suc i) (suc j) apart low high is =
    let ids = map (node_of s) (numbers_from (suc first) count) in
    let both = and_parts (not (list_any (is_node_with (id_of s first)) ids)) (are_ids_distinct ids) apart in
    apart_from s (suc first) count i j both.1 (omega arith) (omega arith)
    (subst (λ (k : ℕ). same (id_of s k) (id_of s (suc first + j)) ≡ true) (omega arith) (subst (λ (k : ℕ). same (id_of s (first + suc i)) (id_of s k) ≡ true) (omega arith) is))
apart_from s first (suc count) (suc i) zero apart low high is = omega arith

below : (s : Settings) → IsGroup s → (i j : ℕ) → i < j → j < s.starting + s.joiners → same (id_of s (suc i)) (id_of s (suc j)) ≡ true → ⊥
below s h i j low high is =
    apart_from s 1 (s.starting + s.joiners) i j h.apart low high
    (subst (λ (k : ℕ). same (id_of s k) (id_of s (1 + j)) ≡ true) (omega arith) (subst (λ (k : ℕ). same (id_of s (suc i)) (id_of s k) ≡ true) (omega arith) is))

-- nodes of a group that have one identifier are one
pub numbers_apart : (s : Settings) → IsGroup s → (i j : ℕ) → i < s.starting + s.joiners → j < s.starting + s.joiners → same (id_of s (suc i)) (id_of s (suc j)) ≡ true → i ≡ j
numbers_apart s h i j low high is = ⊎_elim
    (λ (l : i < j). absurd (below s h i j l high is))
    (λ (g : j ≤ i). ⊎_elim
    (λ (l : j < i). absurd (below s h j i l low (back (id_of s (suc i)) (id_of s (suc j)) is)))
    (λ (e : i ≤ j). omega arith)
    (cases_lt j i))
    (cases_lt i j)
  where
    back : (x y : NodeId) → same x y ≡ true → same y x ≡ true
    back x y e = subst (λ (z : NodeId). same z x ≡ true) (same_is x y e) (same_self x)

-- ---- their numbers and indexes

-- the first node with a node's identifier is that node
pub number_is : (s : Settings) → IsGroup s → (number : ℕ) → 1 ≤ number → number ≤ s.starting + s.joiners → number_of s (id_of s number) ≡ number
number_is s h number low high =
    let r = numbered s number low high in
    let first = number_of s (id_of s number) in
    let at : id_of s (suc (first - 1)) ≡ id_of s (suc (number - 1)) =
    ap (id_of s) (let n : suc (first - 1) ≡ first = omega (arith, r.low) in n) ∙ r.named ∙ ap (id_of s) (let n : number ≡ suc (number - 1) = omega (arith, low) in n) in
    let one : first - 1 ≡ number - 1 = numbers_apart s h (first - 1) (number - 1) (omega (arith, r.low, r.high)) (omega (arith, low, high))
    (subst (λ (x : NodeId). same (id_of s (suc (first - 1))) x ≡ true) at (same_self (id_of s (suc (first - 1))))) in
    omega (arith, one, r.low, low)

pub count_is : (s : Settings) → length (node_ids s) ≡ s.starting + s.joiners
count_is s = length-made (id_of s) 1 (s.starting + s.joiners)

pub id_at : (s : Settings) (i : ℕ) (x : NodeId) → slice_get (node_ids s) i ≡ Some x → (i < s.starting + s.joiners) × (x ≡ id_of s (suc i))
id_at s i x at =
    let m = made_is (id_of s) 1 (s.starting + s.joiners) i x at in
    (m.0, m.1 ∙ ap (id_of s) (omega arith))

-- a number of a node
pub number_parts : (count number : ℕ) → is_number count number ≡ true → (1 ≤ number) × (number ≤ count)
number_parts count number is =
    let both = and_parts (nat_le 1 number) (nat_le number count) is in
    (grind (arith, nat_tests, both.0), grind (arith, nat_tests, both.1))

pub node_is : (s : Settings) (number : ℕ) → is_number (length (node_ids s)) number ≡ true → node_in (node_ids s) number ≡ id_of s number
node_is s number is =
    let p = number_parts (length (node_ids s)) number is in
    let low : number - 1 < s.starting + s.joiners = omega (arith, p.0, p.1, count_is s) in
    get_or_from_slice_get (node_ids s) (number - 1) (id_of s (1 + (number - 1))) [] (made_at (id_of s) 1 (s.starting + s.joiners) (number - 1) low)
    ∙ ap (id_of s) (omega (arith, p.0))
