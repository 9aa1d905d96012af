-- Nodes in any order are numbered in the order of their rows.
use Rattle.std.proofs.Common.{◌≡◌, ℕ, zero, suc, ◌+◌, List, [], ◌∷◌, length, Some, Bool, true, false, not, ◌&&◌, cond, find, nat_eq, slice_get, refl, sym, ◌∙◌, ap, arith}
use Rattle.std.specs.List.{list_any, AllByRecursion}
use Rattle.std.proofs.lemmas.Bool.{and_parts, or_parts, eqb-true}
use Rattle.std.proofs.lemmas.Bool.Decides.{nat_tests}
use Rattle.std.proofs.lemmas.Option.{same_Some}
use Rattle.gl_vmaps.proofs.TablesLaws.{same_bytes-itself}
use Rattle.gl_gov_rules.specs.declared.change.RecordedNode.{RecordedNode}
use Rattle.gl_gov_rules.specs.declared.row.NodeRow.{NodeRow}
use Rattle.gl_gov_rules.specs.History.{History}
use Rattle.gl_gov_rules.specs.Nodes.{nodes}
use Rattle.gl_gov_rules.specs.Rows.{node_row, node_rows_from, node_rows}
use Rattle.gl_gov_rules.specs.GovernedRows.{with_next, numbered_from}
use Rattle.gl_gov_rules.proofs.Finding.{found_at, find_any, any_false}
use Rattle.gl_gov_base.specs.SameBy.{SameBy}
use Rattle.gl_gov_base.proofs.SameLists.{same_any, same_length}
use Rattle.gl_gov_base.proofs.KnownFacts.{clash}
use Rattle.gl_gov_base.proofs.KindsKept.{of_id}
use Rattle.gl_gov_base.proofs.SettledHistory.{each_in}

-- the row at a place has its number
order_at : (h : History) (k : ℕ) (ms : List RecordedNode) (i : ℕ) (r : NodeRow) → slice_get (node_rows_from h k ms) i ≡ Some r → r.order ≡ k + i
unfolding node_row
order_at h k [] i r at = absurd cc
order_at h k (m ∷ ms) zero r at = (let same : node_row h k m ≡ r = same_Some (node_row h k m) r at in ap (λ (x : NodeRow). x.order) (sym same)) ∙ omega arith
order_at h k (m ∷ ms) (suc i) r at = order_at h (suc k) ms i r at ∙ omega arith

-- the first that passes is the first that passes another test too, where each that passes does
find_as : (p q : NodeRow → Bool) (xs : List NodeRow) → list_any (λ (x : NodeRow). p x && not (q x)) xs ≡ false → find p xs ≡ find (λ x. q x && p x) xs
find_as p q [] none = refl
find_as p q (x ∷ xs) none =
    let parts = or_parts (p x && not (q x)) (list_any (λ (x : NodeRow). p x && not (q x)) xs) none in
    by (p x) (q x) parts.0 (find_as p q xs parts.1)
  where
    by : (a b : Bool) → (a && not b) ≡ false → find p xs ≡ find (λ x. q x && p x) xs → cond a (Some x) (find p xs) ≡ cond (b && a) (Some x) (find (λ x. q x && p x) xs)
    by true true e rest = refl
    by true false e rest = absurd cc
    by false true e rest = rest
    by false false e rest = rest

module _ (h : History) (ns : List NodeRow) (same : SameBy of_id ns (node_rows h)) where
  abbrev has_order : ℕ → NodeRow → Bool
  has_order k x = nat_eq x.order k

  -- a row with the number of another is that one
  same_order : (i j : ℕ) (x r : NodeRow) → slice_get (node_rows h) i ≡ Some x → slice_get (node_rows h) j ≡ Some r → has_order r.order x ≡ true → x ≡ r
  unfolding node_rows
  same_order i j x r here there is =
      let one = order_at h 1 (nodes h) i x here in
      let two = order_at h 1 (nodes h) j r there in
      let equal : x.order ≡ r.order = eqb-true x.order r.order is in
      let place : i ≡ j = omega (arith, one, two, equal) in
      same_Some x r (sym here ∙ ap (slice_get (node_rows_from h 1 (nodes h))) place ∙ there)

  found : (j : ℕ) (r : NodeRow) → slice_get (node_rows h) j ≡ Some r → find (has_order r.order) ns ≡ Some r
  found j r at =
      let both : NodeRow → Bool = λ (x : NodeRow). of_id r.id x && has_order r.order x in
      let own : both r ≡ true = (let order : nat_eq r.order r.order ≡ true = grind (arith, nat_tests) in rw (same_bytes-itself r.id, order) refl) in
      let others : list_any (λ (x : NodeRow). has_order r.order x && not (of_id r.id x)) (node_rows h) ≡ false =
      any_false (λ (x : NodeRow). has_order r.order x && not (of_id r.id x)) (node_rows h)
      (λ i x here is.
      let parts = and_parts (has_order r.order x) (not (of_id r.id x)) is in
      let one : x ≡ r = same_order i j x r here at parts.0 in
      clash (not (of_id r.id x)) (ap (λ (y : NodeRow). not (of_id r.id y)) one ∙ ap not (same_bytes-itself r.id)) parts.1) in
      let some = find_any both (node_rows h) j r at own in
      let place = found_at both (node_rows h) some.0 some.1 in
      let is_r : some.0 ≡ r = same_order place.place j some.0 r place.stands at (and_parts (of_id r.id some.0) (has_order r.order some.0) place.passes).1 in
      find_as (has_order r.order) (of_id r.id) ns (same_any of_id ns (node_rows h) same (λ (x : NodeRow). has_order r.order x && not (of_id r.id x)) ∙ others)
      ∙ same.first_with r.id (has_order r.order) ∙ some.1 ∙ ap (λ (x : NodeRow). Some x) is_r

  numbered_rows : (k : ℕ) (ms : List RecordedNode) → AllByRecursion (λ (r : NodeRow). find (has_order r.order) ns ≡ Some r) (node_rows_from h k ms) → numbered_from (length (node_rows_from h k ms)) k ns ≡ Some (node_rows_from h k ms)
  unfolding node_row
  numbered_rows k [] all = refl
  numbered_rows k (m ∷ ms) all = λ i. with_next (all.0 i) (numbered_rows (suc k) ms all.1 i)

  -- the nodes by their numbers are the rows
  pub numbered_same : numbered_from (length ns) 1 ns ≡ Some (node_rows h)
  unfolding node_rows
  numbered_same =
      ap (λ n. numbered_from n 1 ns) (same_length of_id ns (node_rows h) same)
      ∙ numbered_rows 1 (nodes h) (each_in (λ (r : NodeRow). find (has_order r.order) ns ≡ Some r) (node_rows_from h 1 (nodes h)) found)
