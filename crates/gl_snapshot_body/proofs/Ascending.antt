-- Rows of which each stands after the one before it ascend.
use Rattle.std.proofs.Common.{◌≡◌, ℕ, Bool, true, false, List, [], ◌∷◌, Option, None, Some, Ok, refl, sym, subst}
use Rattle.std.proofs.lemmas.Bool.{and_parts, and_from}
use Rattle.gl_base.specs.Cut.{Unread}
use Rattle.gl_base.specs.Row.{map_name_at, key_at, value_at}
use Rattle.gl_base.specs.declared.fault.CodeFault.{CodeFault}
use Rattle.gl_base.proofs.Steps.{bind_ok, ok_injective}
use Rattle.gl_vmaps.specs.Name.{value_limit}
use Rattle.gl_vmaps.specs.Rows.{are_ascending, row_writes}
use Rattle.gl_vmaps.specs.Writes.{is_ordered, stands_before}
use Rattle.gl_vmaps.specs.declared.row.Row.{Row}
use Rattle.gl_snapshot_body.specs.Body.{follow, is_after}
use Rattle.gl_snapshot_body.specs.Parsing.{required, repeated_at, row_at}
use Rattle.gl_snapshot_body.proofs.Following.{repeated-follow}

-- A row stands after an earlier one, if there is one.
abbrev pub stands_after : Option Row → Row → Bool
stands_after last r = is_after last r.map r.key

pub ascending-from : (last : Option Row) (rows : List Row) → follow stands_after last rows ≡ true → are_ascending rows ≡ true
ascending-from last [] stands = refl
ascending-from last (r ∷ []) stands = refl
ascending-from last (r ∷ x ∷ xs) stands =
    let parts = and_parts (stands_after last r) (follow stands_after (Some r) (x ∷ xs)) stands in
    let next = and_parts (stands_after (Some r) x) (follow stands_after (Some x) xs) parts.1 in
    and_from (stands_before r.map r.key (row_writes (x ∷ xs))) (is_ordered (row_writes (x ∷ xs))) next.0 (ascending-from (Some r) (x ∷ xs) parts.1)

after_first : (r : Row) (rows : List Row) → are_ascending (r ∷ rows) ≡ true → follow stands_after (Some r) rows ≡ true
after_first r [] ascending = refl
after_first r (x ∷ xs) ascending =
    let parts = and_parts (stands_before r.map r.key (row_writes (x ∷ xs))) (is_ordered (row_writes (x ∷ xs))) ascending in
    and_from (stands_after (Some r) x) (follow stands_after (Some x) xs) parts.0 (after_first x xs parts.1)

pub from-ascending : (rows : List Row) → are_ascending rows ≡ true → follow stands_after None rows ≡ true
from-ascending [] ascending = refl
from-ascending (r ∷ rows) ascending = and_from (stands_after None r) (follow stands_after (Some r) rows) refl (after_first r rows ascending)

-- What is demanded of what was read holds.
pub required_ok : {X : Type 0} → (holds : Bool) (place : ℕ) (x y : X) → required holds place x ≡ Ok y → (holds ≡ true) × (x ≡ y)
required_ok true place x y e = (refl, ok_injective {E = CodeFault} x y e)
required_ok false place x y e = absurd cc

-- The parts of a row that was read.
pub record RowRead (last : Option Row) (old new : Unread) (r : Row) : Type 0 where
  pub after_map : Unread
  pub map : map_name_at old ≡ Ok (r.map, after_map)
  pub after_key : Unread
  pub key : key_at after_map ≡ Ok (r.key, after_key)
  pub stands : stands_after last r ≡ true
  pub value : value_at value_limit after_key ≡ Ok (r.value, new)

pub row_read : (last : Option Row) (old new : Unread) (r : Row) → row_at last old ≡ Ok (r, new) → RowRead last old new r
unfolding row_at
row_read last old new r e =
    let map = bind_ok {E = CodeFault} (map_name_at old) _ (r, new) e in
    let key = bind_ok {E = CodeFault} (key_at map.0.1) _ (r, new) map.2 in
    let row = bind_ok {E = CodeFault} (required (is_after last map.0.0 key.0.0) old.at key.0) _ (r, new) key.2 in
    let value = bind_ok {E = CodeFault} (value_at value_limit row.0.1) _ (r, new) row.2 in
    let holds = required_ok (is_after last map.0.0 key.0.0) old.at key.0 row.0 row.1 in
    let made : Row = record { map = map.0.0; key = key.0.0; value = value.0.0 } in
    let gave : Row × Unread = (made, value.0.1) in
    let same : gave ≡ (r, new) = ok_injective {E = CodeFault} gave (r, new) value.2 in
    let there : value_at value_limit key.0.1 ≡ Ok value.0 = subst (λ (k : List ℕ × Unread). value_at value_limit k.1 ≡ Ok value.0) (sym holds.1) value.1 in
    subst (λ (y : Row × Unread). RowRead last old y.1 y.0) {x = gave} same
    (record { after_map = map.0.1; map = map.1; after_key = key.0.1; key = key.1; stands = holds.0; value = there })

pub rows-ascend : (count : ℕ) (old new : Unread) (rows : List Row) → repeated_at row_at None count old ≡ Ok (rows, new) → are_ascending rows ≡ true
rows-ascend count old new rows e =
    ascending-from None rows (repeated-follow row_at stands_after (λ last before after r read. (row_read last before after r read).stands) count None old (rows, new) e)
