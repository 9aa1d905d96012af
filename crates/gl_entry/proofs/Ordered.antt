-- The writes that are read are in order.
use Rattle.std.proofs.Common.{◌≡◌, ℕ, zero, suc, Bool, true, false, List, [], ◌∷◌, Option, None, Some, Result, Ok, Err, refl, sym, ap, subst, ◌∙◌}
use Rattle.std.proofs.lemmas.Bool.{and_from}
use Rattle.gl_base.specs.Cut.{Unread}
use Rattle.gl_base.specs.declared.fault.CodeFault.{CodeFault}
use Rattle.gl_base.proofs.Steps.{bind_ok, ok_injective}
use Rattle.gl_vmaps.specs.Name.{value_limit}
use Rattle.gl_vmaps.specs.Writes.{stands_before, is_ordered}
use Rattle.gl_base.specs.Row.{map_name_at, key_at, optional_value_at}
use Rattle.gl_vmaps.specs.declared.write.Write.{Write}
use Rattle.gl_entry.specs.declared.fault.EntryFault.{EntryFault}
use Rattle.gl_entry.specs.declared.fault.EntryFault.TheVariants.{Writes}
use Rattle.gl_entry.specs.Parsing.{part, required, is_after, removal_of, write_at, writes_from}

-- A part of an entry was read.
pub part_ok : {X : Type 0} → (r : Result X CodeFault) (x : X) → part r ≡ Ok x → r ≡ Ok x
part_ok (Ok y) x e = ap (λ z. Ok z) (ok_injective {E = EntryFault} y x e)
part_ok (Err fault) x e = absurd cc

-- What is demanded of what was read holds.
pub required_ok : {X : Type 0} → (holds : Bool) (fault : EntryFault) (x y : X) → required holds fault x ≡ Ok y → (holds ≡ true) × (x ≡ y)
required_ok true fault x y e = (refl, ok_injective {E = EntryFault} x y e)
required_ok false fault x y e = absurd cc

-- A row's order doesn't depend on the value.
pub is_after-row : (before : Option (List ℕ × List ℕ)) (w : Write) → is_after before (removal_of w.map w.key) ≡ is_after before w
is_after-row None w = refl
is_after-row (Some row) w = refl

pub write_at_after : (number : ℕ) (before : Option (List ℕ × List ℕ)) (unread : Unread) (read : Write × Unread) → write_at number before unread ≡ Ok read → is_after before read.0 ≡ true
unfolding write_at
write_at_after number before unread read e =
    let map = bind_ok {E = EntryFault} (part (map_name_at unread)) _ read e in
    let key = bind_ok {E = EntryFault} (part (key_at map.0.1)) _ read map.2 in
    let row = bind_ok {E = EntryFault} (required (is_after before (removal_of map.0.0 key.0.0)) (Writes number) key.0) _ read key.2 in
    let value = bind_ok {E = EntryFault} (part (optional_value_at value_limit row.0.1)) _ read row.2 in
    let holds = required_ok (is_after before (removal_of map.0.0 key.0.0)) (Writes number) key.0 row.0 row.1 in
    let w : Write = record { map = map.0.0; key = key.0.0; value = value.0.0 } in
    let gave : Write × Unread = (w, value.0.1) in
    let same : gave ≡ read = ok_injective {E = EntryFault} gave read value.2 in
    subst (λ (x : Write × Unread). is_after before x.0 ≡ true) same (sym (is_after-row before w) ∙ holds.0)

-- The first of the writes stands after the row, if there is one.
abbrev pub first_after : Option (List ℕ × List ℕ) → List Write → Bool
first_after before [] = true
first_after before (w ∷ ws) = is_after before w

pub stands_before-first : (map key : List ℕ) (ws : List Write) → first_after (Some (map, key)) ws ≡ stands_before map key ws
stands_before-first map key [] = refl
stands_before-first map key (w ∷ ws) = refl

writes_from_ordered : (number : ℕ) (before : Option (List ℕ × List ℕ)) (count : ℕ) (unread : Unread) (read : List Write × Unread) → writes_from number before count unread ≡ Ok read
    → (first_after before read.0 ≡ true) × (is_ordered read.0 ≡ true)
unfolding writes_from
writes_from_ordered number before zero unread read e =
    subst (λ (x : List Write × Unread). (first_after before x.0 ≡ true) × (is_ordered x.0 ≡ true)) (ok_injective {A = List Write × Unread} {E = EntryFault} ([], unread) read e) (refl, refl)
writes_from_ordered number before (suc count) unread read e =
    let first = bind_ok {E = EntryFault} (write_at number before unread) _ read e in
    let w = first.0.0 in
    let rest = bind_ok {E = EntryFault} (writes_from (suc number) (Some (w.map, w.key)) count first.0.1) _ read first.2 in
    let gave : List Write × Unread = (w ∷ rest.0.0, rest.0.1) in
    let same : gave ≡ read = ok_injective {E = EntryFault} gave read rest.2 in
    let others = writes_from_ordered (suc number) (Some (w.map, w.key)) count first.0.1 rest.0 rest.1 in
    let here = write_at_after number before unread first.0 first.1 in
    let next = sym (stands_before-first w.map w.key rest.0.0) ∙ others.0 in
    subst (λ (x : List Write × Unread). (first_after before x.0 ≡ true) × (is_ordered x.0 ≡ true)) same (here, and_from (stands_before w.map w.key rest.0.0) (is_ordered rest.0.0) next others.1)

pub writes_ordered : (count : ℕ) (unread new : Unread) (ws : List Write) → writes_from 1 None count unread ≡ Ok (ws, new) → is_ordered ws ≡ true
writes_ordered count unread new ws e = (writes_from_ordered 1 None count unread (ws, new) e).1
