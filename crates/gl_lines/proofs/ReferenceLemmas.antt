-- Identifiers in place of the texts that name nodes.
use Rattle.std.proofs.Common.{◌≡◌, ℕ, ◌≤◌, List, [], ◌∷◌, length, take, take_all, map, refl, ◌∙◌, ap, Ordering, Less, Equal, Greater, nat_cmp}
use Rattle.std.specs.Cmp.Lexicographic.{slice_cmp}
use Rattle.std.specs.Ordering.{match_ordering}
use Rattle.serde_json.specs.Data.{Data, Members, no_members, member, put}
use Rattle.serde_json.specs.View.{view, items_view, items_of}
use Rattle.serde_json.specs.declared.value.Value.{Value}
use Rattle.gl_lines.specs.References.{with_ids, items_with_ids, members_with_ids}

-- value by value
items_with_ids-map : (ids : List (List ℕ)) (values : List Value) → items_of (map (λ (v : Value). with_ids ids (view v)) values) ≡ items_with_ids ids (items_view values)
items_with_ids-map ids [] = refl
items_with_ids-map ids (v ∷ values) = rw (items_with_ids-map ids values)

-- all values
pub items_read : (ids : List (List ℕ)) (new values : List Value) (i : ℕ) → length values ≤ i → map view new ≡ map (λ (v : Value). with_ids ids (view v)) (take i values) →
    items_view new ≡ items_with_ids ids (items_view values)
items_read ids new values i past so_far =
    ap items_of so_far
    ∙ ap (λ (vs : List Value). items_of (map (λ (v : Value). with_ids ids (view v)) vs)) (take_all i values past)
    ∙ items_with_ids-map ids values

chosen : (ids : List (List ℕ)) (o : Ordering) (a b c : Members) → match_ordering o (members_with_ids ids a) (members_with_ids ids b) (members_with_ids ids c) ≡ members_with_ids ids (match_ordering o a b c)
chosen ids Less a b c = refl
chosen ids Equal a b c = refl
chosen ids Greater a b c = refl

-- a member stands in its place among the others
pub members_with_ids-put : (ids : List (List ℕ)) (name : List ℕ) (value : Data) (members : Members) →
    put name (with_ids ids value) (members_with_ids ids members) ≡ members_with_ids ids (put name value members)
members_with_ids-put ids name value no_members = refl
members_with_ids-put ids name value (member other d members) =
    rw (members_with_ids-put ids name value members) (
    chosen ids (slice_cmp nat_cmp name other) (member name value (member other d members)) (member other value members) (member other d (put name value members))
    )
