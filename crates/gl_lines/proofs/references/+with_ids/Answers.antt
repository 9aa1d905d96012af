use Rattle.std.proofs.Common.{◌≡◌, [], ◌∷◌, ◌++◌, string_bytes, sym, ap, ◌∙◌, subst, append_assoc}
use Rattle.std.specs.List.Sorted.{IsStrictlySortedBy}
use Rattle.std.specs.Map.{keys_of}
use Rattle.std.specs.String.{string_cmp}
use Rattle.serde_json.specs.View.{view, members_view}
use Rattle.serde_json.proofs.Views.{Entry, members_view-insert_entry, put_last}
use Rattle.gl_lines.specs.References.{members_with_ids}
use Rattle.gl_lines.proofs.ReferenceLemmas.{items_read, members_with_ids-put}
use Rattle.gl_lines.proofs.references.+with_ids.Goals as goal

pub items_with_ids-returns : goal.items_with_ids-returns
items_with_ids-returns t c =
    items_read c.args.ids.now c.loop-value.new.items c.args.values.now c.loop-value.value-index c.loop-value-test.false c.loop-value.invariant

pub members_with_ids-loop-name-preserved : goal.members_with_ids-loop-name-preserved
members_with_ids-loop-name-preserved t c =
    let l = c.loop-name in
    let ids = c.args.ids.now in
    let done = l.invariant.0 in
    let e : Entry = (c.in-Some.name.now, c.in-Some.value.now) in
    let left = c.next.new.self in
    let all : c.args.members.now.entries ≡ done ++ e ∷ left = l.invariant.1 ∙ ap (λ es. done ++ es) c.in-Some.ensures.steps in
    let last = put_last done e left (subst (λ es. IsStrictlySortedBy string_cmp (keys_of es)) all c.iter-name-items.ensures.ordered) in
    let named : string_bytes c.in_ok-name.name ≡ string_bytes e.0 = c.in_ok-name.ensures.cases in (
      done ++ e ∷ [],
      all ∙ sym (append_assoc done (e ∷ []) left),
      ap members_view c.in_ok-insert.ensures.entries ∙ members_view-insert_entry l.new.entries c.in_ok-name.name c.in_ok-with_ids.field-0
          ∙ rw (named, c.in_ok-with_ids.ensures, l.invariant.2) (
          members_with_ids-put ids (string_bytes e.0) (view e.1) (members_view done) ∙ ap (members_with_ids ids) last
          ),
    )
