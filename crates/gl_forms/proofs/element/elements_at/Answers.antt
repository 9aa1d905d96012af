use Rattle.std.proofs.Common.{◌≡◌, ℕ, suc, ◌+◌, List, [], ◌∷◌, ◌++◌, drop, vec_len, sym, ap, subst, ◌∙◌, arith}
use Rattle.std.proofs.lemmas.List.{drop_all}
use Rattle.std.proofs.lemmas.Result.{err_from_is_err_and}
use Rattle.serde_json.specs.View.{view, items_view}
use Rattle.gl_base.specs.Answers.{Fails}
use Rattle.gl_base.specs.Json.{item_of}
use Rattle.gl_forms.specs.Form.{elements_from}
use Rattle.gl_forms.specs.Place.{pointer_of}
use Rattle.gl_forms.proofs.ElementLemmas.{after, values_at, elements_more, elements_stop, elements_end}
use Rattle.gl_forms.proofs.element.elements_at.Goals as goal

pub returns-in_err-element : goal.returns-in_err-element
returns-in_err-element g c =
    let form = g.T.Element.form in
    let place = pointer_of c.args.place.now in
    let p = err_from_is_err_and c.from_residual.result c.from_residual.ensures.1 in
    let values = values_at c.args.values.now c.loop-value.value-index c.value-item.result c.loop-value-test.true c.value-item.is in
    let whole = rw values at c.loop-value.invariant.reads in
    let fails = subst (λ (n : ℕ). Fails c.in_err-element.field-0.0 (form (item_of place n) (view c.value-item.result))) c.len.ensures c.in_err-element.ensures in
    rw (p.1, p.2) (elements_stop form place _ c.loop-value.elements.items (vec_len c.loop-value.elements) _ _ _ fails whole)

pub loop-value-preserved : goal.loop-value-preserved
loop-value-preserved g c =
    let form = g.T.Element.form in
    let place = pointer_of c.args.place.now in
    let values = values_at c.args.values.now c.loop-value.value-index c.value-item.result c.loop-value-test.true c.value-item.is in
    let whole = rw values at c.loop-value.invariant.reads in
    let rest = items_view (drop (c.loop-value.value-index + 1) c.args.values.now) in
    let read = ap (λ (n : ℕ). form (item_of place n) (view c.value-item.result)) (sym c.len.ensures) ∙ c.in_ok-element.ensures in
    let more = whole ∙ elements_more form place c.loop-value.elements.items (vec_len c.loop-value.elements) c.in_ok-element.element (view c.value-item.result) rest read in
    let len : suc (vec_len c.loop-value.elements) ≡ vec_len c.push.new.self = omega (arith, c.in_ok-push.ensures.len) in
    record {
      count = omega (arith, c.in_ok-push.ensures.len, c.loop-value.invariant.count);
      reads = more ∙ ap (λ (n : ℕ). after (c.loop-value.elements.items ++ c.in_ok-element.element ∷ []) (elements_from form place n rest)) len
          ∙ ap (λ (elements : List g.row.T.Denot). after elements (elements_from form place (vec_len c.push.new.self) rest)) (sym c.in_ok-push.ensures.items);
    }

pub returns : goal.returns
returns g c =
    let none = ap items_view (drop_all c.loop-value.value-index c.args.values.now c.loop-value-test.false) in
    elements_end g.T.Element.form (pointer_of c.args.place.now) c.loop-value.elements.items (vec_len c.loop-value.elements) _ (rw none at c.loop-value.invariant.reads)
