use Rattle.std.proofs.Common.{◌≡◌, drop, vec_len}
use Rattle.serde_json.specs.View.{items_view}
use Rattle.gl_forms.specs.Form.{elements_from}
use Rattle.gl_forms.specs.Place.{pointer_of}
use Rattle.gl_forms.proofs.ElementLemmas.{after}
use Rattle.gl_forms.proofs.element.elements_at.Given as goal

-- so many values are read as there are elements, and the others after them
abbrev pub invariant-loop-value : goal.invariant-loop-value
invariant-loop-value g l = record {
  count : vec_len l.elements ≡ l.value-index;
  reads : elements_from g.T.Element.form (pointer_of l.fn.place) 0 (items_view l.values)
      ≡ after l.elements.items (elements_from g.T.Element.form (pointer_of l.fn.place) (vec_len l.elements) (items_view (drop l.value-index l.values)));
}
