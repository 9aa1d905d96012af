use Rattle.std.proofs.Common.{◌≡◌, List, ◌++◌, take, map}
use Rattle.serde_json.specs.View.{view, members_view}
use Rattle.serde_json.specs.declared.value.Value.{Value}
use Rattle.serde_json.proofs.Views.{Entry}
use Rattle.gl_lines.specs.References.{with_ids, members_with_ids}
use Rattle.gl_lines.proofs.references.+with_ids.Given as goal

abbrev pub invariant-items_with_ids-loop-value : goal.invariant-items_with_ids-loop-value
invariant-items_with_ids-loop-value l = map view l.new.items ≡ map (λ (v : Value). with_ids l.ids (view v)) (take l.value-index l.values)

abbrev pub invariant-members_with_ids-loop-name : goal.invariant-members_with_ids-loop-name
invariant-members_with_ids-loop-name l =
    (done : List Entry) × (l.members.entries ≡ done ++ l.name-iterator) × (members_view l.new.entries ≡ members_with_ids l.ids (members_view done))
