use Rattle.std.proofs.Common.{◌≡◌, drop}
use Rattle.serde_json.specs.View.{items_view, members_view}
use Rattle.gl_lines.specs.References.{items_name_unknown, members_name_unknown}
use Rattle.gl_lines.proofs.references.+names_unknown.Given as goal

-- what is left decides
abbrev pub invariant-items_name_unknown-loop-value : goal.invariant-items_name_unknown-loop-value
invariant-items_name_unknown-loop-value l = items_name_unknown l.ids (items_view l.values) ≡ items_name_unknown l.ids (items_view (drop l.value-index l.values))

abbrev pub invariant-members_name_unknown-loop-value : goal.invariant-members_name_unknown-loop-value
invariant-members_name_unknown-loop-value l = members_name_unknown l.ids (members_view l.members.entries) ≡ members_name_unknown l.ids (members_view l.value-iterator)
