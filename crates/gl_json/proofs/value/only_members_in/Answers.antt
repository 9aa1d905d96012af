use Rattle.std.proofs.Common.{true, false, refl, sym}
use Rattle.serde_json.specs.View.{view}
use Rattle.gl_json.proofs.ObjectLemmas.{only_members_in-parts}
use Rattle.gl_json.proofs.value.only_members_in.Goals as goal
use Rattle.gl_json.proofs.value.only_members_in.Goals.{else-has_count-via-then-has_count+else-has_each, else-has_count-via-else-has_count}

pub returns-then-has_each : goal.returns-then-has_each
returns-then-has_each c =
    sym (only_members_in-parts c.args.names.now (view c.args.value.now) true true c.if-has_count.ensures c.if-has_each.ensures)

pub returns-else-has_count : goal.returns-else-has_count
returns-else-has_count c = elim c.else-has_count.branch [
  | else-has_count-via-then-has_count+else-has_each w ↦ sym (only_members_in-parts c.args.names.now (view c.args.value.now) true false w.if-has_count.ensures w.if-has_each.ensures)
  | else-has_count-via-else-has_count w ↦ sym (only_members_in-parts c.args.names.now (view c.args.value.now) false _ w.if-has_count.ensures refl)
]
