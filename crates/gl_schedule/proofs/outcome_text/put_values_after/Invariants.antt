use Rattle.std.proofs.Common.{◌≡◌, ◌++◌, drop}
use Rattle.gl_world.specs.declared.settings.Settings.{Settings}
use Rattle.gl_world.specs.Founding.{node_ids}
use Rattle.gl_schedule.specs.Text.{values_after}
use Rattle.gl_schedule.proofs.outcome_text.put_values_after.Given as goal

-- what is written and what is left to write make the whole
abbrev pub invariant-loop-value : goal.invariant-loop-value
invariant-loop-value l =
    (s : Settings) → l.ids ≡ node_ids s → l.out.items ++ values_after s (drop l.value-index l.values) ≡ l.fn.out.items ++ values_after s l.values
