use Rattle.std.proofs.Common.{◌≡◌, map}
use Rattle.gl_gov_rules.specs.Changes.{changed_at}
use Rattle.gl_gov_rules.proofs.row_changes.changed_first.Given as goal

abbrev pub invariant-loop-change : goal.invariant-loop-change
invariant-loop-change l = l.changed.items ≡ map (changed_at 0) l.yielded
