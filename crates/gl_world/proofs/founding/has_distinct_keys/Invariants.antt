use Rattle.std.proofs.Common.{◌≡◌, ◌-◌, suc}
use Rattle.gl_gov_rules.specs.Refusals.{are_keys_distinct}
use Rattle.gl_world.specs.Founding.{members_from, has_distinct_keys}
use Rattle.gl_world.proofs.founding.has_distinct_keys.Given as goal

-- the keys are distinct where those left are
abbrev pub invariant-loop-i : goal.invariant-loop-i
invariant-loop-i l = are_keys_distinct (members_from l.settings (suc l.i) (l.settings.members - l.i)) ≡ has_distinct_keys l.settings
