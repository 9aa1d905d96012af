use Rattle.std.proofs.Common.{◌≡◌, ◌-◌, suc}
use Rattle.std.specs.List.{list_any}
use Rattle.gl_gov_rules.specs.Actions.{has_key}
use Rattle.gl_world.specs.Founding.{member_of, members_from}
use Rattle.gl_world.proofs.founding.is_key_repeated.Given as goal

-- what is found among all is what is found among those left
abbrev pub invariant-loop-i : goal.invariant-loop-i
invariant-loop-i l =
    list_any (has_key (member_of l.settings l.number).key) (members_from l.settings (suc l.i) (l.settings.members - l.i))
    ≡ list_any (has_key (member_of l.settings l.number).key) (members_from l.settings (suc l.number) (l.settings.members - l.number))
