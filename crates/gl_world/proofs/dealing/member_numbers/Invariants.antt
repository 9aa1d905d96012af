use Rattle.std.proofs.Common.{◌≡◌, ◌-◌, ◌++◌, suc}
use Rattle.gl_world.specs.Founding.{numbers_from}
use Rattle.gl_world.proofs.dealing.member_numbers.Given as goal

-- those that came and those left are all
abbrev pub invariant-loop-i : goal.invariant-loop-i
invariant-loop-i l = l.numbers.items ++ numbers_from (suc l.i) (l.settings.members - l.i) ≡ numbers_from 1 l.settings.members
