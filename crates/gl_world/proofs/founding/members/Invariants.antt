use Rattle.std.proofs.Common.{◌≡◌, ◌-◌, ◌++◌, suc, map}
use Rattle.gl_world.specs.Founding.{numbers_from, member_of, genesis_of}
use Rattle.gl_world.proofs.founding.members.Given as goal

-- those made and those left are all
abbrev pub invariant-loop-i : goal.invariant-loop-i
invariant-loop-i l = l.members.items ++ map (member_of l.settings) (numbers_from (suc l.i) (l.settings.members - l.i)) ≡ (genesis_of l.settings).members
