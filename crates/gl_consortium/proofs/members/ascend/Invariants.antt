use Rattle.std.proofs.Common.{◌≡◌, drop}
use Rattle.gl_consortium.specs.Members.{ascend_above}
use Rattle.gl_consortium.proofs.members.ascend.Given as goal

-- the numbers that are left decide
abbrev pub invariant-loop-number : goal.invariant-loop-number
invariant-loop-number l = ascend_above 0 l.numbers ≡ ascend_above l.last (drop l.number-index l.numbers)
