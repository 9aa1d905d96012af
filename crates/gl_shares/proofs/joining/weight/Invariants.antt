use Rattle.std.proofs.Common.{◌≡◌, ◌<◌, ◌^◌, take}
use Rattle.gl_shares.specs.Joining.{weight, members_of}
use Rattle.gl_shares.proofs.joining.weight.Given as goal

abbrev pub invariant-loop-other : goal.invariant-loop-other
invariant-loop-other l = (l.weight < 2 ^ 8) × (l.weight ≡ weight l.member (members_of (take l.other-index l.shares)))
