use Rattle.std.proofs.Common.{◌≡◌, take}
use Rattle.gl_shares.specs.Dealing.{each_byte}
use Rattle.gl_shares.specs.Joining.{members_of, weighted_sum}
use Rattle.gl_shares.proofs.joining.join.Given as goal

abbrev pub invariant-loop-share : goal.invariant-loop-share
invariant-loop-share l = l.secret ≡ each_byte (weighted_sum (members_of l.shares) (take l.share-index l.shares))
