use Rattle.std.proofs.Common.{◌≡◌, map, take}
use Rattle.gl_shares.specs.Dealing.{share_of, polynomials_of}
use Rattle.gl_shares.proofs.dealing.deal.Given as goal

abbrev pub invariant-loop-member : goal.invariant-loop-member
invariant-loop-member l =
    l.shares.items ≡ map (share_of (polynomials_of l.secret l.threshold l.fn.seed)) (take l.member-index l.members)
