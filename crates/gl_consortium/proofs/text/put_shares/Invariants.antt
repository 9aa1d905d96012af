use Rattle.std.proofs.Common.{◌≡◌, ◌++◌, drop, flat_map}
use Rattle.gl_consortium.specs.Dealt.{share_line}
use Rattle.gl_consortium.proofs.text.put_shares.Given as goal

-- the lines written and those left are all
abbrev pub invariant-loop-share : goal.invariant-loop-share
invariant-loop-share l =
    l.out.items ++ flat_map share_line (drop l.share-index l.shares) ≡ l.fn.out.items ++ flat_map share_line l.shares
