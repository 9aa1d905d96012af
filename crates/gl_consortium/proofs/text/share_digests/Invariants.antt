use Rattle.std.proofs.Common.{◌≡◌, ◌++◌, drop, map}
use Rattle.gl_consortium.specs.Dealt.{digest_of}
use Rattle.gl_consortium.proofs.text.share_digests.Given as goal

-- those made and those left are all
abbrev pub invariant-loop-share : goal.invariant-loop-share
invariant-loop-share l = l.digests.items ++ map digest_of (drop l.share-index l.shares) ≡ map digest_of l.shares
