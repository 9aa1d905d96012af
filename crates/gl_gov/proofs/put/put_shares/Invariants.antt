use Rattle.std.proofs.Common.{◌≡◌, drop, map}
use Rattle.gl_vmaps.specs.Changes.{set_from}
use Rattle.gl_gov_rules.specs.Rows.{share_write}
use Rattle.gl_gov.proofs.put.put_shares.Given as goal

-- what is put and what is left to put make the whole
abbrev pub invariant-loop-share : goal.invariant-loop-share
invariant-loop-share l = set_from l.writes (map share_write (drop l.share-index l.shares)) ≡ set_from l.fn.writes (map share_write l.shares)
