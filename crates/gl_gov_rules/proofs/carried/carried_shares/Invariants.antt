use Rattle.std.proofs.Common.{◌≡◌, ◌++◌, drop, map}
use Rattle.gl_shares.specs.declared.share.Share.{Share}
use Rattle.gl_gov_rules.proofs.carried.carried_shares.Given as goal

abbrev pub invariant-loop-row : goal.invariant-loop-row
invariant-loop-row l =
    l.shares.items ++ map (λ (s : Share). record { seqno = l.seqno; share = s }) (drop l.row-index l.rows)
    ≡ map (λ (s : Share). record { seqno = l.seqno; share = s }) l.rows
