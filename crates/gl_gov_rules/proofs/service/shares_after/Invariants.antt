use Rattle.std.proofs.Common.{◌≡◌, ◌++◌, drop}
use Rattle.std.specs.List.{filter_map}
use Rattle.gl_gov_rules.specs.Service.{given_after}
use Rattle.gl_gov_rules.proofs.service.shares_after.Given as goal

abbrev pub invariant-loop-given : goal.invariant-loop-given
invariant-loop-given l =
    l.shares.items ++ filter_map (given_after l.seqno) (drop l.given-index l.given)
    ≡ filter_map (given_after l.seqno) l.given
