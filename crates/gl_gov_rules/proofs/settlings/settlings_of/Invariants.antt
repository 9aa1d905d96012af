use Rattle.std.proofs.Common.{◌≡◌, ◌++◌, drop, map}
use Rattle.gl_gov_rules.specs.Proposals.{settling_in}
use Rattle.gl_gov_rules.proofs.settlings.settlings_of.Given as goal

abbrev pub invariant-loop-proposal : goal.invariant-loop-proposal
invariant-loop-proposal l =
    l.settlings.items ++ map (settling_in l.changes) (drop l.proposal-index l.proposals)
    ≡ map (settling_in l.changes) l.proposals
