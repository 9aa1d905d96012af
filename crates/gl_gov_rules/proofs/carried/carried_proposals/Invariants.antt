use Rattle.std.proofs.Common.{◌≡◌, ◌++◌, drop, map}
use Rattle.gl_gov_rules.specs.GovernedRows.{carried_proposal}
use Rattle.gl_gov_rules.proofs.carried.carried_proposals.Given as goal

abbrev pub invariant-loop-row : goal.invariant-loop-row
invariant-loop-row l =
    l.proposals.items ++ map carried_proposal (drop l.row-index l.rows)
    ≡ map carried_proposal l.rows
