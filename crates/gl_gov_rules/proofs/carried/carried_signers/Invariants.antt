use Rattle.std.proofs.Common.{◌≡◌, ◌++◌, drop, map}
use Rattle.gl_gov_rules.specs.GovernedRows.{signer_carried}
use Rattle.gl_gov_rules.proofs.carried.carried_signers.Given as goal

abbrev pub invariant-loop-row : goal.invariant-loop-row
invariant-loop-row l =
    l.signed.items ++ map signer_carried (drop l.row-index l.rows)
    ≡ map signer_carried l.rows
