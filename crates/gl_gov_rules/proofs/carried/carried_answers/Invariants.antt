use Rattle.std.proofs.Common.{◌≡◌, ◌++◌, drop}
use Rattle.std.specs.List.{flat_map}
use Rattle.gl_gov_rules.specs.GovernedRows.{answers_carried}
use Rattle.gl_gov_rules.proofs.carried.carried_answers.Given as goal

abbrev pub invariant-loop-row : goal.invariant-loop-row
invariant-loop-row l =
    l.answers.items ++ flat_map answers_carried (drop l.row-index l.rows)
    ≡ flat_map answers_carried l.rows
