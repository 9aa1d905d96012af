use Rattle.std.proofs.Common.{◌≡◌, ◌++◌, drop, map}
use Rattle.gl_gov_rules.specs.declared.row.RuleAt.{RuleAt}
use Rattle.gl_gov_rules.proofs.row_changes.constitution_set.Given as goal

abbrev pub invariant-loop-row : goal.invariant-loop-row
invariant-loop-row l =
    l.rules.items ++ map (λ (r : RuleAt). r.rule) (drop l.row-index l.rows)
    ≡ map (λ (r : RuleAt). r.rule) l.rows
