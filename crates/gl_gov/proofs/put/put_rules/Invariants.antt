use Rattle.std.proofs.Common.{◌≡◌, ◌+◌, drop}
use Rattle.gl_vmaps.specs.Changes.{set_from}
use Rattle.gl_gov_rules.specs.Rows.{rule_writes_from}
use Rattle.gl_gov.proofs.put.put_rules.Given as goal

-- what is put and what is left to put make the whole
abbrev pub invariant-loop-i : goal.invariant-loop-i
invariant-loop-i l = set_from l.writes (rule_writes_from (l.i + 1) (drop l.i l.rules)) ≡ set_from l.fn.writes (rule_writes_from 1 l.rules)
