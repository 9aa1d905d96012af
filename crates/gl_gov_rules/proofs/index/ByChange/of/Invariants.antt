use Rattle.std.proofs.Common.{take}
use Rattle.gl_gov_rules.specs.Index.{IsOfChanges}
use Rattle.gl_gov_rules.proofs.index.ByChange.of.Given as goal

abbrev pub invariant-loop-changed : goal.invariant-loop-changed
invariant-loop-changed l = IsOfChanges (take l.changed-index l.changes) l.reported
