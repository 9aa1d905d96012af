use Rattle.std.proofs.Common.{◌≡◌}
use Rattle.std.specs.FinMap.{empty}
use Rattle.gl_vmaps.specs.Chains.{chains_by}
use Rattle.gl_vmaps.proofs.CopyLaws.{chains_with}
use Rattle.gl_vmaps.proofs.table.copy_rows.Given as goal

abbrev pub invariant-loop-key : goal.invariant-loop-key
invariant-loop-key l = chains_with (chains_by l.copy.entries) l.key-iterator ≡ chains_with empty l.rows.entries
