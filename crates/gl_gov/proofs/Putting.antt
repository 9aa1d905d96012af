-- Write sets put part by part, and the value of a row among rows.
use Rattle.std.proofs.Common.{◌≡◌, ℕ, List, None, ◌∙◌, ap}
use Rattle.std.proofs.lemmas.Grind.{common_steps}
use Rattle.gl_vmaps.specs.Tables.{no_tables}
use Rattle.gl_vmaps.specs.LastWrite.{last_write, value_after}
use Rattle.gl_vmaps.specs.Changes.{row_in}
use Rattle.gl_vmaps.specs.declared.write.Write.{Write}
use Rattle.gl_vmaps.proofs.TablesLaws.{value_in-wrote_all, value_in-nothing}
use Rattle.gl_vmaps.proofs.WriteSets.{set_from-append}

-- two parts put one after the other are both of them put
pub ruleset puts = (common_steps, set_from-append)

-- the value of a row is that of the last write to it
pub row_in-last_write : (ws : List Write) (name key : List ℕ) → row_in ws name key ≡ value_after (last_write name key ws) None
row_in-last_write ws name key = value_in-wrote_all no_tables ws name key ∙ ap (value_after (last_write name key ws)) (value_in-nothing name key)
