use Rattle.std.proofs.Common.{Option, None, ap, sym, ◌∙◌}
use Rattle.gl_vmaps.specs.LastWrite.{value_after}
use Rattle.gl_vmaps.specs.declared.write.Write.{Write}
use Rattle.gl_gov.proofs.Putting.{row_in-last_write}
use Rattle.gl_gov.proofs.between.row_in.Goals as goal

pub returns-in-None : goal.returns-in-None
returns-in-None c = ap (λ (o : Option Write). value_after o None) c.in-None.ensures ∙ sym (row_in-last_write c.args.rows.now c.args.map.now c.args.key.now)

pub returns-in-Some : goal.returns-in-Some
returns-in-Some c = c.value_of.ensures ∙ ap (λ (o : Option Write). value_after o None) c.in-Some.ensures ∙ sym (row_in-last_write c.args.rows.now c.args.map.now c.args.key.now)
