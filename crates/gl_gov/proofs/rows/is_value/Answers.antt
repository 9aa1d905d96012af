use Rattle.std.proofs.Common.{◌∙◌, arith}
use Rattle.gl_vmaps.proofs.Bytes.{is_value-bytes}
use Rattle.gl_gov.proofs.rows.is_value.Goals as goal

pub returns-clause-always : goal.returns-clause-always
returns-clause-always c = c.is_valid.ensures ∙ is_value-bytes c.args.bytes.now (λ i. omega (arith, c.type_inv.bytes i)) c.requires
