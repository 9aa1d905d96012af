use Rattle.std.proofs.Common.{arith}
use Rattle.gl_vmaps.proofs.Bytes.{is_key-bytes}
use Rattle.gl_gov.proofs.rows.row.Goals as goal

pub from_slice-requires-2 : goal.from_slice-requires-2
from_slice-requires-2 c = is_key-bytes c.args.key.now (λ i. omega (arith, c.type_inv.key i)) c.requires.some_key c.requires.few_key
