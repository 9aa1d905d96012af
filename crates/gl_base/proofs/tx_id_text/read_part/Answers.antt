use Rattle.std.proofs.Common.{sym}
use Rattle.gl_base.proofs.Numerals.{all_digits}
use Rattle.gl_base.proofs.tx_id_text.read_part.Goals as goal

pub read_digits-requires-clause-digits : goal.read_digits-requires-clause-digits
read_digits-requires-clause-digits c = all_digits _ (sym c.in-None.ensures)
