use Rattle.std.proofs.Common.{◌∙◌, sym, ap, length, Option, Bor, List, ℕ}
use Rattle.std.specs.Option.{option_copied}
use Rattle.gl_base.specs.LittleEndian.{from_little_endian}
use Rattle.gl_base.proofs.LittleEndianBytes.{from_bytes_8}
use Rattle.gl_tx.specs.Performs.{number_in}
use Rattle.gl_tx.proofs.Values.{number_in-eight}
use Rattle.gl_tx.proofs.performed.number_in.Goals as goal

pub returns-in-Some-as_array : goal.returns-in-Some-as_array
returns-in-Some-as_array c =
    let whole = c.in-Some-as_array.ensures.cases in
    let number = c.from_le_bytes.ensures ∙ from_bytes_8 c.in-Some-as_array.bytes.now (ap length whole.same ∙ whole.long) ∙ ap from_little_endian whole.same in
    number_in-eight c.in-Some.value.now c.from_le_bytes.result whole.long number ∙ sym (ap (λ (o : Option (Bor (List ℕ))). number_in (option_copied o)) c.in-Some.is)
