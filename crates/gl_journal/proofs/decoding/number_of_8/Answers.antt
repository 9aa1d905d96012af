use Rattle.std.proofs.Common.{◌∙◌, arith, length, ap, ◌≡◌}
use Rattle.std.proofs.lemmas.List.{take_all}
use Rattle.gl_base.proofs.LittleEndianBytes.{from_bytes_8}
use Rattle.gl_journal.proofs.RecordLaws.{whole_of}
use Rattle.gl_journal.proofs.decoding.number_of_8.Goals as goal

pub returns-in-Some : goal.returns-in-Some
returns-in-Some c =
    let is = c.in-Some.ensures.cases.0 in
    let long : length c.in-Some.bytes.now ≡ 8 = omega (arith, ap length is, ap length (take_all 8 c.args.body.now (omega arith))) in
    whole_of 8 c.from_le_bytes.result c.args.body.now c.in-Some.bytes.now (omega arith) is (c.from_le_bytes.ensures ∙ from_bytes_8 c.in-Some.bytes.now long)
