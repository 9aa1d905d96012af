use Rattle.std.proofs.Common.{arith, ◌∙◌, ◌≤◌, ap, length}
use Rattle.std.proofs.lemmas.Fmt.{length-decimal-le}
use Rattle.gl_base.proofs.Pieces.{same_further}
use Rattle.gl_base.proofs.tx_id.TxId.text_into.Goals as goal

-- The view has ten digits at most, and the place thirteen.
pub put-requires : goal.put-requires
put-requires c =
    omega (
      arith,
      ap length c.format.ensures.text,
      ap length c.format-2.ensures.text,
      length-decimal-le 10 c.args.self.view (omega arith) (omega arith) (omega arith),
      length-decimal-le 13 c.args.self.seqno (omega arith) (omega arith) (omega arith),
    )

pub returns-clause-rest : goal.returns-clause-rest
returns-clause-rest c =
    let one : c.put-len-2.result ≤ c.put.result = omega arith in
    let two : c.put-len.result ≤ c.put.result = omega arith in
    c.put.ensures.rest
    ∙ same_further _ _ _ _ one c.put-len-2.ensures.rest
    ∙ same_further _ _ _ _ two c.put-len.ensures.rest
