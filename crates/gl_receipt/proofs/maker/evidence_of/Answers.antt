use Rattle.std.proofs.Common.{arith, sym, subst}
use Rattle.std.specs.Str.{IsUtf8}
use Rattle.gl_receipt.proofs.MakeLemmas.{evidence_utf8}
use Rattle.gl_receipt.proofs.maker.evidence_of.Goals as goal

pub unwrap-requires : goal.unwrap-requires
unwrap-requires c = c.from_utf8.ensures.succeeds (subst IsUtf8 (sym c.in_ok-bytes.ensures) (evidence_utf8 c.args.identity.now c.args.id (omega arith) (omega arith)))
