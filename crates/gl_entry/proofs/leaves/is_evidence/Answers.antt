use Rattle.std.specs.Prelude.{codes, ◌++◌}
use Rattle.gl_base.specs.TxId.{text_of}
use Rattle.gl_entry.proofs.Remainders.{same_end}
use Rattle.gl_entry.proofs.leaves.is_evidence.Goals as goal

pub returns-in-Some : goal.returns-in-Some
returns-in-Some c =
    same_end (codes "ce:" ++ text_of c.args.id ++ codes ":") _ _ _ c.args.text.now _
    c.in-Some.ensures.some c.same_bytes.ensures.same c.evidence_digits.ensures
