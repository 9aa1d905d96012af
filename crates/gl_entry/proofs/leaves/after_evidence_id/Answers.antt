use Rattle.std.specs.Prelude.{codes, ◌++◌}
use Rattle.gl_base.specs.TxId.{text_of}
use Rattle.gl_entry.proofs.Remainders.{some_then, none_then}
use Rattle.gl_entry.proofs.leaves.after_evidence_id.Goals as goal

pub returns-clause-none : goal.returns-clause-none
returns-clause-none c =
    let both = some_then (codes "ce:") (text_of c.args.id) c.in_ok-rest.rest.now c.in_ok-rest-2.rest.now c.args.text.now c.in_ok-rest.ensures.some c.in_ok-rest-2.ensures.some in
    none_then c.suffix-2.result (codes "ce:" ++ text_of c.args.id) (codes ":") c.in_ok-rest-2.rest.now c.args.text.now both c.suffix-2.ensures.none
