use Rattle.std.proofs.Common.{arith, length, sym, ap, ◌∙◌}
use Rattle.std.specs.List.{list_all}
use Rattle.std.proofs.lemmas.Bool.{and_parts}
use Rattle.gl_tx.specs.Request.{is_count, is_answer}
use Rattle.gl_tx.specs.Parsing.{reply_at}
use Rattle.gl_tx.proofs.Formats.{reply_at-encoded}
use Rattle.gl_tx.proofs.decoding.read_whole_reply.Goals as goal

pub of-requires : goal.of-requires
of-requires c =
    let read = reply_at-encoded (record { at = 0; bytes = c.args.bytes.now }) c.read_reply.new.cut c.in_ok-answers.answers.items (λ i. omega (arith, c.type_inv.bytes i))
    (ap reply_at (sym c.new-cut.ensures) ∙ c.in_ok-answers.ensures) in
    (and_parts (is_count (length c.in_ok-answers.answers.items)) (list_all is_answer c.in_ok-answers.answers.items) read.limits).0
