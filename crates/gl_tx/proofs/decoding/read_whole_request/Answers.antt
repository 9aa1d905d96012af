use Rattle.std.proofs.Common.{arith, length, sym, ap, ◌∙◌}
use Rattle.std.specs.List.{list_all}
use Rattle.std.proofs.lemmas.Bool.{and_parts}
use Rattle.gl_tx.specs.Request.{is_count, is_operation}
use Rattle.gl_tx.specs.Parsing.{request_at}
use Rattle.gl_tx.proofs.Formats.{request_at-encoded}
use Rattle.gl_tx.proofs.decoding.read_whole_request.Goals as goal

pub of-requires : goal.of-requires
of-requires c =
    let read = request_at-encoded (record { at = 0; bytes = c.args.bytes.now }) c.read_request.new.cut c.in_ok-operations.operations.items (λ i. omega (arith, c.type_inv.bytes i))
    (ap request_at (sym c.new-cut.ensures) ∙ c.in_ok-operations.ensures) in
    (and_parts (is_count (length c.in_ok-operations.operations.items)) (list_all is_operation c.in_ok-operations.operations.items) read.limits).0
