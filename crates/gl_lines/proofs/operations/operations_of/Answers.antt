use Rattle.std.proofs.Common.{Some, ap, ◌∙◌}
use Rattle.std.specs.Option.{option_copied, option_map}
use Rattle.gl_lines.specs.Parts.{bytes_of}
use Rattle.gl_lines.specs.Operations.{operations_of}
use Rattle.gl_lines.proofs.OperationLemmas.{with_operations, with_no_operations, operations_after, step, stop_step, none_left}
use Rattle.gl_lines.proofs.operations.operations_of.Goals as goal

pub loop-left-init : goal.loop-left-init
unfolding operations_of
loop-left-init c =
    let words = bytes_of c.args.words.now in
    ap (λ prefix. with_operations prefix (operations_after (Some words))) c.in_ok-operations.ensures.items ∙ with_no_operations (operations_after (Some words))

pub returns-in-Err : goal.returns-in-Err
returns-in-Err c =
    let first = c.in-Some-first_group.first in
    stop_step c.in-Err.stop _ c.loop-left.operations.items (bytes_of c.in-Some.words.now) (bytes_of first.0.now) (option_map bytes_of (option_copied first.1))
    c.in-Some-first_group.ensures.group c.in-Err.ensures (rw c.in-Some.is at c.loop-left.invariant)

pub loop-left-preserved : goal.loop-left-preserved
loop-left-preserved c =
    let first = c.in-Some-first_group.first in
    step _ c.loop-left.operations.items _ (bytes_of c.in-Some.words.now) (bytes_of first.0.now) (option_map bytes_of (option_copied first.1)) c.in-Ok.operation
    c.in-Some-first_group.ensures.group c.in-Ok.ensures c.in_ok-push-in-Ok.ensures.items (rw c.in-Some.is at c.loop-left.invariant)

pub returns : goal.returns
returns c = none_left _ c.loop-left.operations.items (rw c.in_default.is at c.loop-left.invariant)
