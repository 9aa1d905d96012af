use Rattle.std.proofs.Common.{◌≡◌}
use Rattle.std.specs.Option.{option_copied, option_map}
use Rattle.gl_lines.specs.Parts.{bytes_of}
use Rattle.gl_lines.specs.Operations.{operations_of}
use Rattle.gl_lines.proofs.OperationLemmas.{with_operations, operations_after, left_count}
use Rattle.gl_lines.proofs.operations.operations_of.Given as goal

-- the operations so far and those of the words that are left are those of all words
abbrev pub invariant-loop-left : goal.invariant-loop-left
invariant-loop-left l = with_operations l.operations.items (operations_after (option_map bytes_of (option_copied l.left))) ≡ operations_of (bytes_of l.words)

abbrev pub decreases-loop-left : goal.decreases-loop-left
decreases-loop-left l = left_count (option_copied l.left)
