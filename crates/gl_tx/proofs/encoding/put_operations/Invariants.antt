use Rattle.std.proofs.Common.{◌≡◌, ◌++◌, take}
use Rattle.std.specs.List.{flat_map}
use Rattle.gl_tx.specs.Request.{operation_bytes}
use Rattle.gl_tx.proofs.encoding.put_operations.Given as goal

abbrev pub invariant-loop-operation : goal.invariant-loop-operation
invariant-loop-operation l = l.out.items ≡ l.fn.out.items ++ flat_map operation_bytes (take l.operation-index l.operations)
