use Rattle.std.proofs.Common.{arith}
use Rattle.gl_shares.proofs.Steps.{each_byte-from}
use Rattle.gl_shares.proofs.joining.add_weighted.Goals as goal

pub returns : goal.returns
returns c = each_byte-from _ c.loop-byte.sum c.loop-byte.invariant.0 (λ k h. c.loop-byte.invariant.1 k (omega arith))
