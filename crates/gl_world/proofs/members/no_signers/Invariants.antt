use Rattle.std.proofs.Common.{◌≡◌, replicate, None}
use Rattle.gl_world.proofs.members.no_signers.Given as goal

abbrev pub invariant-loop : goal.invariant-loop
invariant-loop l = l.signers.items ≡ replicate l.counter None
