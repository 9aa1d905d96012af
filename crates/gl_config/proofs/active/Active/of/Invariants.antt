use Rattle.std.proofs.Common.{◌≡◌, length}
use Rattle.gl_config.specs.Active.{active_of}
use Rattle.gl_config.proofs.Skips.{IsAscending}
use Rattle.gl_config.proofs.active.Active.of.Given as goal

abbrev pub invariant-loop-rest : goal.invariant-loop-rest
invariant-loop-rest l = IsAscending l.rest × (active_of l.rest l.commit ≡ active_of l.configurations l.commit)

abbrev pub decreases-loop-rest : goal.decreases-loop-rest
decreases-loop-rest l = length l.rest
