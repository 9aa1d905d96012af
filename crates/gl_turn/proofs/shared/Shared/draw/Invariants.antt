use Rattle.std.proofs.Common.{◌≡◌}
use Rattle.gl_turn.specs.View.{IsSamePass}
use Rattle.gl_turn.proofs.shared.Shared.draw.Given as goal

abbrev pub invariant-loop : goal.invariant-loop
invariant-loop g l = IsSamePass l.initial.pass l.pass × (l.pass.me ≡ l.initial.pass.me)
