use Rattle.std.proofs.Common.{refl, rules}
use Rattle.gl_turn.proofs.Turning.{one_own}
use Rattle.gl_turn.proofs.turn.Turn.state.Goals as goal

pub returns : goal.returns
returns g c = ((search rules, λ w. one_own c.args.self.now w _), record { writes_back = tt; value = refl })
