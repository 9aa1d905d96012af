use Rattle.std.proofs.Common.{◌≡◌, ◌-◌}
use Rattle.gl_tx.specs.Parsing.{answers_at}
use Rattle.gl_base.proofs.Repeated.{with_prefix}
use Rattle.gl_tx.proofs.decoding.read_answers.Given as goal

abbrev pub invariant-loop : goal.invariant-loop
invariant-loop l = with_prefix l.answers.items (answers_at (l.count - l.counter) l.cut) ≡ answers_at l.count l.fn.cut
