use Rattle.std.proofs.Common.{◌≡◌, take}
use Rattle.gl_tx.proofs.request.Reply.copy.Given as goal

abbrev pub invariant-loop-answer : goal.invariant-loop-answer
invariant-loop-answer l = l.answers.items ≡ take l.answer-index l.answer-items
