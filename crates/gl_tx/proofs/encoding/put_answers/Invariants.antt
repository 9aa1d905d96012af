use Rattle.std.proofs.Common.{◌≡◌, ◌++◌, take}
use Rattle.std.specs.List.{flat_map}
use Rattle.gl_tx.specs.Request.{answer_bytes}
use Rattle.gl_tx.proofs.encoding.put_answers.Given as goal

abbrev pub invariant-loop-answer : goal.invariant-loop-answer
invariant-loop-answer l = l.out.items ≡ l.fn.out.items ++ flat_map answer_bytes (take l.answer-index l.answers)
