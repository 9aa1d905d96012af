use Rattle.std.proofs.Common.{◌≡◌, ◌++◌, drop}
use Rattle.gl_schedule.specs.Text.{answers_after}
use Rattle.gl_schedule.proofs.text.put_answers_after.Given as goal

-- what is written and what is left to write make the whole
abbrev pub invariant-loop-answer : goal.invariant-loop-answer
invariant-loop-answer l = l.out.items ++ answers_after (drop l.answer-index l.answers) ≡ l.fn.out.items ++ answers_after l.answers
