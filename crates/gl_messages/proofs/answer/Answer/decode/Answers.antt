use Rattle.std.proofs.Common.{◌≡◌, true, ap, ◌∙◌, subst, arith}
use Rattle.gl_base.specs.Answers.{Answers}
use Rattle.gl_messages.specs.Answer.{answer_bytes, is_answer, answer_at, answer_of}
use Rattle.gl_messages.proofs.Tagged.{whole_takes, whole_finds, found}
use Rattle.gl_messages.proofs.AnswerLaws.{answer_takes, answer_finds}
use Rattle.gl_messages.proofs.answer.Answer.decode.Goals as goal

pub returns-clause-found : goal.returns-clause-found
returns-clause-found c =
    found c.read_whole.result (answer_of c.args.bytes.now) (λ answer. (is_answer answer ≡ true) × (c.args.bytes.now ≡ answer_bytes answer)) c.read_whole.ensures
    (λ answer e. whole_takes answer_bytes is_answer answer_at answer_takes c.args.bytes.now answer (λ i. omega (arith, c.type_inv.bytes i)) e)

pub returns-clause-only : goal.returns-clause-only
returns-clause-only c = λ answer is encoded.
    subst (λ reading. Answers (λ x. x) c.read_whole.result reading) (ap answer_of encoded ∙ whole_finds answer_bytes is_answer answer_at answer_finds answer is) c.read_whole.ensures
