use Rattle.std.proofs.Common.{◌≡◌, rules}
use Rattle.gl_messages.specs.Answer.{answer_bytes}
use Rattle.gl_messages.proofs.AnswerLaws.{answer_bytes-fit}
use Rattle.gl_messages.proofs.answer.Answer.encode.Goals as goal

pub returns-clause-fits : goal.returns-clause-fits
returns-clause-fits c =
    let bytes : c.put_answer_body.new.out.items ≡ answer_bytes c.args.self.now = search rules in
    rw bytes (answer_bytes-fit c.args.self.now c.requires)
