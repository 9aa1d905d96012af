use Rattle.std.proofs.lemmas.Result.{on_ok_weaker}
use Rattle.gl_answers.proofs.ValueSizes.{number_within}
use Rattle.gl_answers.proofs.encoding.put_number.Goals as goal

pub returns-clause-within : goal.returns-clause-within
returns-clause-within c = on_ok_weaker c.put_u64.result (λ put. rw put (number_within _ _)) c.put_u64.ensures.put
