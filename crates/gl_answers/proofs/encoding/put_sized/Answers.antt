use Rattle.std.proofs.lemmas.Result.{on_ok_weaker}
use Rattle.gl_answers.proofs.ValueSizes.{sized_within}
use Rattle.gl_answers.proofs.encoding.put_sized.Goals as goal

pub returns-clause-within : goal.returns-clause-within
returns-clause-within c = on_ok_weaker c.put_field.result (λ put. rw put (sized_within _ _ c.requires)) c.put_field.ensures.put
