use Rattle.std.proofs.lemmas.Result.{on_ok_weaker}
use Rattle.gl_load.proofs.node.take_request.Goals as goal

pub returns : goal.returns
returns g c = on_ok_weaker c.sign_if_due.result (λ at. record { after = at; words_are = c.in_ok-submit.ensures.words }) c.sign_if_due.ensures
