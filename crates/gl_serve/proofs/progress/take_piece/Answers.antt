use Rattle.std.proofs.Common.{[], Err, refl, ap, ◌∙◌}
use Rattle.std.proofs.lemmas.Result.{err_from_is_err_and}
use Rattle.gl_serve.specs.declared.session.SessionError.{SessionError}
use Rattle.gl_serve.specs.declared.session.SessionError.TheVariants.{NoMemory}
use Rattle.gl_serve.proofs.WorkingLaws.{ran_none, went_none}
use Rattle.gl_serve.proofs.progress.take_piece.Goals as goal

pub returns-in_err-feed-clause-went : goal.returns-in_err-feed-clause-went
returns-in_err-feed-clause-went g c =
    let p = err_from_is_err_and c.from_residual.result c.from_residual.ensures.1 in
    went_none _ _ _ _ _ [] _ _ NoMemory c.from_residual.result refl (p.1 ∙ ap (λ (e : SessionError). Err e) p.2) refl c.requires.going (ran_none _ _ _ _ [])
