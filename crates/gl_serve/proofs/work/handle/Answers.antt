use Rattle.std.proofs.Common.{Some, Err, [], ◌∷◌, refl, ap, ◌∙◌}
use Rattle.std.proofs.lemmas.Result.{err_from_is_err_and}
use Rattle.gl_serve.specs.declared.session.SessionError.{SessionError}
use Rattle.gl_serve.specs.declared.session.SessionError.TheVariants.{NoMemory}
use Rattle.gl_serve.specs.Works.{Handle}
use Rattle.gl_serve.specs.Doing.{lines_of}
use Rattle.gl_serve.proofs.WorkingLaws.{went_one, went_none, ran_none, ran_idle, event_of, handled_none, handled_one}
use Rattle.gl_serve.proofs.work.handle.Goals as goal

pub returns-in_default-clause-went : goal.returns-in_default-clause-went
returns-in_default-clause-went g c =
    (ran_idle _ _ _ _ _ _ c.requires.going (handled_none g.N.ServedNode.rules c.args.settings.now (record { node = c.args.node.now; session_state = c.args.session.now.session_state }) c.args.conn c.args.payload.now c.in_ok-read.field-0 c.in_ok-read.ensures c.in_default.is), c.requires.going)

pub returns-clause-went : goal.returns-clause-went
returns-clause-went g c =
    went_one _ _ _ _ _ _ (lines_of c.args.settings.now.peers.now (Some c.args.conn) c.handle-outcome.result) c.finish.result c.requires.going
    (handled_one g.N.ServedNode.rules c.args.settings.now (record { node = c.args.node.now; session_state = c.args.session.now.session_state }) c.args.conn c.args.payload.now c.in_ok-read.field-0 c.in-Some.read c.saturating_add-session.result _ _ c.in_ok-read.ensures c.in-Some.is c.saturating_add-session.ensures
    (event_of _ _ _ _ c.finish.new.session.session_state c.handle-outcome.result c.handle-outcome.new.self c.handle-outcome.ensures.handled c.finish.ensures.session_state))
    c.finish.ensures.sent c.finish.ensures.some c.finish.ensures.going c.finish.ensures.end

pub returns-in_err-read-clause-went : goal.returns-in_err-read-clause-went
returns-in_err-read-clause-went g c =
    let p = err_from_is_err_and c.from_residual.result c.from_residual.ensures.1 in
    went_none _ g.N.ServedNode.rules c.args.settings.now _ _ [] (Handle c.args.conn c.args.payload.now ∷ []) _ NoMemory c.from_residual.result refl (p.1 ∙ ap (λ (e : SessionError). Err e) p.2) refl c.requires.going (ran_none _ _ _ _ [])
