use Rattle.std.proofs.Common.{◌<◌, [], length, Err, refl, ap, ◌∙◌, arith}
use Rattle.std.proofs.lemmas.Result.{err_from_is_err_and}
use Rattle.gl_serve.specs.declared.session.SessionError.{SessionError}
use Rattle.gl_serve.proofs.Losing.{loses_same, loses_then}
use Rattle.gl_serve.proofs.WorkingLaws.{ran_none, ran_then, ran_is, went_end}
use Rattle.gl_serve.proofs.Draining.{lead_next, lead_all}
use Rattle.gl_serve.proofs.work.replicate.Goals as goal

pub loop-peer-init : goal.loop-peer-init
loop-peer-init g c = record { ran = ran_none _ _ _ _ []; going = c.requires.going; inward = refl; lost = loses_same _ _ }

pub returns-in_err-lead-clause-went : goal.returns-in_err-lead-clause-went
returns-in_err-lead-clause-went g c =
    let p = err_from_is_err_and c.from_residual.result c.from_residual.ensures.1 in
    let within : c.loop-peer.peer-index < length c.args.settings.now.peers.now = omega (arith, c.loop-peer-test.true, c.loop-peer.auto.peer-index-end) in
    went_end _ _ _ _ _ _ _ _ _ _ _ c.from_residual.result
    (lead_all c.args.settings.now.peers.now c.loop-peer.peer-index within) (p.1 ∙ ap (λ (e : SessionError). Err e) p.2) c.loop-peer.invariant.ran c.in_err-lead.ensures.went

pub loop-peer-preserved : goal.loop-peer-preserved
loop-peer-preserved g c =
    let within : c.loop-peer.peer-index < length c.args.settings.now.peers.now = omega (arith, c.loop-peer-test.true, c.loop-peer.auto.peer-index-end) in
    record {
      ran = ran_is _ _ _ _ _ _ _ _ _ _ (lead_next c.args.settings.now.peers.now c.loop-peer.peer-index within)
          (ran_then _ _ _ _ _ _ _ _ [] [] _ _ c.loop-peer.invariant.ran c.in_ok-lead.ensures.went.0);
      going = c.in_ok-lead.ensures.going;
      inward = c.in_ok-lead.ensures.inward ∙ c.loop-peer.invariant.inward;
      lost = loses_then _ _ _ _ _ _ c.loop-peer.invariant.lost c.in_ok-lead.ensures.lost;
    }
