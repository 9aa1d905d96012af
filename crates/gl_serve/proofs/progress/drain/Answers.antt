use Rattle.std.proofs.Common.{[], ◌∷◌, ◌++◌, map, Err, refl, sym, ap, ◌∙◌}
use Rattle.std.proofs.lemmas.Result.{err_from_is_err_and}
use Rattle.gl_serve.specs.declared.session.SessionError.{SessionError}
use Rattle.gl_serve.specs.declared.session.SessionError.TheVariants.{NoMemory}
use Rattle.gl_serve.specs.Works.{Handle}
use Rattle.gl_serve.proofs.Losing.{loses_same, loses_then}
use Rattle.gl_serve.proofs.WorkingLaws.{ran_none, ran_then, ran_is, went_end, went_none}
use Rattle.gl_serve.proofs.KeptStreams.{next_some, next_none}
use Rattle.gl_serve.proofs.Draining.{taken_some, taken_none, drained, drained_all, fewer, handle_next, handle_all, handle_rest}
use Rattle.gl_serve.proofs.progress.drain.Goals as goal

pub loop-payload-init : goal.loop-payload-init
loop-payload-init g c = record {
  done = [];
  payloads = refl;
  ran = ran_none _ _ _ _ [];
  rest = refl;
  others = λ other apart. refl;
  going = c.requires.going;
  inward = refl;
  lost = loses_same _ _;
}

pub returns-in_err-payload-clause-went : goal.returns-in_err-payload-clause-went
returns-in_err-payload-clause-went g c =
    let i = c.loop-payload.invariant in
    let p = err_from_is_err_and c.from_residual.result c.from_residual.ensures.1 in
    went_none _ _ _ _ _ _ _ _ NoMemory c.from_residual.result (handle_rest c.args.conn _ _ _ i.payloads) (p.1 ∙ ap (λ (e : SessionError). Err e) p.2) refl i.going i.ran

pub returns-in_err-handle-clause-went : goal.returns-in_err-handle-clause-went
returns-in_err-handle-clause-went g c =
    let i = c.loop-payload.invariant in
    let p = err_from_is_err_and c.from_residual-in_err-handle.result c.from_residual-in_err-handle.ensures.1 in
    let is = taken_some _ _ _ _ c.deref.result.now c.in_ok-payload.ensures.taken c.in-Some.is c.deref.ensures.value in
    went_end _ _ _ _ _ _ _ _ _ _ _ c.from_residual-in_err-handle.result
    (handle_all c.args.conn _ _ _ _ (drained _ _ _ _ _ i.payloads is)) (p.1 ∙ ap (λ (e : SessionError). Err e) p.2) i.ran c.in_err-handle.ensures.went

pub loop-payload-smaller : goal.loop-payload-smaller
loop-payload-smaller g c = fewer _ _ _ (taken_some _ _ _ _ c.deref.result.now c.in_ok-payload.ensures.taken c.in-Some.is c.deref.ensures.value)

pub loop-payload-preserved : goal.loop-payload-preserved
loop-payload-preserved g c =
    let i = c.loop-payload.invariant in
    let is = taken_some _ _ _ _ c.deref.result.now c.in_ok-payload.ensures.taken c.in-Some.is c.deref.ensures.value in
    record {
      done = i.done ++ c.deref.result.now ∷ [];
      payloads = drained _ _ _ _ _ i.payloads is;
      ran = ran_is _ _ _ _ _ _ _ _ _ _ (handle_next c.args.conn _ _) (ran_then _ _ _ _ _ _ _ _ [] [] _ _ i.ran c.in_ok-handle.ensures.went.0);
      rest = i.rest ∙ (next_some _ _ _ is).1;
      others = λ other apart. c.in_ok-payload.ensures.others other apart ∙ i.others other apart;
      going = c.in_ok-handle.ensures.going;
      inward = c.in_ok-handle.ensures.inward ∙ i.inward;
      lost = loses_then _ _ _ _ _ _ i.lost c.in_ok-handle.ensures.lost;
    }

pub returns-clause-went : goal.returns-clause-went
returns-clause-went g c =
    let i = c.loop-payload.invariant in
    let is = taken_none _ _ _ c.in_ok-payload.ensures.taken c.in_default.is in
    (ran_is _ _ _ _ _ _ _ _ _ _ (ap (map (Handle c.args.conn)) (drained_all _ _ _ _ i.payloads is)) i.ran, i.going)

pub returns-clause-kept : goal.returns-clause-kept
returns-clause-kept g c =
    let i = c.loop-payload.invariant in
    let is = taken_none _ _ _ c.in_ok-payload.ensures.taken c.in_default.is in
    sym (next_none _ _ is).1 ∙ sym i.rest
