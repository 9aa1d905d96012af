use Rattle.std.proofs.Common.{◌≡◌, ◌+◌, ◌∙◌, ◌||◌, [], ◌++◌, Ok, Err, Bool, false, refl, sym, ap, arith}
use Rattle.std.proofs.lemmas.Result.{err_from_is_err_and}
use Rattle.gl_serve.specs.declared.session.Progress.{Progress}
use Rattle.gl_serve.specs.declared.settings.ServeEnd.{ServeEnd}
use Rattle.gl_serve.specs.Progress.{is_ended}
use Rattle.gl_serve.proofs.Losing.{loses_same, loses_then}
use Rattle.gl_serve.proofs.KeptStreams.{kept_nil}
use Rattle.gl_serve.proofs.WorkingLaws.{ran_none}
use Rattle.gl_serve.proofs.Arriving.{went_on, taken_on, serves_err, calls_on, or_no}
use Rattle.gl_serve.proofs.service.serve.Goals as goal

pub loop-init : goal.loop-init
loop-init g c = record {
  served = record { came = []; ran = ran_none _ _ _ _ []; tracks = λ conn. c.new-streams.ensures conn ∙ sym kept_nil; taken = λ h. refl };
  going = refl;
  calls = refl;
  faults = refl;
  ended = refl;
  lost = loses_same _ _;
}

pub loop-preserved : goal.loop-preserved
loop-preserved g c =
    let i = c.loop.invariant in
    let not_ended : is_ended (Ok c.in_ok-turn.field-0) ≡ false = ap (λ (t : Progress). is_ended (Ok t)) c.in-Took.is in
    record {
      served =
          let s = i.served in
          let t = c.in_ok-turn.ensures.turned s.came s.tracks in
          record { came = s.came ++ t.came; ran = (went_on _ _ _ _ _ _ s.came _ _ _ (Ok c.in_ok-turn.field-0) s.ran t).0; tracks = t.tracks; taken = λ h. taken_on s.came t.came _ _ _ (s.taken h) (t.taken h) };
      going = c.in_ok-turn.ensures.going;
      calls = calls_on c.loop.counter _ _ _ i.calls c.in_ok-turn.ensures.calls;
      faults = c.in_ok-turn.ensures.quiet (λ failed. let took = c.in-Took.is in cc) ∙ i.faults;
      ended = c.in_ok-turn.ensures.ended ∙ ap (λ (b : Bool). (g.L.Link.inward c.loop.link).ended || b) not_ended ∙ or_no _ ∙ i.ended;
      lost = loses_then _ _ _ _ _ _ i.lost c.in_ok-turn.ensures.lost;
    }

pub returns-in_err-turn-clause-serves : goal.returns-in_err-turn-clause-serves
returns-in_err-turn-clause-serves g c =
    let s = c.loop.invariant.served in
    let t = c.in_err-turn.ensures.turned s.came s.tracks in
    let p = err_from_is_err_and c.from_residual.result c.from_residual.ensures.1 in
    serves_err _ _ _ _ _ _ _ _ _ (s.came ++ t.came) c.turn.new.session.session_state c.turn.new.session.lost c.in_err-turn.field-0.0 c.from_residual.result (p.1 ∙ ap (λ (e : ServeEnd). Err e) p.2)
    (went_on _ _ _ _ _ _ s.came _ _ _ (Err c.in_err-turn.field-0.0) s.ran t) (λ h. taken_on s.came t.came _ _ _ (s.taken h) (t.taken h))

pub returns-in-Ended-clause-serves : goal.returns-in-Ended-clause-serves
returns-in-Ended-clause-serves g c =
    let s = c.loop.invariant.served in
    let t = c.in_ok-turn.ensures.turned s.came s.tracks in
    record {
      came = s.came ++ t.came;
      session_state = c.turn.new.session.session_state;
      lost = c.turn.new.session.lost;
      went = went_on _ _ _ _ _ _ s.came _ _ _ (Ok c.in_ok-turn.field-0) s.ran t;
      taken = λ h. taken_on s.came t.came _ _ _ (s.taken h) (t.taken h);
      counts = (refl, refl);
    }

pub returns-in-Failed-clause-serves : goal.returns-in-Failed-clause-serves
returns-in-Failed-clause-serves g c =
    let s = c.loop.invariant.served in
    let t = c.in_ok-turn.ensures.turned s.came s.tracks in
    record {
      came = s.came ++ t.came;
      session_state = c.turn.new.session.session_state;
      lost = c.turn.new.session.lost;
      went = went_on _ _ _ _ _ _ s.came _ _ _ (Ok c.in_ok-turn.field-0) s.ran t;
      taken = λ h. taken_on s.came t.came _ _ _ (s.taken h) (t.taken h);
      counts = tt;
    }

pub returns-in_err-turn-clause-asked : goal.returns-in_err-turn-clause-asked
returns-in_err-turn-clause-asked g c = (c.loop.counter + 1, omega (arith, c.loop-test.true), calls_on c.loop.counter _ _ _ c.loop.invariant.calls c.in_err-turn.ensures.calls)

pub returns-in-Ended-clause-asked : goal.returns-in-Ended-clause-asked
returns-in-Ended-clause-asked g c = (c.loop.counter + 1, omega (arith, c.loop-test.true), calls_on c.loop.counter _ _ _ c.loop.invariant.calls c.in_ok-turn.ensures.calls)

pub returns-in-Failed-clause-asked : goal.returns-in-Failed-clause-asked
returns-in-Failed-clause-asked g c = (c.loop.counter + 1, omega (arith, c.loop-test.true), calls_on c.loop.counter _ _ _ c.loop.invariant.calls c.in_ok-turn.ensures.calls)
