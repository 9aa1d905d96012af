use Rattle.std.proofs.Common.{List, ℕ, [], ◌∷◌, ◌++◌, Ok, Err, IsTrue, refl, sym, ap, ◌∙◌}
use Rattle.std.proofs.lemmas.Result.{err_from_is_err_and}
use Rattle.gl_outside.specs.Link.{Inward, Bytes, Tick, Gave}
use Rattle.gl_serve.specs.declared.session.SessionError.{SessionError}
use Rattle.gl_serve.specs.Kept.{stream_at}
use Rattle.gl_serve.specs.Running.{is_stopped}
use Rattle.gl_serve.proofs.Arriving.{went_came, ran_still, bytes_works, tracks_on, tracks_tick, tracks_still, turned_err}
use Rattle.gl_serve.proofs.progress.turn.Goals as goal

pub returns-in_ok-take_piece-in-Bytes-clause-turned : goal.returns-in_ok-take_piece-in-Bytes-clause-turned
returns-in_ok-take_piece-in-Bytes-clause-turned g c = λ before kept.
    let conn = c.in-Bytes.conn in
    let bytes = c.deref.result.now in
    let past = λ (h : IsTrue g.L.Link.honest). c.in-Bytes.ensures.past h ∙ ap (λ (t : List ℕ). g.L.Link.past c.args.link.now ++ Gave (Bytes conn t) ∷ []) (sym c.deref.ensures.value) in
    record {
      came = Bytes conn bytes ∷ [];
      went = went_came _ g.N.ServedNode.rules c.args.settings.now before (Bytes conn bytes) _ _ _ _ (Ok tt) c.requires.going
          (bytes_works c.args.settings.now.peers.now (stream_at c.args.streams.now) before conn bytes kept) past c.in_ok-take_piece-in-Bytes.ensures.went;
      tracks = tracks_on (stream_at c.args.streams.now) (stream_at c.take_piece.new.streams) before conn bytes kept c.in_ok-take_piece-in-Bytes.ensures.kept c.in_ok-take_piece-in-Bytes.ensures.others;
      taken = λ h. c.in-Bytes.ensures.coming h ∙ ap (λ (t : List ℕ). Bytes conn t ∷ (g.L.Link.inward c.next.new.self).coming) (sym c.deref.ensures.value) ∙ ap (λ (i : Inward). Bytes conn bytes ∷ i.coming) (sym c.take_piece.ensures.inward);
    }

pub returns-in_err-take_piece-in-Bytes-clause-turned : goal.returns-in_err-take_piece-in-Bytes-clause-turned
returns-in_err-take_piece-in-Bytes-clause-turned g c = λ before kept.
    let conn = c.in-Bytes.conn in
    let bytes = c.deref.result.now in
    let past = λ (h : IsTrue g.L.Link.honest). c.in-Bytes.ensures.past h ∙ ap (λ (t : List ℕ). g.L.Link.past c.args.link.now ++ Gave (Bytes conn t) ∷ []) (sym c.deref.ensures.value) in
    let p = err_from_is_err_and c.from_residual.result c.from_residual.ensures.1 in
    turned_err _ _ _ _ _ _ _ _ _ (Bytes conn bytes ∷ []) c.in_err-take_piece-in-Bytes.field-0.0 c.from_residual.result (p.1 ∙ ap (λ (e : SessionError). Err e) p.2)
    (went_came _ g.N.ServedNode.rules c.args.settings.now before (Bytes conn bytes) _ _ _ _ (Err c.in_err-take_piece-in-Bytes.field-0.0) c.requires.going
    (bytes_works c.args.settings.now.peers.now (stream_at c.args.streams.now) before conn bytes kept) past c.in_err-take_piece-in-Bytes.ensures.went)
    (λ h. c.in-Bytes.ensures.coming h ∙ ap (λ (t : List ℕ). Bytes conn t ∷ (g.L.Link.inward c.next.new.self).coming) (sym c.deref.ensures.value) ∙ ap (λ (i : Inward). Bytes conn bytes ∷ i.coming) (sym c.take_piece.ensures.inward))

pub returns-in_ok-tick-in-Tick-clause-turned : goal.returns-in_ok-tick-in-Tick-clause-turned
returns-in_ok-tick-in-Tick-clause-turned g c = λ before kept. record {
  came = Tick ∷ [];
  went = went_came _ g.N.ServedNode.rules c.args.settings.now before Tick _ _ _ _ (Ok tt) c.requires.going refl c.in-Tick.ensures.past c.in_ok-tick-in-Tick.ensures.went;
  tracks = tracks_tick _ before kept;
  taken = λ h. c.in-Tick.ensures.coming h ∙ ap (λ (i : Inward). Tick ∷ i.coming) (sym c.tick.ensures.inward);
}

pub returns-in_err-tick-in-Tick-clause-turned : goal.returns-in_err-tick-in-Tick-clause-turned
returns-in_err-tick-in-Tick-clause-turned g c = λ before kept.
    let p = err_from_is_err_and c.from_residual-in_err-tick-in-Tick.result c.from_residual-in_err-tick-in-Tick.ensures.1 in
    turned_err _ _ _ _ _ _ _ _ _ (Tick ∷ []) c.in_err-tick-in-Tick.field-0.0 c.from_residual-in_err-tick-in-Tick.result (p.1 ∙ ap (λ (e : SessionError). Err e) p.2)
    (went_came _ g.N.ServedNode.rules c.args.settings.now before Tick _ _ _ _ (Err c.in_err-tick-in-Tick.field-0.0) c.requires.going refl c.in-Tick.ensures.past c.in_err-tick-in-Tick.ensures.went)
    (λ h. c.in-Tick.ensures.coming h ∙ ap (λ (i : Inward). Tick ∷ i.coming) (sym c.tick.ensures.inward))

pub returns-in-Ended-clause-turned : goal.returns-in-Ended-clause-turned
returns-in-Ended-clause-turned g c = λ before kept. record {
  came = [];
  went = (ran_still _ _ _ _ _ c.in-Ended.ensures.past, c.requires.going);
  tracks = tracks_still _ before kept;
  taken = λ h. c.in-Ended.ensures.coming h;
}

pub returns-in-Failed-clause-turned : goal.returns-in-Failed-clause-turned
returns-in-Failed-clause-turned g c = λ before kept. record {
  came = [];
  went = (ran_still _ _ _ _ _ c.in-Failed.ensures.past, c.requires.going);
  tracks = tracks_still _ before kept;
  taken = λ h. c.in-Failed.ensures.coming h;
}

pub returns-in-NoMemory-clause-turned : goal.returns-in-NoMemory-clause-turned
returns-in-NoMemory-clause-turned g c = λ before kept. record {
  came = [];
  went = ([], [], ran_still _ _ _ _ _ c.in-NoMemory.ensures.past, ap is_stopped c.requires.going);
  tracks = tt;
  taken = λ h. c.in-NoMemory.ensures.coming h;
}
