-- One turn of a serve: what comes next, and all that it gives to do.
use Rattle.std.specs.Prelude.{◌≡◌, ℕ, List, ◌++◌, Bool, true, false, IsTrue, Result, Ok, Err, OnOk}
use Rattle.gl_outside.specs.Link.{Arrival}
use Rattle.gl_serve.specs.declared.session.SessionError.{SessionError}
use Rattle.gl_serve.specs.declared.session.Progress.{Progress}
use Rattle.gl_serve.specs.declared.session.Progress.TheVariants.{Took, Ended, Failed}
use Rattle.gl_serve.specs.declared.settings.Serving.{Serving}
use Rattle.gl_serve.specs.declared.streams.Stream.{Stream}
use Rattle.gl_serve.specs.Rules.{Rules}
use Rattle.gl_serve.specs.Streams.{stream}
use Rattle.gl_serve.specs.Kept.{kept_of}
use Rattle.gl_serve.specs.Works.{script}
use Rattle.gl_serve.specs.Running.{Stand, Went}

-- Of each connection is kept what its stream leaves.
abbrev pub Tracks : (ℕ → Stream) → List Arrival → Type 0
Tracks kept came = (conn : ℕ) → kept conn ≡ kept_of (stream conn came)

-- Whether the link gave its end.
abbrev pub is_ended : Result Progress SessionError → Bool
is_ended (Ok Took) = false
is_ended (Ok Ended) = true
is_ended (Ok Failed) = false
is_ended (Err session_error) = false

-- Whether all was done that the turn gave to do.
abbrev pub course_of_turn : Result Progress SessionError → Result (Unit {0}) SessionError
course_of_turn (Ok turn) = Ok tt
course_of_turn (Err session_error) = Err session_error

-- After what came before, something comes or nothing, and is done.
pub record Turned {S Payload : Type 0} (honest : Bool) (rules : Rules S Payload)
    (settings : Serving)
    (before : List Arrival) (from : Stand S) (ahead : List Arrival) (to : Stand S)
    (now_ahead : List Arrival) (kept : ℕ → Stream) (result : Result Progress SessionError)
    : Type 0 where
  pub came : List Arrival
  pub went : Went honest rules settings from (script settings.peers.now before came) came to
      (course_of_turn result)
  pub tracks : OnOk result (Tracks kept (before ++ came))
  pub taken : IsTrue honest → ahead ≡ came ++ now_ahead
