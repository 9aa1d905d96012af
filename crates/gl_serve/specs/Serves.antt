-- A serve from its beginning to its end.
use Rattle.std.specs.Prelude.{◌≡◌, ◌⊎◌, ◌≤◌, ℕ, zero, suc, List, [], ◌++◌, Bool, false, IsTrue, None, Result, Ok, Err, IfOk}
use Rattle.gl_outside.specs.Fault.{next_call}
use Rattle.gl_outside.specs.Link.{Arrival, Exchange}
use Rattle.gl_serve.specs.declared.session.SessionState.{SessionState}
use Rattle.gl_serve.specs.declared.session.SessionError.{SessionError}
use Rattle.gl_serve.specs.declared.session.SessionError.TheVariants as halts
use Rattle.gl_serve.specs.declared.node.OwnEvent.{OwnEvent}
use Rattle.gl_serve.specs.declared.node.Outcome.TheVariants.{Stopped}
use Rattle.gl_serve.specs.declared.settings.Serving.{Serving}
use Rattle.gl_serve.specs.declared.settings.ServeEnd.{ServeEnd}
use Rattle.gl_serve.specs.declared.settings.ServeEnd.TheVariants as ends
use Rattle.gl_serve.specs.Rules.{Rules}
use Rattle.gl_serve.specs.Works.{script}
use Rattle.gl_serve.specs.Running.{Went}

-- What is noted as a serve begins.
abbrev pub first_session_state : SessionState
first_session_state = record { idle = 0; leading = false; served = 0; over = None }

-- Whether all was done that came: so it is, but where the node stopped or memory ran out.
abbrev pub course_of : Result (ℕ × ℕ) ServeEnd → Result (Unit {0}) SessionError
course_of (Ok counts) = Ok tt
course_of (Err ends.LinkFailed) = Ok tt
course_of (Err ends.Turns) = Ok tt
course_of (Err ends.Stopped) = Err halts.Stopped
course_of (Err ends.NoMemory) = Err halts.NoMemory

-- What came was done so, works one after the other, and the counts are those of the payloads in the
-- grammar and of the frames that were lost. What came is what was ahead of an honest link and isn't
-- any more.
pub record Serves {S Payload : Type 0} (honest : Bool) (rules : Rules S Payload)
    (settings : Serving)
    (first : S) (past : List Exchange) (ahead : List Arrival)
    (last : S) (now_past : List Exchange) (now_ahead : List Arrival)
    (result : Result (ℕ × ℕ) ServeEnd) : Type 0 where
  pub came : List Arrival
  pub session_state : SessionState
  pub lost : ℕ
  pub went : Went honest rules settings
      (record {
        moment = record { node = first; session_state = first_session_state };
        past = past;
        lost = 0;
      })
      (script settings.peers.now [] came) came
      (record {
        moment = record { node = last; session_state = session_state };
        past = now_past;
        lost = lost;
      })
      (course_of result)
  pub taken : IsTrue honest → ahead ≡ came ++ now_ahead
  pub counts : IfOk result (λ counts. (counts.0 ≡ session_state.served) × (counts.1 ≡ lost))

-- A count of calls after so many more, up to the last value of a u64.
abbrev pub calls_after : ℕ → ℕ → ℕ
calls_after zero calls = calls
calls_after (suc n) calls = calls_after n (next_call calls)

-- So many calls were made at most.
abbrev pub AskedAtMost : ℕ → ℕ → ℕ → Type 0
AskedAtMost turns before now = (n : ℕ) × (n ≤ turns) × (now ≡ calls_after n before)

-- An event stopped the node, from some state to this one.
abbrev pub StoppedBy : {S Payload : Type 0} → Rules S Payload → S → Type 0
StoppedBy {S} {Payload} rules last =
    (old : S) × (((payload : Payload) × rules.handles old payload Stopped last)
    ⊎ ((event : OwnEvent) × rules.owns old event Stopped last))
