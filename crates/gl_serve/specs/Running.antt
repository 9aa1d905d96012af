-- How far a serve came with what there was to do.
use Rattle.std.specs.Prelude.{◌≡◌, ◌≤◌, ℕ, List, [], ◌++◌, map, length, Bool, true, false, IsTrue, Option, None, Some, unwrap_or, Result, Ok, Err}
use Rattle.std.specs.List.{flat_map, last_or}
use Rattle.gl_outside.specs.Link.{Arrival, Exchange, arrivals}
use Rattle.gl_serve.specs.declared.session.SessionError.{SessionError}
use Rattle.gl_serve.specs.declared.session.SessionError.TheVariants as halts
use Rattle.gl_serve.specs.declared.session.Session.{Session}
use Rattle.gl_serve.specs.declared.settings.Serving.{Serving}
use Rattle.gl_serve.specs.declared.settings.ServeEnd.{ServeEnd}
use Rattle.gl_serve.specs.declared.settings.ServeEnd.TheVariants as ends
use Rattle.gl_serve.specs.Rules.{Rules}
use Rattle.gl_serve.specs.Works.{Work}
use Rattle.gl_serve.specs.Doing.{Line, Moment, Does}
use Rattle.gl_serve.specs.Outbox.{line_of, counted}

-- Where a serve stands: its node, the link's history, and how many frames were lost.
pub record Stand (S : Type 0) : Type 0 where
  pub moment : Moment S
  pub past : List Exchange
  pub lost : ℕ

-- The same of what the code has at hand.
abbrev pub stand : {S : Type 0} → S → Session → List Exchange → Stand S
stand node session past = record {
  moment = record { node = node; session_state = session.session_state };
  past = past;
  lost = session.lost;
}

-- The lines of all works, in order.
abbrev pub all_lines : List (List Line) → List Line
all_lines content = flat_map (λ lines. lines) content

-- The lines of the last one.
abbrev pub last_lines : List (List Line) → List Line
last_lines content = unwrap_or (last_or None content) []

-- Works were done, up to some that were not begun, and what they said was sent, up to some lines of
-- the last one that was done.
pub record Ran {S Payload : Type 0} (honest : Bool) (rules : Rules S Payload) (settings : Serving)
    (from : Stand S) (todo : List Work) (given : List Arrival) (to : Stand S)
    (undone : List Work) (unsent : List Line) : Type 0 where
  -- the works that were done, and the lines of each
  pub done : List Work
  pub content : List (List Line)
  pub works : todo ≡ done ++ undone
  pub does : Does rules settings from.moment done content to.moment
  -- what went over the link, and an honest link's history shows it
  pub exchanges : List Exchange
  pub history : IsTrue honest → to.past ≡ from.past ++ exchanges
  pub lines : all_lines content ≡ map line_of exchanges ++ unsent
  pub cut : length unsent ≤ length (last_lines content)
  pub came : arrivals exchanges ≡ given
  pub lost : to.lost ≡ counted from.lost exchanges

-- Whether an end is that of a node that stopped.
abbrev pub is_stop : SessionError → Bool
is_stop halts.Stopped = true
is_stop halts.NoMemory = false

-- Whether an event stopped the node.
abbrev pub is_stopped : Option SessionError → Bool
is_stopped None = false
is_stopped (Some session_error) = is_stop session_error

-- All works were done, or an end came in between: it reports whether an event stopped the node.
abbrev pub Went : {S Payload : Type 0} → Bool → Rules S Payload → Serving → Stand S → List Work →
    List Arrival → Stand S → Result (Unit {0}) SessionError → Type 0
Went honest rules settings from works came to (Ok done) =
    Ran honest rules settings from works came to [] [] × (to.moment.session_state.over ≡ None)
Went honest rules settings from works came to (Err end) =
    (undone : List Work) × (unsent : List Line)
    × Ran honest rules settings from works came to undone unsent
    × (is_stopped to.moment.session_state.over ≡ is_stop end)

-- How a serve ends that can't go on.
abbrev pub end_of : SessionError → ServeEnd
end_of halts.Stopped = ends.Stopped
end_of halts.NoMemory = ends.NoMemory
