-- What there is to do for what comes over a link.
use Rattle.std.specs.Prelude.{ℕ, List, [], ◌∷◌, ◌++◌, map, ◌==◌, if◌then◌else◌}
use Rattle.gl_outside.specs.Link.{Arrival, Bytes, Tick}
use Rattle.gl_serve.specs.declared.node.OwnEvent.{OwnEvent}
use Rattle.gl_serve.specs.declared.node.OwnEvent.TheVariants.{Replicate, Reserve, Sign, Advance, Evidence}
use Rattle.gl_serve.specs.Streams.{stream, fresh}

-- Something to do.
pub data Work : Type 0 where
  -- take what comes
  Take : Arrival → Work
  -- handle a payload of a connection
  Handle : ℕ → List ℕ → Work
  -- begin a tick: find out whether the node leads, and else count the tick
  Beat : Work
  -- an event of a tick, if the node leads
  Lead : OwnEvent → Work

-- The events of a leader's tick, with its peers in order.
abbrev pub tick_events : List (List ℕ) → List OwnEvent
tick_events peers = map Replicate peers ++ Reserve ∷ Sign ∷ Advance ∷ Evidence ∷ []

-- What an arrival gives to do, after what came before it.
abbrev pub works : List (List ℕ) → List Arrival → Arrival → List Work
works peers before (Bytes conn bytes) =
    Take (Bytes conn bytes) ∷ map (Handle conn) (fresh (stream conn before) bytes)
works peers before Tick = Take Tick ∷ Beat ∷ map Lead (tick_events peers)

-- What arrivals give to do, after what came before them.
abbrev pub script : List (List ℕ) → List Arrival → List Arrival → List Work
script peers before [] = []
script peers before (arrival ∷ more) =
    works peers before arrival ++ script peers (before ++ arrival ∷ []) more

-- The payloads of a connection among these works, in order.
abbrev pub handled : ℕ → List Work → List (List ℕ)
handled conn [] = []
handled conn (Take arrival ∷ more) = handled conn more
handled conn (Handle from payload ∷ more) =
    (if from == conn then payload ∷ [] else []) ++ handled conn more
handled conn (Beat ∷ more) = handled conn more
handled conn (Lead event ∷ more) = handled conn more
