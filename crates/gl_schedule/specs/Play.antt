-- A machine beside what was reported.
use Rattle.std.specs.Prelude.{◌≡◌, ℕ, suc, List, [], ◌∷◌, ◌++◌, Option, None, Some, Bool, true, false, nat_lt, if◌then◌else◌}
use Rattle.std.specs.Io.KnownBytes.{Appends}
use Rattle.gl_outside.specs.Sink.{AppendsPrefix}
use Rattle.gl_requests.specs.declared.request.GovernanceRequest.{GovernanceRequest}
use Rattle.gl_world.specs.declared.event.Event.{Event}
use Rattle.gl_world.specs.declared.event.Event.TheVariants as events
use Rattle.gl_world.specs.declared.settings.Settings.{Settings}
use Rattle.gl_world.specs.Founding.{node_ids}
use Rattle.gl_world.specs.Happened.{answer_to, with_event}
use Rattle.gl_world.specs.Held.{is_among, seen_event, seen_events, world_now}
use Rattle.gl_lines.specs.declared.line.Line.{Line}
use Rattle.gl_lines.specs.declared.line.Line.TheVariants as lines
use Rattle.gl_schedule.specs.Playing.{Playing}
use Rattle.gl_schedule.specs.Output.{Output, Effect, Happens, Answers, reported, printed_effect, next_text}
use Rattle.gl_schedule.specs.Governed.{governed_text, proposals_after}
use Rattle.gl_schedule.specs.Text.{outcome_text, sent_text, unnamed_text}

-- The machine's world is the one that was reported, by the same events, and it knows the requests
-- and proposals that were reported, and who signed.
pub record IsIn (t : Output) (m : Playing) : Type 0 where
  pub world : t.world ≡ world_now m.world
  pub events : t.events ≡ seen_events m.world
  pub requests : t.requests ≡ m.requests
  pub proposals : t.proposals ≡ m.proposals
  pub signed : t.signed ≡ m.signed

-- What was written is the text of an effect, and then the machine is in what was told again.
pub record PrintsEffect (t : Output) (e : Effect) (old new : Playing) (before after : List ℕ) :
    Type 0 where
  pub settings : new.world.settings ≡ old.world.settings
  pub text : List ℕ
  pub reported : (printed_effect old.world.settings t e).text ≡ next_text t text
  pub written : after ≡ before ++ text
  pub is_in : IsIn (printed_effect old.world.settings t e) new

-- The same of the effect that the line with this number has, by the settings of the service and by
-- what was told so far.
abbrev pub Prints : ℕ → (Settings → Output → Effect) → Playing → Playing → List ℕ → List ℕ → Type 0
Prints number effect old new before after =
    (t : Output) → IsIn t old → suc t.lines ≡ number →
    PrintsEffect t (effect old.world.settings t) old new before after

-- The same whatever the number of the line.
abbrev pub PrintsAnywhere : (Settings → Output → Effect) → Playing → Playing → List ℕ → List ℕ →
    Type 0
PrintsAnywhere effect old new before after =
    (number : ℕ) → Prints number effect old new before after

-- ---- events

-- A number as a byte: 0, which names no node, for one that is too large.
abbrev pub byte_number : ℕ → ℕ
byte_number number = if nat_lt number 256 then number else 0

-- An event is refused that names a node or a message that there isn't.
abbrev pub event_effect : Event → Settings → Output → Effect
event_effect event s t =
    if is_among (node_ids s) t.world.sent event then Happens (seen_event s event)
    else Answers unnamed_text

-- The event for which a line asks that names nodes alone.
abbrev pub event_in : Line → Option Event
event_in (lines.Timeout node) = Some (events.Timeout (byte_number node))
event_in (lines.Submit node request) = Some (events.Submit (byte_number node) request)
event_in (lines.Reserve node) = Some (events.Reserve (byte_number node))
event_in (lines.Sign node) = Some (events.Sign (byte_number node))
event_in (lines.Evidence node) = Some (events.Evidence (byte_number node))
event_in (lines.Replicate node to) =
    Some (events.Replicate (byte_number node) (byte_number to))
event_in (lines.Advance node) = Some (events.Advance (byte_number node))
event_in (lines.StepDown node to) = Some (events.StepDown (byte_number node) (byte_number to))
event_in (lines.Restart node) = Some (events.Restart (byte_number node))
event_in (lines.Install node from) = Some (events.Install (byte_number node) (byte_number from))
event_in other = None

-- ---- requests of governance

-- A member asks for something in the line.
abbrev pub asks : Line → Bool
asks (lines.Ack node member) = true
asks (lines.Propose node member list) = true
asks (lines.Ballot node member proposal agrees) = true
asks (lines.Withdraw node member proposal) = true
asks other = false

-- A request of governance reached a node, and its outcome was reported.
pub record Governs (old : Playing) (node : ℕ) (g : GovernanceRequest) (new : Playing)
    (before after : List ℕ) : Type 0 where
  pub becomes : new ≡ record old {
    world = with_event old.world (events.Govern node g);
    proposals = proposals_after old.proposals g (answer_to old.world (events.Govern node g));
  }
  pub written : after ≡ before
      ++ (outcome_text old.world.settings (answer_to old.world (events.Govern node g))
      ++ governed_text new.proposals (answer_to old.world (events.Govern node g)))

-- It is noted under the number of its line, and the messages were told that were sent for it.
pub record Sends (old : Playing) (number node : ℕ) (g : GovernanceRequest) (new : Playing)
    (before after : List ℕ) : Type 0 where
  pub becomes : new ≡ record old {
    world = with_event old.world (events.Govern node g);
    requests = old.requests ++ record { line = number; request = g } ∷ [];
    proposals = proposals_after old.proposals g (answer_to old.world (events.Govern node g));
  }
  pub written : after ≡ before
      ++ ((outcome_text old.world.settings (answer_to old.world (events.Govern node g))
      ++ governed_text new.proposals (answer_to old.world (events.Govern node g)))
      ++ sent_text (world_now old.world) (world_now new.world))

-- ---- lines

-- After a line the machine is in what was reported with it, and has the same settings.
pub record GoesOn (t : Output) (line : Line) (old new : Playing) : Type 0 where
  pub settings : new.world.settings ≡ old.world.settings
  pub is_in : IsIn (reported old.world.settings t line) new

-- ---- sinks

-- What a sink that held a text was given, so that it holds a longer one.
abbrev pub Extends : Option (List ℕ) → Option (List ℕ) → List ℕ → List ℕ → Type 0
Extends held holds text longer =
    (more : List ℕ) × (longer ≡ text ++ more) × Appends held holds more

-- The same of a prefix.
abbrev pub ExtendsPrefix : Option (List ℕ) → Option (List ℕ) → List ℕ → List ℕ → Type 0
ExtendsPrefix held holds text longer =
    (more : List ℕ) × (longer ≡ text ++ more) × AppendsPrefix held holds more
