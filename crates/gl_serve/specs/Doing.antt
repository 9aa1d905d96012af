-- What each work does, and what is seen of it on the link.
use Rattle.std.specs.Prelude.{◌≡◌, ℕ, ◌+◌, List, [], ◌∷◌, ◌++◌, Option, None, Some, Bool, true, false, position, nat_le, if◌then◌else◌}
use Rattle.std.specs.List.{flat_map}
use Rattle.gl_base.specs.Bytes.{same_bytes}
use Rattle.gl_outside.specs.Fault.{next_call}
use Rattle.gl_outside.specs.Link.{Arrival}
use Rattle.gl_messages.specs.Frames.{framed}
use Rattle.gl_messages.specs.Message.{message_bytes}
use Rattle.gl_messages.specs.Answer.{answer_bytes}
use Rattle.gl_messages.specs.declared.message.Message.{Message}
use Rattle.gl_messages.specs.declared.answer.Answer.{Answer}
use Rattle.gl_serve.specs.declared.node.OwnEvent.{OwnEvent}
use Rattle.gl_serve.specs.declared.node.OwnEvent.TheVariants.{Timeout}
use Rattle.gl_serve.specs.declared.node.Outcome.{Outcome}
use Rattle.gl_serve.specs.declared.node.Outcome.TheVariants as outcomes
use Rattle.gl_serve.specs.declared.session.SessionState.{SessionState}
use Rattle.gl_serve.specs.declared.session.SessionError.TheVariants as halts
use Rattle.gl_serve.specs.declared.settings.Serving.{Serving}
use Rattle.gl_serve.specs.Rules.{Rules}
use Rattle.gl_serve.specs.Works.{Work, Take, Handle, Beat, Lead}

-- ---- what is seen

-- What came, or a frame that was sent on a connection, lost or not.
pub data Line : Type 0 where
  Came : Arrival → Line
  Out : ℕ → List ℕ → Line

-- A payload goes out as a frame, where there is a connection for it.
abbrev pub sent_to : Option ℕ → List ℕ → List Line
sent_to None payload = []
sent_to (Some conn) payload = Out conn (framed payload) ∷ []

-- A message goes to its receiver's place among the peers.
abbrev pub message_line : List (List ℕ) → Message → List Line
message_line peers message =
    sent_to (position (same_bytes message.to) peers) (message_bytes message)

-- An answer goes to who asked, if anybody did.
abbrev pub answer_line : Option ℕ → Option Answer → List Line
answer_line asker None = []
answer_line asker (Some answer) = sent_to asker (answer_bytes answer)

-- What is sent for an outcome: its messages, and then the answer to who asked.
abbrev pub lines_of : List (List ℕ) → Option ℕ → Outcome → List Line
lines_of peers asker (outcomes.Done messages answer heard) =
    flat_map (message_line peers) messages ++ answer_line asker answer
lines_of peers asker outcomes.Stopped = []
lines_of peers asker outcomes.NoMemory = []

-- ---- one work

-- A node, and what is noted of it.
pub record Moment (S : Type 0) : Type 0 where
  pub node : S
  pub session_state : SessionState

-- What is noted of an outcome: the count of ticks may begin again, or the serve may be over.
abbrev pub session_state_after : SessionState → Outcome → SessionState
session_state_after session_state (outcomes.Done messages answer heard) =
    record session_state { idle = if heard then 0 else session_state.idle }
session_state_after session_state outcomes.Stopped =
    record session_state { over = Some halts.Stopped }
session_state_after session_state outcomes.NoMemory =
    record session_state { over = Some halts.NoMemory }

-- An event of the node, for which this was noted: its lines are those of its outcome.
pub record Event {S : Type 0} (peers : List (List ℕ)) (asker : Option ℕ)
    (happens : Outcome → S → Type 0) (noted : SessionState) (lines : List Line) (now : Moment S)
    : Type 0 where
  pub outcome : Outcome
  pub event : happens outcome now.node
  pub sent : lines ≡ lines_of peers asker outcome
  pub session_state : now.session_state ≡ session_state_after noted outcome

-- Nothing is done but noting this, and nothing is seen.
abbrev pub Idles : {S : Type 0} → Moment S → SessionState → List Line → Moment S → Type 0
Idles m noted lines now = (lines ≡ []) × (now.node ≡ m.node) × (now.session_state ≡ noted)

-- A payload that isn't in the grammar is dropped. Each other one is counted.
abbrev pub Handles : {S Payload : Type 0} → Rules S Payload → Serving → Moment S → ℕ →
    Option Payload → List Line → Moment S → Type 0
Handles rules settings m conn None lines now = Idles m m.session_state lines now
Handles rules settings m conn (Some payload) lines now =
    Event settings.peers.now (Some conn) (rules.handles m.node payload)
    (record m.session_state { served = next_call m.session_state.served }) lines now

-- A node that doesn't lead counts the tick, or times out where it waited long enough.
abbrev pub Waits : {S Payload : Type 0} → Rules S Payload → Serving → Moment S → Bool →
    List Line → Moment S → Type 0
Waits rules settings m true lines now =
    Event settings.peers.now None (rules.owns m.node Timeout)
    (record m.session_state { leading = false; idle = 0 }) lines now
Waits rules settings m false lines now =
    Idles m (record m.session_state { leading = false; idle = m.session_state.idle + 1 }) lines now

-- A tick begins: whether the node leads is noted.
abbrev pub Beats : {S Payload : Type 0} → Rules S Payload → Serving → Moment S → Bool →
    List Line → Moment S → Type 0
Beats rules settings m true lines now =
    Idles m (record m.session_state { leading = true }) lines now
Beats rules settings m false lines now =
    Waits rules settings m (nat_le settings.ticks (m.session_state.idle + 1)) lines now

-- An event of the tick of a node that led as the tick began.
abbrev pub Leads : {S Payload : Type 0} → Rules S Payload → Serving → Moment S → OwnEvent → Bool →
    List Line → Moment S → Type 0
Leads rules settings m event true lines now =
    Event settings.peers.now None (rules.owns m.node event) m.session_state lines now
Leads rules settings m event false lines now = Idles m m.session_state lines now

-- What a work does from one moment to the next, and its lines.
abbrev pub One : {S Payload : Type 0} → Rules S Payload → Serving → Moment S → Work →
    List Line → Moment S → Type 0
One rules settings m (Take arrival) lines now = (lines ≡ Came arrival ∷ []) × (now ≡ m)
One {S} {Payload} rules settings m (Handle conn bytes) lines now =
    (read : Option Payload) × rules.reads bytes read × Handles rules settings m conn read lines now
One rules settings m Beat lines now = Beats rules settings m (rules.leads m.node) lines now
One rules settings m (Lead event) lines now =
    Leads rules settings m event m.session_state.leading lines now

-- ---- works one after the other

-- Each work says its lines. None is done once the serve is over.
abbrev pub Does : {S Payload : Type 0} → Rules S Payload → Serving → Moment S → List Work →
    List (List Line) → Moment S → Type 0
Does rules settings m [] content now = (content ≡ []) × (now ≡ m)
Does {S} rules settings m (work ∷ more) content now =
    (m.session_state.over ≡ None) × (next : Moment S) × (lines : List Line) ×
    (others : List (List Line))
    × One rules settings m work lines next × (content ≡ lines ∷ others)
    × Does rules settings next more others now
