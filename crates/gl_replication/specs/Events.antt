-- The rule of an event, at the node where it happens.
use Rattle.std.specs.Prelude.{All, IsTrue, List, Bool, true, false, length, nat_le, if◌then◌else◌}
use Rattle.gl_entry.specs.declared.entry.Entry.{Entry}
use Rattle.gl_rules.specs.Identity.{NodeId, same}
use Rattle.gl_rules.specs.Book.{Book}
use Rattle.gl_rules.specs.Node.{Node}
use Rattle.gl_rules.specs.Outcome.{Step, idle}
use Rattle.gl_rules.specs.Elections.{timeout, step_down}
use Rattle.gl_rules.specs.Replication.{replicate, advance}
use Rattle.gl_rules.specs.Requests.{submit, govern, reserve, sign, evidence}
use Rattle.gl_rules.specs.World.{on_message}
use Rattle.gl_messages.specs.Message.{body_fits, most_entries}
use Rattle.gl_messages.specs.declared.message.Body.{Body}
use Rattle.gl_messages.specs.declared.message.Body.TheVariants.{RequestVote, VoteReply, Append, AppendReply, ProposeVote}
use Rattle.gl_messages.specs.declared.message.Message.{Message}
use Rattle.gl_election.specs.Bridge.{message_to, seen_body}
use Rattle.gl_replication.specs.declared.done.Outcome.{Outcome}
use Rattle.gl_replication.specs.declared.done.Outcome.TheVariants as outcomes
use Rattle.gl_replication.specs.declared.event.Event.{Event}
use Rattle.gl_replication.specs.declared.event.Event.TheVariants as events

-- A body brings so many entries at most as one message carries.
abbrev pub brings_few : Body → Bool
brings_few (RequestVote last) = true
brings_few (VoteReply granted) = true
brings_few (Append prev commit es) = nat_le (length es) most_entries
brings_few (AppendReply ok seqno) = true
brings_few ProposeVote = true

-- Each of these messages keeps the limits of messages.
abbrev pub AreFit : List Message → Type 0
AreFit sent = All (λ m. IsTrue (body_fits m.body)) sent

-- The outcome of an accepted request, of whose answer this holds.
abbrev pub IsAccepted : {A : Type 0} → (A → Type 0) → Outcome A → Type 0
IsAccepted P (outcomes.Accepted view seqno answer) = P answer
IsAccepted P other = ⊥

module _ {S Q G R A F : Type 0} where
  -- The event is a request of an application or of governance.
  abbrev pub is_request : Event S Q G R A F → Bool
  is_request (events.Submit request) = true
  is_request (events.Govern request) = true
  is_request other = false

  -- A message of the event brings so many entries at most as one message carries.
  abbrev pub has_few_entries : Event S Q G R A F → Bool
  has_few_entries events.Timeout = true
  has_few_entries (events.Message m) = brings_few m.body
  has_few_entries (events.Submit request) = true
  has_few_entries (events.Govern request) = true
  has_few_entries events.Reserve = true
  has_few_entries events.Sign = true
  has_few_entries events.Evidence = true
  has_few_entries (events.Replicate to) = true
  has_few_entries events.Advance = true
  has_few_entries (events.StepDown to) = true

  -- Whether it may want memory: a node reserves a leaf and commits without.
  abbrev pub takes_memory : Event S Q G R A F → Bool
  takes_memory events.Timeout = true
  takes_memory (events.Message m) = true
  takes_memory (events.Submit request) = true
  takes_memory (events.Govern request) = true
  takes_memory events.Reserve = false
  takes_memory events.Sign = true
  takes_memory events.Evidence = true
  takes_memory (events.Replicate to) = true
  takes_memory events.Advance = false
  takes_memory (events.StepDown to) = true

-- What a node does with a message, whoever it is for.
abbrev pub answer : {Q G R A F : Type 0} → Message → Book Entry Q G R A F → NodeId → Node Entry →
    Step Entry A F
answer m b x n = on_message b (message_to x m.from m.view (seen_body m.body)) n

-- A message to another node is dropped.
abbrev pub delivery : {Q G R A F : Type 0} → Message → Book Entry Q G R A F → NodeId → Node Entry →
    Step Entry A F
delivery m b x n = if same m.to x then answer m b x n else idle n

-- The step that an event is at a node: that of its rule.
abbrev pub rule_of : {S Q G R A F : Type 0} → Event S Q G R A F → Book Entry Q G R A F → NodeId →
    Node Entry → Step Entry A F
rule_of events.Timeout b x n = timeout b x n
rule_of (events.Message m) b x n = delivery m b x n
rule_of (events.Submit request) b x n = submit b request n
rule_of (events.Govern request) b x n = govern b request n
rule_of events.Reserve b x n = reserve b x n
rule_of events.Sign b x n = sign b x n
rule_of events.Evidence b x n = evidence b n
rule_of (events.Replicate to) b x n = replicate b x to n
rule_of events.Advance b x n = advance b x n
rule_of (events.StepDown to) b x n = step_down b x to n
