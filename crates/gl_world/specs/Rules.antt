-- The rule of an event of a world, at the node where it happens.
use Rattle.std.specs.Prelude.{ℕ, ◌-◌, List, [], Option, None, Some, Bool, true, false, max, length, nat_le, slice_get, get_or, if◌then◌else◌}
use Rattle.std.specs.List.{list_all}
use Rattle.gl_entry.specs.declared.entry.Entry.{Entry}
use Rattle.gl_rules.specs.Identity.{NodeId, same}
use Rattle.gl_rules.specs.Book.{Book}
use Rattle.gl_rules.specs.Node.{Node}
use Rattle.gl_rules.specs.Message.{Message, Body, RequestVote, VoteReply, Append, AppendReply, ProposeVote}
use Rattle.gl_rules.specs.Outcome.{idle}
use Rattle.gl_rules.specs.Log.{signed_prefix}
use Rattle.gl_rules.specs.Elections.{timeout, step_down}
use Rattle.gl_rules.specs.Replication.{entries_limit, replicate, advance, restart}
use Rattle.gl_rules.specs.Requests.{submit, govern, reserve, sign, evidence}
use Rattle.gl_rules.specs.World.{on_message}
use Rattle.gl_election.specs.Bridge.{message_to}
use Rattle.gl_world.specs.declared.event.Event.{Event}
use Rattle.gl_world.specs.declared.event.Event.TheVariants as events
use Rattle.gl_world.specs.WorldNodes.{Rule}

-- Another node that an event names, by its number.
abbrev pub node_in : List NodeId → ℕ → NodeId
node_in ids number = get_or ids (number - 1) []

-- For whom a message is.
abbrev pub receiver_of : Option (Message Entry) → NodeId
receiver_of None = []
receiver_of (Some m) = m.receiver

-- The node at which an event happens.
abbrev pub acting_node : List NodeId → List (Message Entry) → Event → NodeId
acting_node ids sent (events.Timeout node) = node_in ids node
acting_node ids sent (events.Deliver message) = receiver_of (slice_get sent message)
acting_node ids sent (events.Submit node request) = node_in ids node
acting_node ids sent (events.Govern node request) = node_in ids node
acting_node ids sent (events.Reserve node) = node_in ids node
acting_node ids sent (events.Sign node) = node_in ids node
acting_node ids sent (events.Evidence node) = node_in ids node
acting_node ids sent (events.Replicate node to) = node_in ids node
acting_node ids sent (events.Advance node) = node_in ids node
acting_node ids sent (events.StepDown node to) = node_in ids node
acting_node ids sent (events.Restart node) = node_in ids node
acting_node ids sent (events.Install node from) = node_in ids node

-- A message that reaches another node than that which it is for is dropped.
abbrev pub delivery : Option (Message Entry) → Rule
delivery None b x n = idle n
delivery (Some m) b x n =
    if same m.receiver x then on_message b (message_to x m.sender m.view m.body) n else idle n

-- A node begins from another one's ledger.
abbrev pub is_install : Event → Bool
is_install (events.Timeout node) = false
is_install (events.Deliver message) = false
is_install (events.Submit node request) = false
is_install (events.Govern node request) = false
is_install (events.Reserve node) = false
is_install (events.Sign node) = false
is_install (events.Evidence node) = false
is_install (events.Replicate node to) = false
is_install (events.Advance node) = false
is_install (events.StepDown node to) = false
is_install (events.Restart node) = false
is_install (events.Install node from) = true

-- The rule of an event, at the node where it happens. That of an Install takes another node too, so
-- it is told apart.
abbrev pub rule_of : List NodeId → List (Message Entry) → Event → Rule
rule_of ids sent (events.Timeout node) b x n = timeout b x n
rule_of ids sent (events.Deliver message) b x n = delivery (slice_get sent message) b x n
rule_of ids sent (events.Submit node request) b x n = submit b request n
rule_of ids sent (events.Govern node request) b x n = govern b request n
rule_of ids sent (events.Reserve node) b x n = reserve b x n
rule_of ids sent (events.Sign node) b x n = sign b x n
rule_of ids sent (events.Evidence node) b x n = evidence b n
rule_of ids sent (events.Replicate node to) b x n = replicate b x (node_in ids to) n
rule_of ids sent (events.Advance node) b x n = advance b x n
rule_of ids sent (events.StepDown node to) b x n = step_down b x (node_in ids to) n
rule_of ids sent (events.Restart node) b x n = restart b n
rule_of ids sent (events.Install node from) b x n = idle n

-- So many messages an event at a node sends at most: one, or one to each node that its log records
-- up to its last signature.
abbrev pub most_sent : {E Q G R A F : Type 0} → Book E Q G R A F → Node E → ℕ
most_sent b n = max 1 (length (b.recorded_nodes (signed_prefix b n.log)))

-- A body brings so many entries at most as one message carries.
abbrev pub brings_few : {E : Type 0} → Body E → Bool
brings_few (RequestVote last) = true
brings_few (VoteReply granted) = true
brings_few (Append prev entries commit) = nat_le (length entries) entries_limit
brings_few (AppendReply ok seqno) = true
brings_few ProposeVote = true

-- So does each of these messages.
abbrev pub bring_few : {E : Type 0} → List (Message E) → Bool
bring_few sent = list_all (λ m. brings_few m.body) sent
