-- What contracts see of a world: the settings of its service, and what happened. All the rest is by
-- the rules of consensus.
use Rattle.std.specs.Prelude.{ℕ, suc, List, [], ◌∷◌, Option, None, Some, Bool, ◌&&◌, nat_le, is_some, map, length, slice_get, if◌then◌else◌}
use Rattle.std.specs.Option.{option_map}
use Rattle.gl_entry.specs.declared.entry.Entry.{Entry}
use Rattle.gl_rules.specs.Identity.{NodeId, same}
use Rattle.gl_rules.specs.Node.{Node}
use Rattle.gl_rules.specs.Message.{Message}
use Rattle.gl_rules.specs.World as rules
use Rattle.gl_rules.specs.World.{after}
use Rattle.gl_world.specs.Service.{ServiceEvent}
use Rattle.gl_world.specs.declared.event.Event.{Event}
use Rattle.gl_world.specs.declared.event.Event.TheVariants as events
use Rattle.gl_world.specs.declared.settings.Settings.{Settings}
use Rattle.gl_world.specs.Founding.{id_of, node_ids}
use Rattle.gl_world.specs.Group.{book_of}
use Rattle.gl_world.specs.World.{ServiceWorld, start_of}

pub record Held : Type 0 where
  pub settings : Settings
  -- in the order in which they happened
  pub events : List Event

-- An event as the rules know it: by the identifiers of its nodes.
abbrev pub seen_event : Settings → Event → ServiceEvent
seen_event s (events.Timeout node) = rules.Timeout (id_of s node)
seen_event s (events.Deliver message) = rules.Deliver message
seen_event s (events.Submit node request) = rules.Submit (id_of s node) request
seen_event s (events.Govern node request) = rules.Govern (id_of s node) request
seen_event s (events.Reserve node) = rules.Reserve (id_of s node)
seen_event s (events.Sign node) = rules.Sign (id_of s node)
seen_event s (events.Evidence node) = rules.Evidence (id_of s node)
seen_event s (events.Replicate node to) = rules.Replicate (id_of s node) (id_of s to)
seen_event s (events.Advance node) = rules.Advance (id_of s node)
seen_event s (events.StepDown node to) = rules.StepDown (id_of s node) (id_of s to)
seen_event s (events.Restart node) = rules.Restart (id_of s node)
seen_event s (events.Install node from) = rules.Install (id_of s node) (id_of s from)

abbrev pub seen_events : Held → List ServiceEvent
seen_events h = map (seen_event h.settings) h.events

-- The world of the rules after all that happened.
abbrev pub world_now : Held → ServiceWorld
world_now h = after (book_of h.settings) (start_of h.settings) (seen_events h)

-- The node with a number, after all that happened.
abbrev pub node_now : Held → ℕ → Node Entry
node_now h number = (world_now h).nodes (id_of h.settings number)

-- ---- which events may happen

-- The number of the node at which an event happens, where the event names it.
abbrev pub node_named : Event → Option ℕ
node_named (events.Timeout node) = Some node
node_named (events.Deliver message) = None
node_named (events.Submit node request) = Some node
node_named (events.Govern node request) = Some node
node_named (events.Reserve node) = Some node
node_named (events.Sign node) = Some node
node_named (events.Evidence node) = Some node
node_named (events.Replicate node to) = Some node
node_named (events.Advance node) = Some node
node_named (events.StepDown node to) = Some node
node_named (events.Restart node) = Some node
node_named (events.Install node from) = Some node

-- The index of a node among these.
abbrev pub index_of : List NodeId → NodeId → Option ℕ
index_of [] x = None
index_of (y ∷ ys) x = if same x y then Some 0 else option_map suc (index_of ys x)

-- A number of one of so many nodes.
abbrev pub is_number : ℕ → ℕ → Bool
is_number count number = nat_le 1 number && nat_le number count

-- The index of the node for which a message is, if there is one.
abbrev pub receiver_in : List NodeId → Option (Message Entry) → Option ℕ
receiver_in ids None = None
receiver_in ids (Some m) = index_of ids m.receiver

-- Each node that an event names is one of these. A message that it names was sent, to one of them.
abbrev pub is_among : List NodeId → List (Message Entry) → Event → Bool
is_among ids sent (events.Timeout node) = is_number (length ids) node
is_among ids sent (events.Deliver message) = is_some (receiver_in ids (slice_get sent message))
is_among ids sent (events.Submit node request) = is_number (length ids) node
is_among ids sent (events.Govern node request) = is_number (length ids) node
is_among ids sent (events.Reserve node) = is_number (length ids) node
is_among ids sent (events.Sign node) = is_number (length ids) node
is_among ids sent (events.Evidence node) = is_number (length ids) node
is_among ids sent (events.Replicate node to) =
    is_number (length ids) node && is_number (length ids) to
is_among ids sent (events.Advance node) = is_number (length ids) node
is_among ids sent (events.StepDown node to) =
    is_number (length ids) node && is_number (length ids) to
is_among ids sent (events.Restart node) = is_number (length ids) node
is_among ids sent (events.Install node from) =
    is_number (length ids) node && is_number (length ids) from

-- It is the number of a node that starts or joins.
abbrev pub has_node : Held → ℕ → Bool
has_node h number = is_number (length (node_ids h.settings)) number

-- An event may happen: its nodes and its message are of this world.
abbrev pub may_happen : Held → Event → Bool
may_happen h event = is_among (node_ids h.settings) (world_now h).sent event
