-- Which nodes were recorded, and the status of each (CCF documentation, "Nodes").
use Rattle.std.specs.Prelude.{ℕ, List, [], ◌∷◌, ◌++◌, Option, None, Some, Bool, true, false, ◌&&◌, ◌||◌, map, filter, find, flat_map, option_map, count_by, is_some, nat_lt, if◌then◌else◌}
use Rattle.std.specs.List.{list_any}
use Rattle.std.specs.Option.{option_or}
use Rattle.gl_base.specs.Bytes.{same_bytes}
use Rattle.gl_requests.specs.Encoding.{node_id}
use Rattle.gl_requests.specs.declared.genesis.NewNode.{NewNode}
use Rattle.gl_requests.specs.declared.action.Action.TheVariants as actions
use Rattle.gl_requests.specs.declared.request.GovernanceRequest.{GovernanceRequest}
use Rattle.gl_requests.specs.declared.request.GovernanceRequest.TheVariants as requests
use Rattle.gl_gov_rules.specs.declared.change.Recorded.{Recorded}
use Rattle.gl_gov_rules.specs.declared.change.RecordedNode.{RecordedNode}
use Rattle.gl_gov_rules.specs.declared.change.Change.{Change}
use Rattle.gl_gov_rules.specs.declared.change.Change.TheVariants as changes
use Rattle.gl_gov_rules.specs.declared.change.Changed.{Changed}
use Rattle.gl_gov_rules.specs.declared.request_facts.Mark.{Mark}
use Rattle.gl_gov_rules.specs.declared.refusal.NodeStatus.{NodeStatus}
use Rattle.gl_gov_rules.specs.declared.refusal.NodeStatus.TheVariants as statuses
use Rattle.gl_gov_rules.specs.History.{History}

-- The nodes that a request records, at its seqno. Those that a founding names are trusted from the
-- start.
abbrev pub recorded_node : ℕ → Bool → NewNode → RecordedNode
recorded_node seqno is_founding n =
    record { id = node_id n; seqno = seqno; is_founding = is_founding; node = n }

abbrev pub nodes_recorded : ℕ → GovernanceRequest → List RecordedNode
nodes_recorded seqno (requests.Genesis g) = map (recorded_node seqno true) g.nodes
nodes_recorded seqno (requests.Recover r) = map (recorded_node seqno true) r.nodes
nodes_recorded seqno (requests.Join n) = recorded_node seqno false n ∷ []
nodes_recorded seqno other = []

-- All nodes that were ever recorded, in that order. Those that are carried have the seqno 0.
unfoldable pub nodes : History → List RecordedNode
nodes h =
    h.carried.nodes ++ flat_map (λ (r : Recorded). nodes_recorded r.seqno r.request) h.requests

-- The node with this identifier, if it is recorded.
abbrev pub has_id : List ℕ → RecordedNode → Bool
has_id id n = same_bytes n.id id

unfoldable pub node : History → List ℕ → Option RecordedNode
node h id = find (has_id id) (nodes h)

-- The change is the applied trust of this node.
abbrev pub trusts : List ℕ → Change → Bool
trusts id (changes.Applied (actions.TransitionNodeToTrusted other)) = same_bytes id other
trusts id other = false

-- The change takes this node out of service: its applied removal, or a recovery.
abbrev pub retires : List ℕ → Change → Bool
retires id (changes.Recovered key) = true
retires id (changes.Applied (actions.RemoveNode other)) = same_bytes id other
retires id other = false

-- The request marks this node.
abbrev pub marks : List ℕ → GovernanceRequest → Bool
marks id (requests.Mark other) = same_bytes id other
marks id other = false

-- The first change after the node's own entry that took it out of service. One that is carried has
-- no entry of its own here, so that each removal and recovery comes after it.
unfoldable pub retirement : History → RecordedNode → Option Changed
retirement h n =
    find (λ (c : Changed). nat_lt n.seqno c.seqno && retires n.id c.change) h.changes

-- The node's Mark stands.
unfoldable pub is_marked : History → List ℕ → Bool
is_marked h id =
    list_any (λ (m : Mark). same_bytes id m.id) h.carried.marks
    || list_any (λ (r : Recorded). marks id r.request) h.requests

-- The node's trust was applied.
unfoldable pub is_trust_applied : History → List ℕ → Bool
is_trust_applied h id = list_any (λ (c : Changed). trusts id c.change) h.changes

-- A founding named the node, or its trust was applied. One that is carried as trusted counts as
-- named.
unfoldable pub was_trusted : History → RecordedNode → Bool
was_trusted h n = n.is_founding || is_trust_applied h n.id

-- A node is Marked where its Mark stands, else Retired where it was taken out of service, else
-- Trusted or Pending.
unfoldable pub node_status : History → RecordedNode → NodeStatus
node_status h n =
    if is_marked h n.id then statuses.Marked
    else (if is_some (retirement h n) then statuses.Retired
    else (if was_trusted h n then statuses.Trusted else statuses.Pending))

abbrev pub is_trusted_status : NodeStatus → Bool
is_trusted_status statuses.Trusted = true
is_trusted_status other = false

abbrev pub is_pending_status : NodeStatus → Bool
is_pending_status statuses.Pending = true
is_pending_status other = false

-- How many nodes are trusted, and how many pending.
unfoldable pub trusted_count : History → ℕ
trusted_count h = count_by (λ (n : RecordedNode). is_trusted_status (node_status h n)) (nodes h)

unfoldable pub pending_count : History → ℕ
pending_count h = count_by (λ (n : RecordedNode). is_pending_status (node_status h n)) (nodes h)

-- The trusted nodes, in the order in which they were recorded: a configuration.
unfoldable pub trusted : History → List (List ℕ)
trusted h =
    map (λ (n : RecordedNode). n.id)
    (filter (λ (n : RecordedNode). is_trusted_status (node_status h n)) (nodes h))

-- The seqno of the entry that retired a node, and that of its Mark, which is the base's seqno where
-- the Mark is carried.
abbrev pub removal_of : History → Option RecordedNode → Option ℕ
removal_of h None = None
removal_of h (Some n) = option_map (λ (c : Changed). c.seqno) (retirement h n)

unfoldable pub removal : History → List ℕ → Option ℕ
removal h id = removal_of h (node h id)

-- The seqno of the first mark of a node.
abbrev pub first_mark : List ℕ → List Mark → Option ℕ
first_mark id ms =
    option_map (λ (m : Mark). m.seqno) (find (λ (m : Mark). same_bytes id m.id) ms)

unfoldable pub mark : History → List ℕ → Option ℕ
mark h id =
    option_or (first_mark id h.carried.marks)
    (option_map (λ (r : Recorded). r.seqno)
    (find (λ (r : Recorded). marks id r.request) h.requests))
