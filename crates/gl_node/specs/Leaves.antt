-- The leaves with which a node signs, through events, stops and reopenings of its file.
use Rattle.std.specs.Prelude.{ℕ, ◌≤◌, ◌<◌, List, [], ◌∷◌, ◌++◌, All, AllPairs}
use Rattle.gl_entry.specs.declared.entry.Entry.{Entry}
use Rattle.gl_rules.specs.Identity.{NodeId}
use Rattle.gl_rules.specs.Book.{Book}
use Rattle.gl_rules.specs.Node.{Node}
use Rattle.gl_rules.specs.Outcome.{Outcome, Done, Idle, BecameCandidate, BecameLeader, Accepted, Signed, Committed, Refused}
use Rattle.gl_rules.specs.Replication.{install, restart}
use Rattle.gl_rules.specs.Requests.{sign}
use Rattle.gl_replication.specs.Events.{rule_of}
use Rattle.gl_replication.specs.declared.event.Event.{Event}
use Rattle.gl_replication.specs.declared.event.Event.TheVariants as events

-- What happens to a node and its file. A refused event changes nothing, and isn't told of here.
pub data Happening (S Q G R A F : Type 0) : Type 0 where
  -- an event is done, and kept
  Served : (event : Event S Q G R A F) → Happening S Q G R A F
  -- a fault of the disk or a stop after an event, which the file doesn't keep, and it is opened
  -- again
  Lost : (event : Event S Q G R A F) → Happening S Q G R A F
  -- the same, and the file keeps the event
  Kept : (event : Event S Q G R A F) → Happening S Q G R A F
  -- it begins from the snapshot of another node, and that is kept
  Installed : (from : Node Entry) → Happening S Q G R A F
  -- a fault of the disk or a stop after that, and the file keeps it and is opened again. Where the
  -- file doesn't keep it, it is a stop
  InstalledKept : (from : Node Entry) → Happening S Q G R A F
  -- a stop between events, and the file is opened again
  Stopped : Happening S Q G R A F

-- This leaf, if a signature was made.
abbrev pub leaf_if_signed : {A F : Type 0} → ℕ → Outcome A F → List ℕ
leaf_if_signed leaf (Signed view seqno) = leaf ∷ []
leaf_if_signed leaf Done = []
leaf_if_signed leaf Idle = []
leaf_if_signed leaf BecameCandidate = []
leaf_if_signed leaf BecameLeader = []
leaf_if_signed leaf (Accepted view seqno answer) = []
leaf_if_signed leaf (Committed view seqno) = []
leaf_if_signed leaf (Refused why) = []

module _ {S Q G R A F : Type 0} (b : Book Entry Q G R A F) (x : NodeId) where
  -- The leaf with which an event signs, if it does: the first that isn't used.
  abbrev pub leaf_of : Node Entry → Event S Q G R A F → List ℕ
  leaf_of n events.Sign = leaf_if_signed n.used (sign b x n).outcome
  leaf_of n events.Timeout = []
  leaf_of n (events.Message m) = []
  leaf_of n (events.Submit request) = []
  leaf_of n (events.Govern request) = []
  leaf_of n events.Reserve = []
  leaf_of n events.Evidence = []
  leaf_of n (events.Replicate to) = []
  leaf_of n events.Advance = []
  leaf_of n (events.StepDown to) = []

  -- The same of whatever happens: also a signature that is lost was made.
  abbrev pub leaf_in : Node Entry → Happening S Q G R A F → List ℕ
  leaf_in n (Served event) = leaf_of n event
  leaf_in n (Lost event) = leaf_of n event
  leaf_in n (Kept event) = leaf_of n event
  leaf_in n (Installed from) = []
  leaf_in n (InstalledKept from) = []
  leaf_in n Stopped = []

  -- The node then: a file that is opened again gives the node that the rule of restarts leaves.
  abbrev pub node_after : Node Entry → Happening S Q G R A F → Node Entry
  node_after n (Served event) = (rule_of event b x n).node
  node_after n (Lost event) = (restart {A = A} {F = F} b n).node
  node_after n (Kept event) = (restart {A = A} {F = F} b (rule_of event b x n).node).node
  node_after n (Installed from) = (install {A = A} {F = F} b from n).node
  node_after n (InstalledKept from) =
      (restart {A = A} {F = F} b (install {A = A} {F = F} b from n).node).node
  node_after n Stopped = (restart {A = A} {F = F} b n).node

  -- The leaves of all signatures, in their order.
  abbrev pub leaves_through : Node Entry → List (Happening S Q G R A F) → List ℕ
  leaves_through n [] = []
  leaves_through n (h ∷ hs) = leaf_in n h ++ leaves_through (node_after n h) hs

module _ (S Q G R A F : Type 0) where
  -- No leaf signs twice, whatever happens: each is above all before it. None of them was used where
  -- it began.
  abbrev pub NoLeafTwice : Type 0
  NoLeafTwice =
      (b : Book Entry Q G R A F) (x : NodeId) (n : Node Entry) (hs : List (Happening S Q G R A F)) →
      n.used ≤ n.reserved →
      AllPairs (λ leaf later. leaf < later) (leaves_through b x n hs)
      × All (λ leaf. n.used ≤ leaf) (leaves_through b x n hs)

  -- A leaf was reserved in the file before it signs, and stays so.
  abbrev pub ReservedBefore : Type 0
  ReservedBefore =
      (b : Book Entry Q G R A F) (x : NodeId) (n : Node Entry) (event : Event S Q G R A F) →
      n.used ≤ n.reserved → n.reserved ≤ (rule_of event b x n).node.reserved
      × All (λ leaf. leaf < n.reserved) (leaf_of b x n event)
