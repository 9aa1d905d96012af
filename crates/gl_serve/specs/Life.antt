-- What a serve is to its node: events, one after the other. So the laws of a node's events are laws
-- of its serves.
use Rattle.std.specs.Prelude.{◌≡◌, ◌⊎◌, ◌≤◌, ◌<◌, ℕ, Bool, List, [], ◌∷◌, ◌++◌, None, Result, Ok, Err, IsTrue, All, AllPairs}
use Rattle.gl_entry.specs.declared.entry.Entry.{Entry}
use Rattle.gl_rules.specs.Identity.{NodeId}
use Rattle.gl_rules.specs.Node.{Node}
use Rattle.gl_ledger.specs.LedgerBook.{ServiceBook}
use Rattle.gl_outside.specs.Disk.{IsImage, Leaves, Step}
use Rattle.gl_outside.specs.Link.{Arrival, Exchange}
use Rattle.gl_journal.specs.Durable.{Durable, LogRules, durable, journal_header}
use Rattle.gl_journal.specs.Kept.{IsAtRest}
use Rattle.gl_journal.specs.Parts.{HasGate}
use Rattle.gl_replication.specs.Events.{rule_of}
use Rattle.gl_replication.specs.Holding.{Holding}
use Rattle.gl_replication.specs.Stands.{Reports, StandsFor}
use Rattle.gl_node.specs.Kept.{kept_after}
use Rattle.gl_node.specs.Leaves.{Served, Lost, leaf_of, leaves_through}
use Rattle.gl_node.specs.declared.fault.NodeFault.TheVariants.{Refused, DiskFault, Stopped}
use Rattle.gl_serve.specs.Serves.{Serves}
use Rattle.gl_serve.specs.declared.settings.Serving.{Serving}
use Rattle.gl_serve.specs.declared.settings.ServeEnd.{ServeEnd}
use Rattle.gl_serve.specs.Events.{Happens}
use Rattle.gl_serve.specs.NodeWork.{serving_rules}
use Rattle.gl_serve.specs.Types.{NodeDone, NodeEvent, NodeFaults, NodeHappening, NodeSeen}

-- An event at a node, with what it came to.
pub record Lived (S : Type 0) : Type 0 where
  pub event : NodeEvent S
  pub result : Result (NodeDone S) (NodeFaults S)

module _ {S : Type 0} where
  -- What such an event was to the node and its file. A refused one changed nothing, and at a node
  -- that had stopped nothing happened. After a fault of the disk the node does nothing more.
  abbrev pub happening : NodeEvent S → Result (NodeDone S) (NodeFaults S) → List (NodeHappening S)
  happening event (Ok done) = Served event ∷ []
  happening event (Err (Refused why)) = []
  happening event (Err DiskFault) = Lost event ∷ []
  happening event (Err (Stopped count)) = []

  abbrev pub happenings : List (Lived S) → List (NodeHappening S)
  happenings [] = []
  happenings (lived ∷ more) = happening lived.event lived.result ++ happenings more

  -- The node of the rules after an event, and what its file keeps then. After a fault of the disk
  -- that is what the file may keep.
  abbrev pub node_after : ServiceBook → NodeId → Node Entry → NodeEvent S →
      Result (NodeDone S) (NodeFaults S) → Node Entry
  node_after b x n event (Ok done) = (rule_of event b x n).node
  node_after b x n event (Err (Refused why)) = n
  node_after b x n event (Err DiskFault) = (rule_of event b x n).node
  node_after b x n event (Err (Stopped count)) = n

  abbrev pub kept_upto : Durable → Node Entry → Result (NodeDone S) (NodeFaults S) → Durable
  kept_upto d n (Ok done) = kept_after d n
  kept_upto d n (Err (Refused why)) = d
  kept_upto d n (Err DiskFault) = kept_after d n
  kept_upto d n (Err (Stopped count)) = d

  -- The same after all events.
  abbrev pub node_through : ServiceBook → NodeId → Node Entry → List (Lived S) → Node Entry
  node_through b x n [] = n
  node_through b x n (lived ∷ more) =
      node_through b x (node_after b x n lived.event lived.result) more

  abbrev pub kept_through : ServiceBook → NodeId → Node Entry → Durable → List (Lived S) → Durable
  kept_through b x n d [] = d
  kept_through b x n d (lived ∷ more) =
      let m = node_after b x n lived.event lived.result in
      kept_through b x m (kept_upto d m lived.result) more

  -- The leaves of the signatures that were told: those of events that were done.
  abbrev pub told_in : ServiceBook → NodeId → Node Entry → NodeEvent S →
      Result (NodeDone S) (NodeFaults S) → List ℕ
  told_in b x n event (Ok done) = leaf_of b x n event
  told_in b x n event (Err why) = []

  abbrev pub told_through : ServiceBook → NodeId → Node Entry → List (Lived S) → List ℕ
  told_through b x n [] = []
  told_through b x n (lived ∷ more) =
      told_in b x n lived.event lived.result
      ++ told_through b x (node_after b x n lived.event lived.result) more

  -- The file may keep this before one of the events, or after the last.
  abbrev pub MayKeep : ServiceBook → NodeId → Node Entry → Durable → List (Lived S) → Durable →
      Type 0
  MayKeep b x n d [] state = state ≡ d
  MayKeep b x n d (lived ∷ more) state =
      let m = node_after b x n lived.event lived.result in
      (state ≡ d) ⊎ MayKeep b x m (kept_upto d m lived.result) more state

-- Over a store that stands for ledgers, and a disk that tells its bytes, its history and its
-- faults.
module _ {D S : Type 0} (stands : S → ServiceBook → Holding Entry → Type 0) (goes_on : LogRules)
    (honest : Bool) (bytes : D → List ℕ) (past : D → List Step) (faults : D → ℕ) where
  -- From the one node to the other these events happened, one after the other.
  abbrev pub Lives : NodeSeen D S → List (Lived S) → NodeSeen D S → Type 0
  Lives first [] last = last ≡ first
  Lives first (lived ∷ more) last =
      (next : NodeSeen D S)
      × Happens stands goes_on honest bytes past faults lived.event first lived.result next
      × Lives next more last

  -- Whatever a serve does at its node, over an honest link or another, is such events.
  abbrev pub ServesByEvents : Type 0
  ServesByEvents =
      (reported : Bool) (settings : Serving) (first last : NodeSeen D S)
      (before after : List Exchange)
      (ahead left : List Arrival) (result : Result (ℕ × ℕ) ServeEnd) →
      Serves reported (serving_rules stands goes_on honest bytes past faults) settings
      first before ahead last after left result →
      (life : List (Lived S)) × Lives first life last

  -- Of a node of the rules that the first one stood for: the last one stands for what the events
  -- made of it, unless it stopped. No leaf of its key signed twice, as each is above those before
  -- it, and none that was used before.
  pub record IsLife (first : NodeSeen D S) (life : List (Lived S)) (last : NodeSeen D S)
      (b : ServiceBook) (x : NodeId) (n : Node Entry) : Type 0 where
    pub node : last.stopped ≡ None → StandsFor stands last.core b x (node_through b x n life)
    pub once : AllPairs (λ leaf later. leaf < later) (leaves_through b x n (happenings life))
    pub unused : All (λ leaf. n.used ≤ leaf) (leaves_through b x n (happenings life))

  -- So it is of each node.
  abbrev pub SignsOnce : Type 0
  SignsOnce =
      (first last : NodeSeen D S) (life : List (Lived S)) → Lives first life last →
      Reports stands first.core (IsLife first life last)

  -- Of a file at rest that held this: at every moment since then a stop leaves, with its closed
  -- gate, what it keeps before one of the events or after the last. In the end it keeps what the
  -- events made of it, unless the disk failed.
  pub record IsKeptThrough (first : NodeSeen D S) (life : List (Lived S)) (last : NodeSeen D S)
      (b : ServiceBook) (x : NodeId) (n : Node Entry) (d : Durable) : Type 0 where
    pub any_moment : IsAtRest (bytes first.disk) (past first.disk) →
        Leaves (λ image. HasGate journal_header image
        × (state : Durable) × MayKeep b x n d life state × (durable goes_on image ≡ Ok state))
        (past first.disk) (past last.disk)
    pub kept : last.stopped ≡ None →
        durable goes_on (bytes last.disk) ≡ Ok (kept_through b x n d life)

  -- So it is on an honest disk, of each node and of what its file held.
  abbrev pub KeepsThrough : Type 0
  KeepsThrough =
      IsTrue honest → (first last : NodeSeen D S) (life : List (Lived S)) → Lives first life last →
      Reports stands first.core (λ b x n. (d : Durable) →
      durable goes_on (bytes first.disk) ≡ Ok d → IsKeptThrough first life last b x n d)

  -- Each leaf that was told is above those before it, and was not used before. In whatever a stop
  -- leaves then, it is spent.
  pub record IsTold (first : NodeSeen D S) (life : List (Lived S)) (last : NodeSeen D S)
      (b : ServiceBook) (x : NodeId) (n : Node Entry) : Type 0 where
    pub once : AllPairs (λ leaf later. leaf < later) (told_through b x n life)
    pub unused : All (λ leaf. n.used ≤ leaf) (told_through b x n life)
    pub spent : (image : List ℕ) → IsImage (past last.disk) image →
        (state : Durable) × (durable goes_on image ≡ Ok state)
        × All (λ leaf. leaf < state.reserved) (told_through b x n life)

  -- So it is over an honest disk with a file at rest, of each node whose reserved leaves the file
  -- held.
  abbrev pub SpendsBeforeTelling : Type 0
  SpendsBeforeTelling =
      IsTrue honest → (first last : NodeSeen D S) (life : List (Lived S)) → Lives first life last →
      IsAtRest (bytes first.disk) (past first.disk) →
      Reports stands first.core (λ b x n. (d : Durable) →
      durable goes_on (bytes first.disk) ≡ Ok d → d.reserved ≡ n.reserved →
      IsTold first life last b x n)
