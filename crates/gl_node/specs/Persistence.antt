-- A node of some rules over a file that keeps it.
use Rattle.std.specs.Prelude.{◌≡◌, ◌≤◌, ℕ, Bool, List, Option, None, Some, Ok, IsTrue, drop, length, map, take}
use Rattle.gl_entry.specs.Entry.{frame_bytes}
use Rattle.gl_entry.specs.declared.entry.Entry.{Entry}
use Rattle.gl_rules.specs.Identity.{NodeId}
use Rattle.gl_rules.specs.Book.{Book}
use Rattle.gl_rules.specs.Node.{Node}
use Rattle.gl_outside.specs.Disk.{Step}
use Rattle.gl_journal.specs.Durable.{Durable, LogRules, durable, leaf_count}
use Rattle.gl_journal.specs.Kept.{IsKept}
use Rattle.gl_journal.specs.declared.journal.Journal.{Journal}
use Rattle.gl_replication.specs.Holding.{Holding}
use Rattle.gl_replication.specs.Standing.{At}
use Rattle.gl_replication.specs.Stands.{StandsFor}
use Rattle.gl_replication.specs.declared.node.Core.{Core}
use Rattle.gl_node.specs.Kept.{Kept, keeping}

-- The bytes of the snapshot that stands for the entries of a ledger up to a base, if one does.
abbrev pub SnapshotOf : Type 0
SnapshotOf = List Entry → Option (List ℕ)

-- What is held of a ledger: the snapshot of the entries up to its base, and the entries above.
pub record IsHeldOf (snapshot_of : SnapshotOf) (kept : Kept) (h : Holding Entry) : Type 0 where
  pub base : h.base ≡ kept.base
  pub within : h.base ≤ length h.log
  pub entries : drop h.base h.log ≡ kept.entries
  pub snapshot : snapshot_of (take h.base h.log) ≡ kept.snapshot

module _ {S Q G R A F : Type 0} (held : S → Kept) where
  -- What a file holds once it keeps what a core has.
  abbrev pub kept_of : Durable → Core S Q G R A F → Durable
  kept_of d c = keeping d c.peer.view c.peer.vote (held c.book).entries c.leaves.reserved

  -- A file with this durable state keeps a core.
  pub record IsFileOf (d : Durable) (c : Core S Q G R A F) : Type 0 where
    pub view : d.view ≡ c.peer.view
    pub vote : d.vote ≡ c.peer.vote
    -- what is held of its ledger
    pub base : d.base ≡ (held c.book).base
    pub snapshot : d.snapshot ≡ (held c.book).snapshot
    pub log : d.log ≡ map frame_bytes (held c.book).entries
    pub reserved : d.reserved ≡ c.leaves.reserved

  -- These bytes open to what keeps a core.
  abbrev pub OpensToCore : LogRules → List ℕ → Core S Q G R A F → Type 0
  OpensToCore goes_on bytes c = (d : Durable) × (durable goes_on bytes ≡ Ok d) × IsFileOf d c

module _ {S Q G R A F : Type 0} (stands : S → Book Entry Q G R A F → Holding Entry → Type 0) where
  -- The core stands for a node of some rules.
  pub record StandsForSome (c : Core S Q G R A F) : Type 0 where
    pub rules : Book Entry Q G R A F
    pub me : NodeId
    pub node : Node Entry
    pub standing : StandsFor stands c rules me node

  -- Of whatever ledger a store stands for it holds this.
  abbrev pub HoldsAbove : (S → Kept) → SnapshotOf → S → Type 0
  HoldsAbove held snapshot_of s = At stands s (λ b h. IsHeldOf snapshot_of (held s) h)

-- Over a disk with these bytes and this history.
module _ {D S Q G R A F : Type 0} (stands : S → Book Entry Q G R A F → Holding Entry → Type 0)
    (held : S → Kept) (snapshot_of : SnapshotOf) (goes_on : LogRules) (honest : Bool)
    (bytes : D → List ℕ) (past : D → List Step) where
  -- The journal's file is settled, and keeps the core, whose key has so many leaves.
  pub record IsKeptFile (c : Core S Q G R A F) (j : Journal D) (count : ℕ) : Type 0 where
    pub kept : IsKept bytes past j
    pub state : Durable
    pub opens : durable goes_on (bytes j.gated.disk) ≡ Ok state
    pub keeps : IsFileOf held state c
    pub leaves : leaf_count state ≡ count

  -- The core stands for a node of some rules, and if the disk is honest the file keeps it.
  pub record IsServing (c : Core S Q G R A F) (j : Journal D) : Type 0 where
    pub some : StandsForSome stands c
    pub above : HoldsAbove stands held snapshot_of c.book
    pub file : IsTrue honest → IsKeptFile c j (some.rules.leaves some.me)

  -- So it is until the disk fails.
  abbrev pub Serves : Core S Q G R A F → Journal D → Option ℕ → Type 0
  Serves c j None = IsServing c j
  Serves c j (Some count) = StandsForSome stands c

  -- It serves where there is a ledger with its snapshot. Until the disk fails the journal's file is
  -- settled in any case.
  pub record IsReplica (has_ledger : Option (List ℕ) → Type 0) (base_snapshot : S → Option (List ℕ))
      (c : Core S Q G R A F) (j : Journal D) (stopped : Option ℕ) : Type 0 where
    pub settled : IsTrue honest → stopped ≡ None → IsKept bytes past j
    pub serves : has_ledger (base_snapshot c.book) → Serves c j stopped
