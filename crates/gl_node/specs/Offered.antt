-- A snapshot that a node without entries is offered, and what its file keeps of it.
use Rattle.std.specs.Prelude.{◌≡◌, ℕ, List, Option, None, Some, drop, map, take}
use Rattle.gl_entry.specs.Entry.{frame_bytes}
use Rattle.gl_entry.specs.declared.entry.Entry.{Entry}
use Rattle.gl_rules.specs.Identity.{NodeId}
use Rattle.gl_rules.specs.Book.{Book}
use Rattle.gl_rules.specs.Node.{Node}
use Rattle.gl_snapshot_body.specs.declared.body.Body.{Body}
use Rattle.gl_journal.specs.Durable.{Durable, LogRules}
use Rattle.gl_replication.specs.Holding.{Holding}
use Rattle.gl_replication.specs.Offers.{Offers}
use Rattle.gl_replication.specs.Stands.{Reports, StandsFor}
use Rattle.gl_replication.specs.declared.node.Core.{Core}
use Rattle.gl_replication.specs.declared.snapshots.Offer.{Offer}
use Rattle.gl_node.specs.Persistence.{SnapshotOf}

-- A file takes in the snapshot that is held, if there is one, and reads its base and its view there.
abbrev pub IsTakenIn : LogRules → ℕ → ℕ → Option (List ℕ) → Type 0
IsTakenIn goes_on base view None = base ≡ 0
IsTakenIn goes_on base view (Some body) =
    goes_on.installs body ≡ Some (record { base = base; view = view })

-- What a file holds once it keeps a node that began from a snapshot: also its base, and the bytes
-- of the snapshot up to there.
abbrev pub kept_from_base : SnapshotOf → Durable → Node Entry → Durable
kept_from_base snapshot_of d n = record d {
  view = n.view;
  vote = n.vote;
  base = n.base;
  snapshot = snapshot_of (take n.base n.log);
  log = map frame_bytes (drop n.base n.log);
  reserved = n.reserved;
}

module _ {S Q G R A F : Type 0} (stands : S → Book Entry Q G R A F → Holding Entry → Type 0)
    (shows : Body → Book Entry Q G R A F → List Entry → Type 0) (offer : Offer) where
  -- The core stands for a node of some rules, under which another node offers this.
  pub record IsOffered (c : Core S Q G R A F) : Type 0 where
    pub rules : Book Entry Q G R A F
    pub me : NodeId
    pub node : Node Entry
    pub standing : StandsFor stands c rules me node
    pub from : Node Entry
    pub offers : Offers shows offer rules from

  -- This holds of each node that it stands for, and each other one that offers this.
  abbrev pub ReportsOffered : Core S Q G R A F →
      (Book Entry Q G R A F → NodeId → Node Entry → Node Entry → Type 0) → Type 0
  ReportsOffered c P =
      Reports stands c (λ b x n. (m : Node Entry) → Offers shows offer b m → P b x n m)
