-- A core over a file that keeps the node that it stands for.
use Rattle.std.proofs.Common.{◌≡◌, ℕ, Bool, List, Ok, IsTrue, drop, map, take, sym, ap, ◌∙◌}
use Rattle.gl_entry.specs.Entry.{frame_bytes}
use Rattle.gl_entry.specs.declared.entry.Entry.{Entry}
use Rattle.gl_rules.specs.Identity.{NodeId}
use Rattle.gl_rules.specs.Book.{Book}
use Rattle.gl_rules.specs.Node.{Node}
use Rattle.gl_rules.specs.Replication.{restart}
use Rattle.gl_outside.specs.Disk.{Step}
use Rattle.gl_journal.specs.Durable.{Durable, LogRules, durable, leaf_count}
use Rattle.gl_journal.specs.Kept.{IsKept}
use Rattle.gl_journal.specs.declared.journal.Journal.{Journal}
use Rattle.gl_replication.specs.Holding.{Holding}
use Rattle.gl_replication.specs.Stands.{StandsFor}
use Rattle.gl_replication.specs.declared.node.Core.{Core}
use Rattle.gl_node.specs.Kept.{Kept}
use Rattle.gl_node.specs.Persistence.{HoldsAbove, IsKeptFile, IsServing, SnapshotOf}
use Rattle.gl_node.proofs.Standings.{held_of, reserved_of, view_of, vote_of}

-- a file with this durable state keeps a node
pub record IsFileOfNode (snapshot_of : SnapshotOf) (d : Durable) (n : Node Entry) : Type 0 where
  pub view : d.view ≡ n.view
  pub vote : d.vote ≡ n.vote
  pub base : d.base ≡ n.base
  pub snapshot : d.snapshot ≡ snapshot_of (take n.base n.log)
  pub log : d.log ≡ map frame_bytes (drop n.base n.log)
  pub reserved : d.reserved ≡ n.reserved

-- a restart changes nothing of that
pub restart_kept : {Q G R A F : Type 0} (b : Book Entry Q G R A F) (snapshot_of : SnapshotOf) (d : Durable) (n : Node Entry) → IsFileOfNode snapshot_of d n → IsFileOfNode snapshot_of d (restart {A = A} {F = F} b n).node
unfolding restart
restart_kept b snapshot_of d n f = record { view = f.view; vote = f.vote; base = f.base; snapshot = f.snapshot; log = f.log; reserved = f.reserved }

module _ {D S Q G R A F : Type 0} (stands : S → Book Entry Q G R A F → Holding Entry → Type 0) (held : S → Kept) (snapshot_of : SnapshotOf) (goes_on : LogRules) (honest : Bool) (bytes : D → List ℕ) (past : D → List Step) where
  pub kept_by : (c : Core S Q G R A F) (j : Journal D) (b : Book Entry Q G R A F) (x : NodeId) (n : Node Entry) → StandsFor stands c b x n → HoldsAbove stands held snapshot_of c.book →
      (d : Durable) → IsKept bytes past j → durable goes_on (bytes j.gated.disk) ≡ Ok d → IsFileOfNode snapshot_of d n → leaf_count d ≡ b.leaves x → IsKeptFile stands held snapshot_of goes_on honest bytes past c j (b.leaves x)
  kept_by c j b x n s above d kept opens f leaves = record {
    kept = kept;
    state = d;
    opens = opens;
    keeps = record {
      view = f.view ∙ sym (view_of stands s);
      vote = f.vote ∙ sym (vote_of stands s);
      base = f.base ∙ (held_of stands held snapshot_of above s).base;
      snapshot = f.snapshot ∙ (held_of stands held snapshot_of above s).snapshot;
      log = f.log ∙ ap (map frame_bytes) (held_of stands held snapshot_of above s).entries;
      reserved = f.reserved ∙ sym (reserved_of stands s);
    };
    leaves = leaves;
  }

  pub serving_by : (c : Core S Q G R A F) (j : Journal D) (b : Book Entry Q G R A F) (x : NodeId) (n : Node Entry) → StandsFor stands c b x n → HoldsAbove stands held snapshot_of c.book →
      (d : Durable) → (IsTrue honest → IsKept bytes past j × (durable goes_on (bytes j.gated.disk) ≡ Ok d)) → IsFileOfNode snapshot_of d n → leaf_count d ≡ b.leaves x → IsServing stands held snapshot_of goes_on honest bytes past c j
  serving_by c j b x n s above d opened f leaves = record {
    some = record { rules = b; me = x; node = n; standing = s };
    above = above;
    file = λ h. kept_by c j b x n s above d (opened h).0 (opened h).1 f leaves;
  }
