-- A node of a world over a file in memory that begins from what another one offers.
use Rattle.std.proofs.Common.{◌≡◌, Ok, ap, ◌∙◌}
use Rattle.gl_entry.specs.declared.entry.Entry.{Entry}
use Rattle.gl_rules.specs.Identity.{NodeId}
use Rattle.gl_rules.specs.Node.{Node}
use Rattle.gl_rules.specs.Replication.{install}
use Rattle.gl_journal.specs.Durable.{Durable}
use Rattle.gl_ledger.specs.LedgerBook.{ServiceBook}
use Rattle.gl_ledger.specs.declared.response.Response.{Response}
use Rattle.gl_ledger.specs.declared.response.Rejection.{Rejection}
use Rattle.gl_node.specs.Offered.{IsOffered, ReportsOffered, kept_from_base}
use Rattle.gl_replication.specs.Offers.{Offers}
use Rattle.gl_replication.specs.Stands as node_status
use Rattle.gl_replication.specs.Stands.{held_by}
use Rattle.gl_replication.specs.declared.snapshots.Offer.{Offer}
use Rattle.gl_rules.specs.Outcome.{Step}
use Rattle.gl_world.specs.WorldNodes as worlds
use Rattle.gl_world.specs.WorldNodes.{OfEach, ServiceDone, Stepped}
use Rattle.ccfg.specs.FileNodes.{IsFileIn, IsFileNode, SeenFileNode, StandsOverFile}
use Rattle.gl_store_book.specs.NodeFile.{opened}
use Rattle.gl_store_book.specs.Stands.{NodeStore, Shows, Stands, snapshot_below}
use Rattle.gl_store_book.proofs.HeldLedgers.{has_ledger}
use Rattle.ccfg.proofs.FileNodes.{file_kept}

-- what the rule makes of a node
abbrev pub begun : ServiceBook → Node Entry → Node Entry → Step Entry Response Rejection
begun b m n = install b m n

-- the node is offered this under the rules of a world
pub core_offered : (offer : Offer) (f : SeenFileNode) → worlds.IsOffered StandsOverFile Shows f offer → IsOffered Stands Shows offer f.core
core_offered offer f o = record { rules = o.rules; me = o.me; node = o.node; standing = o.standing.core; from = o.from; offers = o.offers }

-- what keeps the node that begins has the same key
began_in : (d : Durable) (m : Node Entry) (b : ServiceBook) (x : NodeId) → IsFileIn d b x → IsFileIn (kept_from_base snapshot_below d m) b x
began_in d m b x f = record { keys = f.keys; book = f.book; named = f.named; key = f.key }

module _ (offer : Offer) (old new : SeenFileNode) (is : IsFileNode old) where
  -- the file keeps of each node for which the core stood what the rule makes of it
  abbrev pub KeepsBegun : Type 0
  KeepsBegun = ReportsOffered Stands Shows offer old.core (λ b x n m. (e : Durable) → opened old.disk.bytes ≡ Ok e →
      opened new.disk.bytes ≡ Ok (kept_from_base snapshot_below e (begun b m n).node))

  -- and the core stands for that
  abbrev pub BeginsCore : ServiceDone NodeStore → Type 0
  BeginsCore done = ReportsOffered Stands Shows offer old.core (λ b x n m. node_status.Stepped Stands b x (begun b m n) done new.core)

  pub begun_steps : (done : ServiceDone NodeStore) → KeepsBegun → BeginsCore done →
      OfEach StandsOverFile old (λ b x n. (m : Node Entry) → Offers Shows offer b m → Stepped StandsOverFile b x (begun b m n) done new)
  begun_steps done kept steps b x n s m offers =
      let p = steps b x n s.core m offers in
      let next = (begun b m n).node in
      record {
        node = record {
          core = p.node;
          file = file_kept new.disk.bytes (kept_from_base snapshot_below is.state next) b x (kept b x n s.core m offers is.state is.file.opens)
              (began_in is.state next b x (s.file is.state is.file.opens));
        };
        outcome = p.outcome;
        sent = p.sent;
      }

  module _ (o : IsOffered Stands Shows offer old.core) (same : new.stopped ≡ old.stopped) where
    -- it serves on
    pub begins_on : (done : ServiceDone NodeStore) → KeepsBegun → BeginsCore done → IsFileNode new
    begins_on done kept steps =
        let next = (begun o.rules o.from o.node).node in
        record {
          serves = same ∙ is.serves;
          ledger = has_ledger new.core.book o.rules (held_by o.me next) (steps o.rules o.me o.node o.standing o.from o.offers).node.ledger;
          state = kept_from_base snapshot_below is.state next;
          file = record { opens = kept o.rules o.me o.node o.standing o.from o.offers is.state is.file.opens; kind = is.file.kind };
        }

    -- and where it refuses
    pub declines_on : new.disk.bytes ≡ old.disk.bytes → node_status.KeepsAll Stands old.core new.core → IsFileNode new
    declines_on bytes keeps = record {
      serves = same ∙ is.serves;
      ledger = has_ledger new.core.book o.rules (held_by o.me o.node) (keeps o.rules o.me o.node o.standing).ledger;
      state = is.state;
      file = record { opens = ap opened bytes ∙ is.file.opens; kind = is.file.kind };
    }
