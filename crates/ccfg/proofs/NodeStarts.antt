-- What a node that begins to serve has of its file: the key, the leaves, and the ledger.
use Rattle.std.proofs.Common.{◌≡◌, ◌⊎◌, ℕ, ◌^◌, ◌==◌, List, [], Option, None, Some, Bool, true, false, nat_lt, if◌then◌else◌, Result, Ok, Err, IsTrue, refl, subst, ◌∙◌}
use Rattle.gl_entry.specs.SourceBytes.{OfBytes}
use Rattle.gl_entry.specs.declared.entry.Entry.{Entry}
use Rattle.gl_journal.specs.Durable.{Durable}
use Rattle.gl_journal.specs.Records.{key_kind_tag}
use Rattle.gl_journal.specs.declared.key.KeyKind.TheVariants as kinds
use Rattle.gl_ledger.specs.LedgerBook.{ServiceBook}
use Rattle.gl_outside.specs.Disk.{Step}
use Rattle.gl_rules.specs.Node.{Node}
use Rattle.gl_rules.specs.Replication.{restart}
use Rattle.gl_rules.specs.Steps.{lead_if}
use Rattle.gl_rules.specs.World as world
use Rattle.gl_serve.specs.Types.{NodeSeen}
use Rattle.gl_snapshot.specs.declared.fault.SnapshotFault.{SnapshotFault}
use Rattle.gl_snapshot.specs.declared.snapshot.Snapshot.{Snapshot}
use Rattle.gl_store_book.specs.AtOpening.{leads_at_opening, opened_state, opening_size, restarted_node}
use Rattle.gl_store_book.specs.FromSnapshot.{installed_state, source_of, verified_snapshot}
use Rattle.gl_store_book.specs.NodeFile.{has_ledger, opened}
use Rattle.gl_store_book.specs.ServiceStart.{start_in}
use Rattle.gl_store_book.specs.Stands.{HasLedger as IsOfLedger, NodeStore}
use Rattle.gl_store_book.specs.declared.node_file.fault.OpeningFault.TheVariants as openings
use Rattle.gl_store_book.specs.declared.node_file.from_snapshot.SourceKind.{SourceKind}
use Rattle.gl_store_book.specs.declared.node_file.from_snapshot.SourceKind.TheVariants as sources
use Rattle.ccfg.specs.declared.fault.BeginFault.{BeginFault}
use Rattle.ccfg.specs.declared.fault.BeginFault.TheVariants as faults
use Rattle.ccfg.specs.Nodes.{BeginsBy, Beginning, HasLedger, MayGive, OfLedger, OfOpened, begin_behind, begin_by, begin_from, begin_with, beginning, beginning_of, opened_by, reopened}
use Rattle.ccfg.proofs.NodeMoments.{raised_reserved}

-- it has the leaves of its file, and counts all of them as used
pub record StartLeaves (d : Durable) (start : Beginning) : Type 0 where
  pub reserved : start.state.reserved ≡ d.reserved
  pub used : (b : ServiceBook) (below : List Entry) → (start.node b below).used ≡ d.reserved
  pub kept : (b : ServiceBook) (below : List Entry) → (start.node b below).reserved ≡ d.reserved

restarted_used : (b : ServiceBook) (below : List Entry) (d : Durable) → (restarted_node b below d).used ≡ d.reserved
unfolding restart
restarted_used b below d = refl

restarted_reserved : (b : ServiceBook) (below : List Entry) (d : Durable) → (restarted_node b below d).reserved ≡ d.reserved
unfolding restart
restarted_reserved b below d = refl

lead_used : (b : ServiceBook) (leads : Bool) (n : Node Entry) → (lead_if b leads n).used ≡ n.used
lead_used b true n = refl
lead_used b false n = refl

lead_reserved : (b : ServiceBook) (leads : Bool) (n : Node Entry) → (lead_if b leads n).reserved ≡ n.reserved
lead_reserved b true n = refl
lead_reserved b false n = refl

module _ (d : Durable) where
  abbrev Good : Result Beginning BeginFault → Type 0
  Good (Ok start) = StartLeaves d start
  Good (Err fault) = Unit {0}

  reopened_leaves : StartLeaves d (reopened d)
  reopened_leaves = record { reserved = refl; used = λ b below. restarted_used b below d; kept = λ b below. restarted_reserved b below d }

  opened_leaves : (s : world.Start Entry) → StartLeaves d (opened_by s d)
  opened_leaves s = record {
    reserved = refl;
    used = λ b below. lead_used b (leads_at_opening s d) (restarted_node b [] (opened_state s d)) ∙ restarted_used b [] (opened_state s d);
    kept = λ b below. lead_reserved b (leads_at_opening s d) (restarted_node b [] (opened_state s d)) ∙ restarted_reserved b [] (opened_state s d);
  }

  behind_leaves : (s : Snapshot) → StartLeaves d (reopened (installed_state s.body d))
  behind_leaves s = record {
    reserved = raised_reserved s.body.view d;
    used = λ b below. restarted_used b below (installed_state s.body d) ∙ raised_reserved s.body.view d;
    kept = λ b below. restarted_reserved b below (installed_state s.body d) ∙ raised_reserved s.body.view d;
  }

  by_if : (c : Bool) (x y : Result Beginning BeginFault) → Good x → Good y → Good (if c then x else y)
  by_if true x y first second = first
  by_if false x y first second = second

  with_start : (start : Result (world.Start Entry) ℕ) → Good (begin_with d start)
  with_start (Err seqno) = tt
  with_start (Ok s) = by_if (nat_lt (opening_size s d) (2 ^ 32)) (Ok (opened_by s d)) (Err (faults.Opening (openings.TooLarge (opening_size s d)))) (opened_leaves s) tt

  behind_one : (r : Result Snapshot SnapshotFault) → Good (begin_behind d r)
  behind_one (Err fault) = tt
  behind_one (Ok s) = behind_leaves s

  from_source : (given : List ℕ) (kind : SourceKind) → Good (begin_by d given kind)
  from_source given sources.Nothing = reopened_leaves
  from_source given sources.Ledger = with_start (start_in given)
  from_source given sources.Snapshot = behind_one (verified_snapshot given)

  pub start_leaves : (given : List ℕ) (start : Beginning) → beginning_of (Ok d) given ≡ Ok start → StartLeaves d start
  start_leaves given start is =
      subst Good is
      (by_if (key_kind_tag kinds.Node == key_kind_tag d.key.kind) (beginning d given) (Err (faults.Opening (openings.KeyKind kinds.Node d.key.kind)))
      (by_if (has_ledger d) (Ok (reopened d)) (begin_from d given) reopened_leaves (from_source given (source_of given))) tt)

-- where the snapshot behind which it begins stands for a ledger the node's does
module _ {D : Type 0} (honest : Bool) (bytes : D → List ℕ) (past : D → List Step) (faults_of : D → ℕ) (first : NodeSeen D NodeStore) where
  abbrev HasOne : Type 0
  HasOne = IsOfLedger first.core.book.ledger.snapshot

  begun_of : (held : List ℕ) (source : Option (List ℕ)) (given : List ℕ) → OfLedger held source → MayGive source given → BeginsBy honest bytes past faults_of (opened held) given first → HasOne
  begun_of held source given of may by = by.began.ledger (of given may by.start by.begins)

  given_of : (held : List ℕ) (source : Option (List ℕ)) (ended : Bool) → OfLedger held source →
      OfBytes source (λ given. BeginsBy honest bytes past faults_of (opened held) given first × (HasLedger (opened held) ⊎ (ended ≡ true))) → HasOne
  given_of held None ended of begins = begun_of held None begins.0 of tt begins.1.0
  given_of held (Some given) ended of begins = begun_of held (Some given) given of refl begins.0

  pub serves_ledger : (shown : Bool) (held : List ℕ) (source : Option (List ℕ)) (ended : Bool) → IsTrue shown → OfLedger held source →
      OfOpened shown held (λ opens. OfBytes source (λ given. BeginsBy honest bytes past faults_of opens given first × (HasLedger opens ⊎ (ended ≡ true)))) → HasOne
  serves_ledger true held source ended is of begins = given_of held source ended of begins
  serves_ledger false held source ended is of begins = absurd (let no : ◌≡◌ {A = Bool} false true = is in cc)
