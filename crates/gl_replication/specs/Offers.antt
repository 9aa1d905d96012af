-- What a node offers one that begins from its ledger, and what that one is then.
use Rattle.std.specs.Prelude.{◌≡◌, ◌≤◌, ◌-◌, ◌==◌, ℕ, List, Option, Some, None, true, length, take, if◌then◌else◌}
use Rattle.gl_entry.specs.declared.entry.Entry.{Entry}
use Rattle.gl_rules.specs.Book.{Book}
use Rattle.gl_rules.specs.Node.{Node}
use Rattle.gl_rules.specs.Log.{view_at}
use Rattle.gl_rules.specs.Steps.{update_view}
use Rattle.gl_rules.specs.Replication.{snapshot_of}
use Rattle.gl_snapshot_body.specs.Body.{body_bytes, is_counted, snapshot_limit}
use Rattle.gl_snapshot_body.specs.declared.body.Body.{Body}
use Rattle.gl_replication.specs.declared.done.Outcome.{Outcome}
use Rattle.gl_replication.specs.declared.done.Outcome.TheVariants as answers
use Rattle.gl_replication.specs.declared.snapshots.Offer.{Offer}
use Rattle.gl_replication.specs.declared.snapshots.Offer.TheVariants as offers

-- A body whose bytes can be written: its counts fit their fields, and it is within the limit of
-- snapshots.
pub record IsWritable (body : Body) : Type 0 where
  pub counted : is_counted body ≡ true
  pub within : length (body_bytes body) ≤ snapshot_limit

-- The bytes of the body that a store keeps behind which its ledger begins: none where it is one of
-- no entries.
abbrev pub kept_body : Body → Option (List ℕ)
kept_body body = if body.base == 0 then None else Some (body_bytes body)

-- What a store keeps so once an offer is answered with this: another body only where a node begins
-- from a snapshot.
abbrev pub kept_after_offer : {A : Type 0} → Offer → Outcome A → Option (List ℕ) →
    Option (List ℕ)
kept_after_offer (offers.Snapshot body) answers.Done kept = kept_body body
kept_after_offer (offers.Snapshot body) other kept = kept
kept_after_offer (offers.NoLaterSignature commit) outcome kept = kept

module _ {Q G R A F : Type 0} (shows : Body → Book Entry Q G R A F → List Entry → Type 0) where
  -- The body is a snapshot of a ledger, under some rules.
  abbrev pub IsShown : Body → Type 0
  IsShown body = (b : Book Entry Q G R A F) × (log : List Entry) × shows body b log

  -- A snapshot that is offered is one of a ledger.
  abbrev pub IsOffer : Offer → Type 0
  IsOffer (offers.Snapshot body) = IsShown body
  IsOffer (offers.NoLaterSignature commit) = Unit {0}

  -- A node offers this, where such a body is a snapshot of such a ledger, and can be written.
  abbrev pub Offers : Offer → Book Entry Q G R A F → Node Entry → Type 0
  Offers (offers.Snapshot body) b m =
      IsWritable body
      × (seqno : ℕ) × (snapshot_of b m ≡ Some seqno) × shows body b (take (seqno - 1) m.log)
  Offers (offers.NoLaterSignature commit) b m = (snapshot_of b m ≡ None) × (commit ≡ m.commit)

-- A node that begins with a ledger that came by a snapshot.
abbrev pub begun_from : {E Q G R A F : Type 0} → Book E Q G R A F → List E → Node E → Node E
begun_from b log n = record (update_view b (view_at b log (length log)) n) {
  log = log;
  base = length log;
  commit = length log;
}
