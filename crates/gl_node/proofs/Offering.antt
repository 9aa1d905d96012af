-- What is offered to a node.
use Rattle.std.proofs.Common.{◌≡◌, ℕ, ◌-◌, ◌+◌, ◌<◌, ◌++◌, List, [], ◌∷◌, length, take, Option, Some, None, refl, ap, arith, length-append}
use Rattle.gl_base.specs.LittleEndian.{little_endian}
use Rattle.gl_base.proofs.LittleEndianLaws.{length-little_endian}
use Rattle.gl_entry.specs.declared.entry.Entry.{Entry}
use Rattle.gl_rules.specs.Book.{Book}
use Rattle.gl_rules.specs.Node.{Node}
use Rattle.gl_rules.specs.Outcome.{Step}
use Rattle.gl_rules.specs.Replication.{install, snapshot_of}
use Rattle.gl_snapshot_body.specs.declared.body.Body.{Body}
use Rattle.gl_journal.specs.Records.{Install, records_bytes, then_some}
use Rattle.gl_journal.specs.Durable.{Durable, LogRules, fold_record, fold_records}
use Rattle.gl_replication.specs.Offers.{IsOffer, Offers}
use Rattle.gl_replication.specs.declared.snapshots.Offer.{Offer}
use Rattle.gl_replication.specs.declared.snapshots.Offer.TheVariants as offers
use Rattle.gl_replication.proofs.Installs.{install_idle, install_none}

-- a snapshot that is offered is one of a ledger
pub is_offer : {Q G R A F : Type 0} (shows : Body → Book Entry Q G R A F → List Entry → Type 0) (offer : Offer) (b : Book Entry Q G R A F) (m : Node Entry) → Offers shows offer b m → IsOffer shows offer
is_offer shows (offers.Snapshot body) b m offered = (b, take (offered.1 - 1) m.log, offered.3)
is_offer shows (offers.NoLaterSignature commit) b m offered = tt

-- the batch of one snapshot
pub batch_size : (body : List ℕ) → length (records_bytes (Install body ∷ [])) ≡ 5 + length body
batch_size body = omega (arith, length-append (little_endian 4 (length body) ++ body) [], length-append (little_endian 4 (length body)) body, length-little_endian 4 (length body))

pub batch_folds : (goes_on : LogRules) (d next : Durable) (body : List ℕ) → fold_record goes_on d (Install body) ≡ Some next → fold_records goes_on d (Install body ∷ []) ≡ Some next
batch_folds goes_on d next body is = ap (λ (o : Option Durable). then_some o (λ n. Some n)) is

-- an offer that leaves a node as it is
module _ {E Q G R A F : Type 0} (b : Book E Q G R A F) (m n : Node E) where
  pub stays_idle : 0 < length n.log → (install b m n).node ≡ n
  stays_idle long = ap (λ (t : Step E A F). t.node) (install_idle b m n long)

  pub stays_without : length n.log ≡ 0 → snapshot_of b m ≡ None → (install b m n).node ≡ n
  stays_without empty none = ap (λ (t : Step E A F). t.node) (install_none b m n empty none)

pub no_entry : {A : Type 0} (l : List A) → length l ≡ 0 → l ≡ []
no_entry [] e = refl
no_entry (a ∷ l) e = absurd (cc)
