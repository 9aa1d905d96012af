-- What an event may change of what a file keeps of a node.
use Rattle.std.specs.Prelude.{◌≡◌, ℕ, ◌≤◌, List, [], ◌∷◌, ◌++◌, length, max, take}
use Rattle.gl_base.specs.declared.tx_id.TxId.{TxId}
use Rattle.gl_entry.specs.declared.entry.Entry.{Entry}
use Rattle.gl_rules.specs.Identity.{NodeId}
use Rattle.gl_rules.specs.Book.{Book}
use Rattle.gl_rules.specs.Node.{Node}
use Rattle.gl_rules.specs.Message.{Append}
use Rattle.gl_rules.specs.Outcome.{Step, Refusal, Refused}
use Rattle.gl_rules.specs.World.{on_message}
use Rattle.gl_messages.specs.Message.{most_entries}
use Rattle.gl_election.specs.Bridge.{message_to}
use Rattle.gl_election.specs.Elections.{position}
use Rattle.gl_replication.specs.Replies.{KeepsUpTo}
use Rattle.gl_node.specs.declared.change.Change.{Change}
use Rattle.gl_node.specs.declared.change.Change.TheVariants as changes

-- The base and what stands up to it stay.
pub record KeepsBase (n m : Node Entry) : Type 0 where
  pub base : m.base ≡ n.base
  pub below : take n.base m.log ≡ take n.base n.log

-- Nothing is another.
pub record IsAsKept (n m : Node Entry) : Type 0 where
  pub view : m.view ≡ n.view
  pub vote : m.vote ≡ n.vote
  pub log : m.log ≡ n.log
  pub base : m.base ≡ n.base
  pub reserved : m.reserved ≡ n.reserved
  pub used : m.used ≡ n.used

-- The view may rise, the log may be cut, and a leaf may be reserved.
pub record IsTurned (n m : Node Entry) : Type 0 where
  pub view : n.view ≤ m.view
  pub log : m.log ≡ take (length m.log) n.log
  pub base : m.base ≡ n.base
  pub reserved : n.reserved ≤ m.reserved
  pub used : m.used ≡ n.used

-- One entry more, signed with a leaf or not.
pub record IsExtended (n m : Node Entry) : Type 0 where
  pub entry : Entry
  pub used : ℕ
  pub node : m ≡ record n { log = n.log ++ entry ∷ []; used = used }

-- A step adds one entry, unless it is refused.
abbrev pub Extends : {A F : Type 0} → Node Entry → Step Entry A F → Type 0
Extends {A} {F} n step =
    ((why : Refusal F) → step.outcome ≡ Refused why → ⊥) → IsExtended n step.node

-- A step that takes these entries of a leader of this view.
pub record TakesEntries {Q G R A F : Type 0} (b : Book Entry Q G R A F) (x : NodeId)
    (n : Node Entry) (view : ℕ) (prev : TxId) (es : List Entry) (step : Step Entry A F) : Type 0
  where
    pub from : NodeId
    pub commit : ℕ
    pub is : step ≡ on_message b (message_to x from view (Append (position prev) es commit)) n

-- A step leaves a node's log as it is up to a seqno, and this is that seqno or the base, whichever
-- is greater.
pub record KeepsAboveBase {A F : Type 0} (seqno : ℕ) (es : List Entry) (n : Node Entry)
    (step : Step Entry A F) : Type 0 where
  pub upto : ℕ
  pub keeps : KeepsUpTo upto es n step
  pub is : seqno ≡ max n.base upto

-- A rule may change so much at x.
abbrev pub MayChange : {Q G R A F : Type 0} →
    (Book Entry Q G R A F → NodeId → Node Entry → Step Entry A F) → NodeId → Change → Type 0
MayChange {Q} {G} {R} {A} {F} rule x changes.Nothing =
    (b : Book Entry Q G R A F) (n : Node Entry) → IsAsKept n (rule b x n).node
MayChange {Q} {G} {R} {A} {F} rule x changes.ElectionStep =
    (b : Book Entry Q G R A F) (n : Node Entry) → IsTurned n (rule b x n).node
MayChange {Q} {G} {R} {A} {F} rule x (changes.Entries view prev es) =
    (b : Book Entry Q G R A F) (n : Node Entry) → TakesEntries b x n view prev es.now (rule b x n)
MayChange {Q} {G} {R} {A} {F} rule x changes.Entry =
    (b : Book Entry Q G R A F) (n : Node Entry) → Extends n (rule b x n)

-- It brings so many entries at most as one message carries.
abbrev pub BringsFew : Change → Type 0
BringsFew changes.Nothing = Unit {0}
BringsFew changes.ElectionStep = Unit {0}
BringsFew (changes.Entries view prev es) = length es.now ≤ most_entries
BringsFew changes.Entry = Unit {0}
