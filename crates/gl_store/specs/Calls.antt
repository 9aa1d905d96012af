-- What the calls of a store come to, in the words of the rules of consensus over a ledger's book.
use Rattle.std.specs.Prelude.{◌≡◌, ℕ, ◌+◌, List, [], ◌∷◌, ◌++◌, Option, Some, Result, Ok, Err, length}
use Rattle.gl_base.specs.declared.or_no_memory.OrNoMemory.{OrNoMemory}
use Rattle.gl_base.specs.declared.or_no_memory.OrNoMemory.TheVariants.{NoMemory, Fault}
use Rattle.gl_base.specs.declared.tx_id.TxId.{TxId}
use Rattle.gl_rules.specs.Identity.{NodeId}
use Rattle.gl_rules.specs.Node.{Node}
use Rattle.gl_entry.specs.declared.entry.Entry.{Entry}
use Rattle.gl_tx.specs.declared.request.Operation.{Operation}
use Rattle.gl_tx.specs.declared.request.Answer.{Answer}
use Rattle.gl_requests.specs.declared.request.GovernanceRequest.{GovernanceRequest}
use Rattle.gl_ledger.specs.declared.response.Response.TheVariants.{Replied}
use Rattle.gl_ledger.specs.declared.response.Rejection.{Rejection}
use Rattle.gl_ledger.specs.declared.response.Rejection.TheVariants.{ByStore}
use Rattle.gl_ledger.specs.Makers.{governance_made, request_result, govern_result}
use Rattle.gl_ledger.specs.declared.refusal.Refusal.{Refusal}
use Rattle.gl_ledger.specs.NodeKeys.{service_layers}
use Rattle.gl_ledger.specs.Audit.{LedgerFault, opened}
use Rattle.gl_ledger.specs.declared.breach.Broken.{Broken}
use Rattle.gl_store.specs.declared.not_opening.NotOpening.{NotOpening}
use Rattle.gl_audit.specs.Committed.{Held}

-- The node's log and its commit are what the store holds.
pub record IsNodeOf (held : Held) (n : Node Entry) : Type 0 where
  pub log : n.log ≡ held.ledger
  pub commit : n.commit ≡ held.commit

-- The store has one more entry, which has this identifier.
pub record Enters (old : Held) (view : ℕ) (e : Entry) (id : TxId) (new : Held) : Type 0 where
  pub named : id ≡ record { view = view; seqno = length old.ledger + 1 }
  pub entered : new ≡ record old { ledger = old.ledger ++ e ∷ [] }

-- The store made the entry of a request, with this identifier and reply.
pub record Executes (old : Held) (view : ℕ) (q : List Operation)
    (id : TxId) (reply : List Answer) (new : Held) : Type 0 where
  pub entry : Entry
  pub made : request_result old.ledger view q ≡ Ok (entry, Replied reply)
  pub enters : Enters old view entry id new

-- The store made the entry of a request of governance, with this identifier.
pub record Governs (old : Held) (view : ℕ) (g : GovernanceRequest) (id : TxId) (new : Held) :
    Type 0 where
  pub entry : Entry
  pub made : govern_result old.ledger view g ≡ Ok (governance_made old.ledger g entry)
  pub enters : Enters old view entry id new

-- A refusal is the expected one; memory may run out at any time.
abbrev pub Refuses : {X : Type 0} → Result X Rejection → OrNoMemory Refusal → Type 0
Refuses expected NoMemory = Unit {0}
Refuses expected (Fault why) = expected ≡ Err (ByStore why)

-- Entries are refused from the first on that breaks a rule, which has this seqno.
abbrev pub StopsAt : ℕ → Option LedgerFault → OrNoMemory Broken → Type 0
StopsAt seqno expected NoMemory = Unit {0}
StopsAt seqno expected (Fault broken) =
    expected ≡ Some (record { seqno = seqno; broken = broken })

-- The store holds an opening ledger, which a node signed, all of it committed.
pub record Opens (entries : List Entry) (held : Held) : Type 0 where
  pub node : NodeId
  pub opened_by : opened service_layers entries ≡ Ok node
  pub holds : held ≡ record { ledger = entries; commit = length entries }

-- Entries are no opening ledger, by the entry with this seqno.
abbrev pub IsNotOpened : List Entry → OrNoMemory NotOpening → Type 0
IsNotOpened entries NoMemory = Unit {0}
IsNotOpened entries (Fault fault) = opened service_layers entries ≡ Err fault.seqno
