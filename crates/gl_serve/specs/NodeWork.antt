-- What a node does with payloads, and with the events of its own.
use Rattle.std.specs.Prelude.{◌≡◌, ◌⊎◌, ℕ, Bool, true, false, not, List, [], ◌∷◌, Option, None, Some, Result, length}
use Rattle.gl_entry.specs.declared.entry.Entry.{Entry}
use Rattle.gl_rules.specs.Log.{entry_at, is_signature_in}
use Rattle.gl_rules.specs.Node.{Node}
use Rattle.gl_rules.specs.Replication.{is_evidence_due, snapshot_of}
use Rattle.gl_rules.specs.Safety.{reported_status}
use Rattle.gl_ledger.specs.LedgerBook.{ServiceBook}
use Rattle.gl_messages.specs.declared.answer.AnswerBody.{AnswerBody}
use Rattle.gl_messages.specs.declared.answer.AnswerBody.TheVariants as content
use Rattle.gl_outside.specs.Disk.{Step}
use Rattle.gl_journal.specs.Durable.{LogRules}
use Rattle.gl_receipt.specs.Made.{receipt_of}
use Rattle.gl_replication.specs.declared.event.Event.TheVariants as events
use Rattle.gl_replication.specs.Holding.{Holding}
use Rattle.gl_replication.specs.Replies.{is_leading}
use Rattle.gl_replication.specs.Stands.{Reports}
use Rattle.gl_answers.specs.Receipts.{receipts_of}
use Rattle.gl_answers.specs.Snapshots.{Gives}
use Rattle.gl_answers.specs.declared.part.Part.{Part}
use Rattle.gl_serve.specs.Rules.{Rules}
use Rattle.gl_serve.specs.declared.node.OwnEvent.{OwnEvent}
use Rattle.gl_serve.specs.declared.node.OwnEvent.TheVariants as own
use Rattle.gl_serve.specs.declared.node.Outcome.{Outcome}
use Rattle.gl_serve.specs.declared.node.Outcome.TheVariants as outcomes
use Rattle.gl_serve.specs.ClientAnswers.{Answers, IsAnswered, Says, answers, message_outcome, nothing, own_outcome, part_answer_body, receipt_answer_body}
use Rattle.gl_serve.specs.Events.{Happens}
use Rattle.gl_serve.specs.Payloads.{payload_in}
use Rattle.gl_serve.specs.Types.{NodeDone, NodeEvent, NodeFaults, NodeSeen}
use Rattle.gl_serve.specs.declared.payload.Ask.{Ask}
use Rattle.gl_serve.specs.declared.payload.Ask.TheVariants as asks
use Rattle.gl_serve.specs.declared.payload.Payload.{Payload}
use Rattle.gl_serve.specs.declared.payload.Payload.TheVariants as payloads

-- What is reported is a part of the snapshot that the node offers, or that it offers none; or that
-- memory ran out.
abbrev pub SaysPart : ServiceBook → Node Entry → ℕ → AnswerBody → Type 0
SaysPart b n offset reported =
    ((part : Option Part) × Gives n offset (snapshot_of b n) part
    × (reported ≡ part_answer_body n.commit part))
    ⊎ (reported ≡ content.Memory)

module _ {D S : Type 0} (stands : S → ServiceBook → Holding Entry → Type 0) (goes_on : LogRules)
    (honest : Bool) (bytes : D → List ℕ) (past : D → List Step) (faults : D → ℕ) where
  -- An event happens, and this is told of what it came to.
  abbrev pub Comes : NodeEvent S → NodeSeen D S → NodeSeen D S →
      (Result (NodeDone S) (NodeFaults S) → Type 0) → Type 0
  Comes event old new Reported =
      (result : Result (NodeDone S) (NodeFaults S))
      × Happens stands goes_on honest bytes past faults event old result new × Reported result

  -- ---- payloads

  -- A node that has stopped answers nothing. Of what any other tells this holds, whichever node of
  -- the rules it stands for.
  abbrev pub Report : Option ℕ → NodeSeen D S → ℕ →
      (ServiceBook → Node Entry → AnswerBody → Type 0) →
      Outcome → Type 0
  Report (Some count) old number Due outcome = outcome ≡ outcomes.Stopped
  Report None old number Due outcome =
      (reported : AnswerBody)
      × Reports stands old.core (λ b x n. Due b n reported)
      × (outcome ≡ answers number reported)

  -- A question changes nothing.
  abbrev pub Questions : NodeSeen D S → ℕ → (ServiceBook → Node Entry → AnswerBody → Type 0) →
      Outcome →
      NodeSeen D S → Type 0
  Questions old number Due outcome new =
      Report old.stopped old number Due outcome × (new ≡ old)

  -- A request is its event. The status of a transaction is the one that the rules report, which
  -- takes no memory. Its receipt is the one that the ledger gives up to the node's commit. A part
  -- of a snapshot is one of that which the node offers.
  abbrev pub Asks : NodeSeen D S → ℕ → Ask → Outcome → NodeSeen D S → Type 0
  Asks old number (asks.Submit request) outcome new =
      Comes (events.Submit request) old new (λ result. Answers number result outcome)
  Asks old number (asks.Govern request) outcome new =
      Comes (events.Govern request) old new (λ result. Answers number result outcome)
  Asks old number (asks.StatusOf id) outcome new =
      Questions old number (λ b n reported. reported
      ≡ content.StatusIs (reported_status b n id)) outcome new
  Asks old number (asks.ReceiptOf id) outcome new =
      Questions old number
      (λ b n. Says
      (receipt_answer_body (receipt_of (receipts_of n.base n.log n.commit) id))) outcome new
  Asks old number (asks.SnapshotPart offset) outcome new =
      Questions old number (λ b n reported. SaysPart b n offset reported) outcome new

  -- A peer's message is its event. Whatever a client asks is answered once, under its number.
  abbrev pub Handles : NodeSeen D S → Payload → Outcome → NodeSeen D S → Type 0
  Handles old (payloads.Peer m) outcome new =
      Comes (events.Message m) old new (λ result.
      outcome ≡ message_outcome m.view new.core.peer.view result)
  Handles old (payloads.Client number ask) outcome new =
      Asks old number ask outcome new × IsAnswered number outcome

  -- ---- events of the node's own

  abbrev pub Happen : NodeSeen D S → NodeEvent S → Outcome → NodeSeen D S → Type 0
  Happen old event outcome new = Comes event old new (λ result. outcome ≡ own_outcome result)

  -- Nothing happens where there is nothing to do.
  abbrev pub HappenUnless : Bool → NodeSeen D S → NodeEvent S → Outcome → NodeSeen D S → Type 0
  HappenUnless true old event outcome new = (outcome ≡ nothing) × (new ≡ old)
  HappenUnless false old event outcome new = Happen old event outcome new

  -- So it is where the last entry is a signature of the node's view.
  abbrev pub HappenUnsigned : NodeSeen D S → NodeEvent S → Outcome → NodeSeen D S → Type 0
  HappenUnsigned old event outcome new =
      (signed : Bool)
      × Reports stands old.core (λ b x n.
      signed ≡ is_signature_in b n.view (entry_at n.log (length n.log)))
      × HappenUnless signed old event outcome new

  -- So it is where no evidence is due.
  abbrev pub HappenDue : NodeSeen D S → NodeEvent S → Outcome → NodeSeen D S → Type 0
  HappenDue old event outcome new =
      (due : Bool)
      × Reports stands old.core (λ b x n. due ≡ is_evidence_due b n)
      × HappenUnless (not due) old event outcome new

  abbrev pub Owns : NodeSeen D S → OwnEvent → Outcome → NodeSeen D S → Type 0
  Owns old (own.Replicate peer) outcome new = Happen old (events.Replicate peer) outcome new
  Owns old own.Reserve outcome new = HappenUnsigned old events.Reserve outcome new
  Owns old own.Sign outcome new = HappenUnsigned old events.Sign outcome new
  Owns old own.Advance outcome new = Happen old events.Advance outcome new
  Owns old own.Evidence outcome new = HappenDue old events.Evidence outcome new
  Owns old own.Timeout outcome new = Happen old events.Timeout outcome new

  -- What a serve knows of the node.
  abbrev pub serving_rules : Rules (NodeSeen D S) Payload
  serving_rules = record {
    reads = λ payload read. read ≡ payload_in payload;
    handles = Handles;
    owns = Owns;
    leads = λ node. is_leading node.core.peer.role;
  }
