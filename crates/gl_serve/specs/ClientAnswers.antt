-- What clients are answered, and what is sent to other nodes.
use Rattle.std.specs.Prelude.{◌≡◌, ◌⊎◌, ℕ, List, [], ◌∷◌, Option, None, Some, Result, Ok, Err, false, length, if◌then◌else◌}
use Rattle.serde_json.specs.Written.{compact_text}
use Rattle.gl_rules.specs.Outcome as rules
use Rattle.gl_ledger.specs.declared.response.Response.{Response}
use Rattle.gl_ledger.specs.declared.response.Rejection.{Rejection}
use Rattle.gl_messages.specs.Answer.{status_byte}
use Rattle.gl_messages.specs.Fields.{is_within}
use Rattle.gl_messages.specs.declared.answer.Answer.{Answer}
use Rattle.gl_messages.specs.declared.answer.AnswerBody.{AnswerBody}
use Rattle.gl_messages.specs.declared.answer.AnswerBody.TheVariants as content
use Rattle.gl_receipt.specs.Tree.{receipt_tree}
use Rattle.gl_receipt.specs.declared.components.Receipt.{Receipt}
use Rattle.gl_receipt.specs.declared.make_fault.MakeFault.{MakeFault}
use Rattle.gl_receipt.specs.declared.make_fault.MakeFault.TheVariants.{NotCommitted, BelowBase, NoLaterSignature}
use Rattle.gl_replication.specs.declared.done.Outcome as done
use Rattle.gl_replication.specs.declared.done.Outcome.TheVariants.{Accepted}
use Rattle.gl_answers.specs.Reasons.{numbers, reason_of, seen_refusal}
use Rattle.gl_answers.specs.Encoding.{values_bytes}
use Rattle.gl_answers.specs.declared.value.Reason.{Reason}
use Rattle.gl_answers.specs.Reply.{given_bytes}
use Rattle.gl_answers.specs.declared.part.Part.{Part}
use Rattle.gl_node.specs.declared.fault.NodeFault.TheVariants.{Refused, DiskFault, Stopped}
use Rattle.gl_serve.specs.declared.node.Outcome.{Outcome}
use Rattle.gl_serve.specs.declared.node.Outcome.TheVariants as outcomes
use Rattle.gl_serve.specs.Hearing.{is_heard}
use Rattle.gl_serve.specs.Types.{NodeDone, NodeFaults}

-- ---- what is said

-- This is reported, or that memory ran out.
abbrev pub Says : AnswerBody → AnswerBody → Type 0
Says due reported = (reported ≡ due) ⊎ (reported ≡ content.Memory)

abbrev pub reason_answer_body : Reason → AnswerBody
reason_answer_body reason = content.Refused reason.code (values_bytes reason.values)

-- A refusal of the rules is told by its number and its values, and running out of memory as such.
abbrev pub refusal_answer_body : Option (rules.Refusal Rejection) → AnswerBody
refusal_answer_body None = content.Memory
refusal_answer_body (Some why) = reason_answer_body (reason_of why)

-- A receipt is reported as its JSON, unless that has more than 1 MiB, which no answer carries.
abbrev pub json_answer_body : List ℕ → AnswerBody
json_answer_body json =
    if is_within json then content.ReceiptIs json
    else reason_answer_body (numbers 119 (length json ∷ []))

-- Why there is no receipt: the transaction has this status, its entry isn't above this base, or the
-- ledger is committed up to here.
abbrev pub make_reason : MakeFault → Reason
make_reason (NotCommitted status) = numbers 80 (status_byte status ∷ [])
make_reason (BelowBase base) = numbers 85 (base ∷ [])
make_reason (NoLaterSignature commit) = numbers 81 (commit ∷ [])

abbrev pub receipt_answer_body : Result Receipt MakeFault → AnswerBody
receipt_answer_body (Ok receipt) = json_answer_body (compact_text (receipt_tree receipt))
receipt_answer_body (Err fault) = reason_answer_body (make_reason fault)

-- A part of a snapshot, and how many bytes that has. Where there is none, the refusal tells the
-- node's commit.
abbrev pub part_answer_body : ℕ → Option Part → AnswerBody
part_answer_body commit None = reason_answer_body (numbers 81 (commit ∷ []))
part_answer_body commit (Some part) = content.Part part.total part.bytes

-- ---- what comes of it

-- Nothing is sent but an answer to who asked.
abbrev pub answers : ℕ → AnswerBody → Outcome
answers number reported =
    outcomes.Done [] (Some (record { number = number; content = reported })) false

-- Nothing is sent.
abbrev pub nothing : Outcome
nothing = outcomes.Done [] None false

-- An accepted request is answered by its transaction and its reply.
abbrev pub accepted_answer : ℕ → done.Outcome Response → Option Answer
accepted_answer number (Accepted view seqno given) = Some (record {
  number = number;
  content = content.Accepted (record { view = view; seqno = seqno }) (given_bytes given);
})
accepted_answer number other = None

module _ {S : Type 0} where
  abbrev pub accepts : ℕ → NodeDone S → Outcome
  accepts number done = outcomes.Done done.sent (accepted_answer number done.outcome) false

  -- Of an event of the node's own nobody is answered, and a refusal sends nothing.
  abbrev pub own_outcome : Result (NodeDone S) (NodeFaults S) → Outcome
  own_outcome (Ok done) = outcomes.Done done.sent None false
  own_outcome (Err (Refused why)) = nothing
  own_outcome (Err DiskFault) = outcomes.Stopped
  own_outcome (Err (Stopped count)) = outcomes.Stopped

  -- So it is of a message, by which the node may have heard of its service: the message was of the
  -- one view, and the node is in the other then.
  abbrev pub message_outcome : ℕ → ℕ → Result (NodeDone S) (NodeFaults S) → Outcome
  message_outcome came view (Ok done) =
      outcomes.Done done.sent None (is_heard came view done.sent)
  message_outcome came view (Err (Refused why)) = nothing
  message_outcome came view (Err DiskFault) = outcomes.Stopped
  message_outcome came view (Err (Stopped count)) = outcomes.Stopped

  -- A client's request is answered: accepted, or refused with the number and the values of the
  -- refusal, or where memory runs out. Where there is none for the answer to an accepted request,
  -- the serve ends.
  abbrev pub Answers : ℕ → Result (NodeDone S) (NodeFaults S) → Outcome → Type 0
  Answers number (Ok done) outcome =
      (outcome ≡ accepts number done) ⊎ (outcome ≡ outcomes.NoMemory)
  Answers number (Err (Refused why)) outcome =
      (outcome ≡ answers number (refusal_answer_body (seen_refusal why)))
      ⊎ (outcome ≡ answers number content.Memory)
  Answers number (Err DiskFault) outcome = outcome ≡ outcomes.Stopped
  Answers number (Err (Stopped count)) outcome = outcome ≡ outcomes.Stopped

-- There is one answer with this number, unless the serve ends.
abbrev pub IsAnswered : ℕ → Outcome → Type 0
IsAnswered number (outcomes.Done messages (Some answer) heard) = answer.number ≡ number
IsAnswered number (outcomes.Done messages None heard) = ⊥
IsAnswered number outcomes.Stopped = Unit {0}
IsAnswered number outcomes.NoMemory = Unit {0}
