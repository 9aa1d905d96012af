-- The text of what comes of a line.
use Rattle.std.specs.Prelude.{ℕ, zero, suc, ◌+◌, ◌-◌, List, [], ◌∷◌, ◌++◌, Option, None, Some, length, drop, position, codes, decimal}
use Rattle.std.specs.List.{flat_map}
use Rattle.hex.specs.Hex.{encode_lower}
use Rattle.gl_base.specs.declared.tx_id.Status as statuses
use Rattle.gl_base.specs.declared.tx_id.Status.TheVariants as status
use Rattle.gl_base.specs.TxId.{text_of}
use Rattle.gl_base.specs.Bytes.{same_bytes}
use Rattle.gl_rules.specs.Identity.{NodeId}
use Rattle.gl_rules.specs.Outcome.{Refusal}
use Rattle.gl_rules.specs.Outcome as outcome
use Rattle.gl_rules.specs.Node.{Node}
use Rattle.gl_rules.specs.Retirement.{Stage}
use Rattle.gl_rules.specs.Retirement as stages
use Rattle.gl_rules.specs.Safety.{committed_ledger}
use Rattle.gl_entry.specs.Entry.{frame_bytes}
use Rattle.gl_entry.specs.declared.entry.Entry.{Entry}
use Rattle.gl_tx.specs.declared.request.Answer.{Answer}
use Rattle.gl_tx.specs.declared.request.Answer.TheVariants as answers
use Rattle.gl_answers.specs.Reasons.{reason_of}
use Rattle.gl_answers.specs.declared.value.Reason.{Reason}
use Rattle.gl_answers.specs.declared.value.Value.{Value}
use Rattle.gl_answers.specs.declared.value.Value.TheVariants.{Number, Digest, Leader}
use Rattle.gl_world.specs.declared.settings.Settings.{Settings}
use Rattle.gl_world.specs.Founding.{node_ids, numbers_from}
use Rattle.gl_world.specs.Members.{leaf_limit}
use Rattle.gl_world.specs.World.{ServiceOutcome, ServiceWorld}
use Rattle.gl_ledger.specs.declared.response.Response.{Response}
use Rattle.gl_ledger.specs.declared.response.Response.TheVariants.{Replied, Governed}
use Rattle.gl_ledger.specs.declared.response.Rejection.{Rejection}

-- Numbers after a word, each after a space.
abbrev pub with_numbers : List ℕ → List ℕ → List ℕ
with_numbers text [] = text
with_numbers text (n ∷ ns) = with_numbers (text ++ codes " " ++ decimal n) ns

-- A value in hexadecimal, or a full stop for one of no bytes.
abbrev pub value_text : List ℕ → List ℕ
value_text [] = codes "."
value_text (byte ∷ bytes) = encode_lower (byte ∷ bytes)

abbrev pub answer_text : Answer → List ℕ
answer_text answers.Done = codes "done"
answer_text answers.None = codes "none"
answer_text (answers.Value value) = codes "value " ++ value_text value
answer_text answers.No = codes "no"
answer_text answers.Yes = codes "yes"
answer_text (answers.Number number) = codes "number " ++ decimal number

abbrev pub answers_after : List Answer → List ℕ
answers_after [] = []
answers_after (a ∷ rest) = codes " ; " ++ answer_text a ++ answers_after rest

-- Answers stand apart by a semicolon between spaces.
abbrev pub answers_text : List Answer → List ℕ
answers_text [] = []
answers_text (a ∷ rest) = answer_text a ++ answers_after rest

abbrev pub given_text : Response → List ℕ
given_text (Replied answers) = codes " " ++ answers_text answers
given_text (Governed status) = []

-- A node is told by its number: its place among all nodes, from 1.
abbrev pub node_text : Option ℕ → List ℕ
node_text None = codes "-"
node_text (Some index) = decimal (suc index)

abbrev pub leader_text : Settings → Option NodeId → List ℕ
leader_text s None = codes "-"
leader_text s (Some y) = node_text (position (same_bytes y) (node_ids s))

-- A value of a refusal: a number in decimal, a digest in hexadecimal, a leader by its number.
abbrev pub reason_value_text : Settings → Value → List ℕ
reason_value_text s (Number n) = decimal n
reason_value_text s (Digest digest) = encode_lower digest
reason_value_text s (Leader leader) = leader_text s leader

-- Values, each after a space.
abbrev pub values_after : Settings → List Value → List ℕ
values_after s values = flat_map (λ value. codes " " ++ reason_value_text s value) values

-- A refusal's number and its values.
abbrev pub reason_text : Settings → Reason → List ℕ
reason_text s reason = decimal reason.code ++ values_after s reason.values

abbrev pub refusal_text : Settings → Refusal Rejection → List ℕ
refusal_text s why = reason_text s (reason_of why)

abbrev pub id_text : ℕ → ℕ → List ℕ
id_text view seqno = text_of (record { view = view; seqno = seqno })

abbrev pub outcome_text : Settings → ServiceOutcome → List ℕ
outcome_text s outcome.Done = codes "ok"
outcome_text s outcome.Idle = codes "idle"
outcome_text s outcome.BecameCandidate = codes "candidate"
outcome_text s outcome.BecameLeader = codes "leader"
outcome_text s (outcome.Accepted view seqno given) =
    codes "accepted " ++ id_text view seqno ++ given_text given
outcome_text s (outcome.Signed view seqno) = codes "signed " ++ id_text view seqno
outcome_text s (outcome.Committed view seqno) = codes "commit " ++ id_text view seqno
outcome_text s (outcome.Refused why) = codes "refused " ++ refusal_text s why

abbrev pub status_text : statuses.Status → List ℕ
status_text status.Unknown = codes "Unknown"
status_text status.Pending = codes "Pending"
status_text status.Committed = codes "Committed"
status_text status.Invalid = codes "Invalid"

-- How far a retirement has come.
abbrev pub stage_text : Option Stage → List ℕ
stage_text None = codes "none"
stage_text (Some stages.Ordered) = codes "Ordered"
stage_text (Some stages.Signed) = codes "Signed"
stage_text (Some stages.Completed) = codes "Completed"
stage_text (Some stages.RetiredCommitted) = codes "RetiredCommitted"

-- So many new messages are told by their numbers, which go on from those before.
abbrev pub new_messages : ℕ → ℕ → List ℕ
new_messages zero before = []
new_messages (suc more) before = with_numbers (codes " sent") (numbers_from (before + 1) (suc more))

-- The messages that an event sent, if it sent any.
abbrev pub sent_text : ServiceWorld → ServiceWorld → List ℕ
sent_text before now = new_messages (length now.sent - length before.sent) (length before.sent)

-- The entries of a node's committed ledger, and those of its log, above its base.
abbrev pub committed_entries : Node Entry → List Entry
committed_entries n = drop n.base (committed_ledger n)

abbrev pub held_entries : Node Entry → List Entry
held_entries n = drop n.base n.log

-- The identifiers of the committed ledger.
abbrev pub ids_text : List Entry → List ℕ
ids_text entries =
    codes "ids" ++ flat_map (λ (e : Entry). codes " " ++ id_text e.view e.seqno) entries

-- The number of the entries, and for each of them a line with its identifier and its frame.
abbrev pub entry_text : Entry → List ℕ
entry_text e =
    codes "\nentry " ++ id_text e.view e.seqno ++ codes " " ++ encode_lower (frame_bytes e)

abbrev pub ledger_text : List Entry → List ℕ
ledger_text entries = codes "ledger " ++ decimal (length entries) ++ flat_map entry_text entries

-- A number that names no node, no member or no request of an earlier line is refused.
abbrev pub unnamed_text : List ℕ
unnamed_text = codes "refused 0"

-- So is one that names no proposal.
abbrev pub no_proposal_text : List ℕ
no_proposal_text = codes "refused 44"

-- A member whose leaves are all used is refused, with their number.
abbrev pub spent_text : List ℕ
spent_text = codes "refused " ++ with_numbers (codes "113") (leaf_limit ∷ [])

-- A line of the text, with its number.
abbrev pub numbered : ℕ → List ℕ → List ℕ
numbered number text = decimal number ++ codes " " ++ text ++ codes "\n"
