-- Why an event is refused, as whoever asked is told it: each refusal has a number, and values in
-- order.
use Rattle.std.specs.Prelude.{ℕ, List, [], ◌∷◌, Option, None, Some, map}
use Rattle.gl_hss.specs.declared.fault.HssFault.{HssFault}
use Rattle.gl_hss.specs.declared.fault.HssFault.TheVariants as signature
use Rattle.gl_requests.specs.Encoding.{state_byte}
use Rattle.gl_tx.specs.Abort.{number_of}
use Rattle.gl_gov_rules.specs.Numbers.{cause_number}
use Rattle.gl_gov_rules.specs.Rows.{node_byte, proposal_byte}
use Rattle.gl_gov_rules.specs.declared.refusal.GovernanceRefusal.{GovernanceRefusal}
use Rattle.gl_gov_rules.specs.declared.refusal.GovernanceRefusal.TheVariants as governance
use Rattle.gl_gov_rules.specs.declared.refusal.NodeStatus.{NodeStatus}
use Rattle.gl_ledger.specs.declared.breach.EntryRefusal.{EntryRefusal}
use Rattle.gl_ledger.specs.declared.breach.EntryRefusal.TheVariants as entry
use Rattle.gl_ledger.specs.declared.refusal.Refusal as store
use Rattle.gl_ledger.specs.declared.refusal.Refusal.TheVariants as ledger
use Rattle.gl_ledger.specs.declared.response.Rejection.{Rejection}
use Rattle.gl_ledger.specs.declared.response.Rejection.TheVariants.{ByStore, Unencodable, NoEntry, NotAfterSignature, Founding, ByRule}
use Rattle.gl_rules.specs.Outcome as rules
use Rattle.gl_replication.specs.declared.done.Refusal.{Refusal}
use Rattle.gl_replication.specs.declared.done.Refusal.TheVariants as refusals
use Rattle.gl_answers.specs.declared.value.Reason.{Reason}
use Rattle.gl_answers.specs.declared.value.Value.{Value}
use Rattle.gl_answers.specs.declared.value.Value.TheVariants.{Number, Digest, Leader}

-- A reason with these numbers.
abbrev pub numbers : ℕ → List ℕ → Reason
numbers code values = record { code = code; values = map Number values }

-- A reason with these digests.
abbrev pub digests : ℕ → List (List ℕ) → Reason
digests code values = record { code = code; values = map Digest values }

-- The number of a node's status, 0 where the node isn't recorded.
abbrev pub status_number : Option NodeStatus → ℕ
status_number None = 0
status_number (Some status) = node_byte status

-- Why a request of governance is refused.
abbrev pub governance_reason : GovernanceRefusal → Reason
governance_reason governance.NotMember = numbers 40 []
governance_reason governance.NotActive = numbers 41 []
governance_reason governance.Signature = numbers 42 []
governance_reason (governance.LeafNotGreater last got) = numbers 43 (last ∷ got ∷ [])
governance_reason governance.NoProposal = numbers 44 []
governance_reason (governance.NotOpen state) = numbers 45 (proposal_byte state ∷ [])
governance_reason governance.HasBallot = numbers 46 []
governance_reason governance.NotProposer = numbers 47 []
governance_reason (governance.BadAction index cause) =
    numbers 48 (index ∷ cause_number cause ∷ [])
governance_reason (governance.NodeState status) = numbers 49 (status_number status ∷ [])
governance_reason (governance.TooMany limit) = numbers 50 (limit ∷ [])
governance_reason (governance.ServiceState state) = numbers 51 (state_byte state ∷ [])
governance_reason (governance.KnownProposal id) = digests 52 (id ∷ [])
governance_reason (governance.WrongShare digest) = digests 100 (digest ∷ [])
governance_reason (governance.KnownShare member) = numbers 101 (member ∷ [])
governance_reason (governance.Secret want got) = digests 103 (want ∷ got ∷ [])

-- Why no entry is made for a request.
abbrev pub store_reason : store.Refusal → Reason
store_reason (ledger.ServiceState state) = numbers 51 (state_byte state ∷ [])
store_reason (ledger.Aborted abort) =
    numbers 122 (abort.operation ∷ number_of abort.cause ∷ [])
store_reason (ledger.TooLarge size) = numbers 119 (size ∷ [])
store_reason ledger.SeqnoLimit = numbers 130 []
store_reason (ledger.Governance why) = governance_reason why

-- What is wrong with a signature: a number of its own, and then its values. Of two the one that is
-- wanted comes first.
abbrev pub fault_values : HssFault → List Value
fault_values (signature.Types at) = Number 20 ∷ Number at ∷ []
fault_values (signature.Length want got) = Number 21 ∷ Number want ∷ Number got ∷ []
fault_values (signature.Levels want got) = Number 22 ∷ Number want ∷ Number got ∷ []
fault_values (signature.Root want got) = Number 23 ∷ Digest want ∷ Digest got ∷ []
fault_values (signature.Leaf q) = Number 24 ∷ Number q ∷ []

-- Why an entry is refused that breaks a rule of the audit. What is wrong with its request is told
-- as it is to who sends such a request, and what is wrong with a signature after the seqno.
abbrev pub entry_reason : EntryRefusal → Reason
entry_reason (entry.ServiceState state) = store_reason (ledger.ServiceState state)
entry_reason (entry.Aborted abort) = store_reason (ledger.Aborted abort)
entry_reason (entry.Governance why) = store_reason (ledger.Governance why)
entry_reason (entry.Replay seqno wanted found) =
    record { code = 117; values = Number seqno ∷ Digest wanted ∷ Digest found ∷ [] }
entry_reason (entry.BadSignature seqno fault) =
    record { code = 118; values = Number seqno ∷ fault_values fault }

-- Why a ledger takes no entry. Which rule an entry breaks isn't told.
abbrev pub rejected_reason : Rejection → Reason
rejected_reason (ByStore why) = store_reason why
rejected_reason Unencodable = numbers 117 []
rejected_reason NoEntry = numbers 117 []
rejected_reason NotAfterSignature = numbers 129 []
rejected_reason Founding = numbers 117 []
rejected_reason (ByRule broken) = entry_reason broken.refusal

-- Why an event is refused by the rules of consensus.
abbrev pub reason_of : rules.Refusal Rejection → Reason
reason_of (rules.NotPrimary view leader) =
    record { code = 110; values = Number view ∷ Leader leader ∷ [] }
reason_of (rules.TooManyPending limit) = numbers 111 (limit ∷ [])
reason_of (rules.NotReserved reserved) = numbers 112 (reserved ∷ [])
reason_of (rules.KeyExhausted reserved) = numbers 113 (reserved ∷ [])
reason_of (rules.NothingToSign seqno) = numbers 114 (seqno ∷ [])
reason_of (rules.RemovalNotCommitted place commit) = numbers 115 (place ∷ commit ∷ [])
reason_of (rules.BelowCommit commit cut) = numbers 116 (commit ∷ cut ∷ [])
reason_of (rules.RolledBack before now) = numbers 124 (before ∷ now ∷ [])
reason_of rules.NotPeer = numbers 126 []
reason_of (rules.BelowBase base) = numbers 127 (base ∷ [])
reason_of rules.ViewLimit = numbers 128 []
reason_of (rules.NoLaterSignature commit) = numbers 81 (commit ∷ [])
reason_of (rules.ByLedger why) = rejected_reason why

-- The number of a refusal, and its values in order.
abbrev pub code_of : rules.Refusal Rejection → ℕ
code_of why = (reason_of why).code

abbrev pub values_of : rules.Refusal Rejection → List Value
values_of why = (reason_of why).values

-- No refusal has more values.
abbrev pub most_values : ℕ
most_values = 4

-- A node's refusal as the rules know it. Running out of memory is none.
abbrev pub seen_refusal : {S Q G R A F : Type 0} → Refusal S Q G R A F → Option (rules.Refusal F)
seen_refusal refusals.NoMemory = None
seen_refusal (refusals.NotPrimary view leader) = Some (rules.NotPrimary view leader)
seen_refusal (refusals.TooManyPending limit) = Some (rules.TooManyPending limit)
seen_refusal (refusals.NotReserved reserved) = Some (rules.NotReserved reserved)
seen_refusal (refusals.KeyExhausted reserved) = Some (rules.KeyExhausted reserved)
seen_refusal (refusals.NothingToSign seqno) = Some (rules.NothingToSign seqno)
seen_refusal (refusals.RemovalNotCommitted seqno commit) =
    Some (rules.RemovalNotCommitted seqno commit)
seen_refusal (refusals.BelowCommit commit seqno) = Some (rules.BelowCommit commit seqno)
seen_refusal refusals.NotPeer = Some rules.NotPeer
seen_refusal (refusals.BelowBase base) = Some (rules.BelowBase base)
seen_refusal refusals.ViewLimit = Some rules.ViewLimit
seen_refusal (refusals.NoLaterSignature commit) = Some (rules.NoLaterSignature commit)
seen_refusal (refusals.ByLedger why) = Some (rules.ByLedger why)
