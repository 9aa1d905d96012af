-- What an entry records, read from its bytes, and what the entries of a ledger tell of requests of
-- governance and of nodes.
use Rattle.std.specs.Prelude.{ℕ, suc, ◌-◌, List, [], ◌∷◌, ◌++◌, Option, None, Some, Result, Ok, Err, Bool, true, false, ◌&&◌, ◌||◌, map, length, take, slice_get, if◌then◌else◌}
use Rattle.gl_base.specs.Bytes.{same_bytes}
use Rattle.gl_base.specs.declared.fault.CodeFault.{CodeFault}
use Rattle.gl_rules.specs.Identity.{NodeId}
use Rattle.gl_tx.specs.Parsing.{request_of}
use Rattle.gl_tx.specs.declared.request.Operation.{Operation}
use Rattle.gl_entry.specs.declared.entry.Content.{Content}
use Rattle.gl_entry.specs.declared.entry.Content.TheVariants as content
use Rattle.gl_entry.specs.declared.entry.Entry.{Entry}
use Rattle.gl_requests.specs.Parsing.{request_in}
use Rattle.gl_requests.specs.declared.request.GovernanceRequest.{GovernanceRequest}
use Rattle.gl_gov_rules.specs.declared.change.Recorded.{Recorded}
use Rattle.gl_gov_rules.specs.declared.change.RecordedNode.{RecordedNode}
use Rattle.gl_gov_rules.specs.Changes.{history}
use Rattle.gl_gov_rules.specs.Governed as governed
use Rattle.gl_gov_rules.specs.Nodes as nodes
use Rattle.gl_ledger.specs.declared.recording.Recording.{Recording}
use Rattle.gl_ledger.specs.declared.recording.Recording.TheVariants as recordings

abbrev pub governance_recording : Option GovernanceRequest → Option Recording
governance_recording None = None
governance_recording (Some request) = Some (recordings.Governance request)

abbrev pub application_recording : Result (List Operation) CodeFault → Option Recording
application_recording (Err fault) = None
application_recording (Ok request) = Some (recordings.Application request)

-- It is a request that founds a service.
abbrev pub is_founding : Recording → Bool
is_founding (recordings.Governance request) = governed.is_founding request
is_founding (recordings.Application request) = false
is_founding (recordings.Signature s) = false
is_founding (recordings.Evidence d) = false

-- It is a request that recovers a service.
abbrev pub is_recovering : Recording → Bool
is_recovering (recordings.Governance request) = governed.is_recovery request
is_recovering (recordings.Application request) = false
is_recovering (recordings.Signature s) = false
is_recovering (recordings.Evidence d) = false

abbrev pub is_signing : Recording → Bool
is_signing (recordings.Governance request) = false
is_signing (recordings.Application request) = false
is_signing (recordings.Signature s) = true
is_signing (recordings.Evidence d) = false

-- Something is recorded, and it is such a request.
abbrev pub records_founding : Option Recording → Bool
records_founding None = false
records_founding (Some recording) = is_founding recording

abbrev pub records_recovery : Option Recording → Bool
records_recovery None = false
records_recovery (Some recording) = is_recovering recording

-- The last entry of a ledger, if there is one.
abbrev pub last_entry : List Entry → Option Entry
last_entry ledger = slice_get ledger (length ledger - 1)

-- What an entry records, if its bytes encode it.
abbrev pub recording_of : Content → Option Recording
recording_of (content.Governance bytes) = governance_recording (request_in bytes)
recording_of (content.Application bytes) = application_recording (request_of bytes)
recording_of (content.Signature s) = Some (recordings.Signature s)
recording_of (content.Evidence d) = Some (recordings.Evidence d)

-- The entry founds a service.
abbrev pub founds : Entry → Bool
founds e = records_founding (recording_of e.content)

-- The entry recovers a service.
abbrev pub recovers : Entry → Bool
recovers e = records_recovery (recording_of e.content)

-- A service, or its life under another key, begins with the entry, so that a signature opens it.
abbrev pub begins : Entry → Bool
begins e = founds e || recovers e

abbrev pub recorded_at : ℕ → Option GovernanceRequest → List Recorded
recorded_at seqno None = []
recorded_at seqno (Some request) = record { seqno = seqno; request = request } ∷ []

abbrev pub recorded_in : ℕ → Content → List Recorded
recorded_in seqno (content.Governance bytes) = recorded_at seqno (request_in bytes)
recorded_in seqno (content.Application bytes) = []
recorded_in seqno (content.Signature s) = []
recorded_in seqno (content.Evidence d) = []

abbrev pub requests_from : ℕ → List Entry → List Recorded
requests_from seqno [] = []
requests_from seqno (e ∷ es) = recorded_in seqno e.content ++ requests_from (suc seqno) es

-- The requests of governance that a ledger records, in order.
abbrev pub requests_of : List Entry → List Recorded
requests_of ledger = requests_from 1 ledger

-- Nodes, in the order in which they were recorded.

abbrev pub same_nodes : List NodeId → List NodeId → Bool
same_nodes [] [] = true
same_nodes [] (y ∷ ys) = false
same_nodes (x ∷ xs) [] = false
same_nodes (x ∷ xs) (y ∷ ys) = same_bytes x y && same_nodes xs ys

-- The set of nodes, where it is another than before.
abbrev pub changed_set : List NodeId → List NodeId → Option (List NodeId)
changed_set before now = if same_nodes before now then None else Some now

-- The nodes that a ledger records.
unfoldable pub recorded_nodes : List Entry → List NodeId
recorded_nodes ledger =
    map (λ (n : RecordedNode). n.id) (nodes.nodes (history (requests_of ledger)))

-- The key and the endorsement in the row of a node, no bytes where it has none.
abbrev pub key_found : Option RecordedNode → List ℕ
key_found None = []
key_found (Some n) = n.node.key

abbrev pub endorsement_found : Option RecordedNode → List ℕ
endorsement_found None = []
endorsement_found (Some n) = n.node.endorsement

-- The key with which a ledger records a node, none (no bytes) where it doesn't record it.
unfoldable pub key_in : List Entry → NodeId → List ℕ
key_in ledger x = key_found (nodes.node (history (requests_of ledger)) x)

-- The endorsement with which a ledger records a node, none (no bytes) where it doesn't record it.
unfoldable pub endorsement_in : List Entry → NodeId → List ℕ
endorsement_in ledger x = endorsement_found (nodes.node (history (requests_of ledger)) x)

-- The trusted nodes of a ledger.
unfoldable pub trusted_nodes : List Entry → List NodeId
trusted_nodes ledger = nodes.trusted (history (requests_of ledger))

-- The configuration that begins with a ledger's last entry, if that changes the set of trusted
-- nodes.
unfoldable pub configuration : List Entry → Option (List NodeId)
configuration ledger =
    changed_set (trusted_nodes (take (length ledger - 1) ledger)) (trusted_nodes ledger)

-- The seqno of the entry that removed a node, and that of its mark.
unfoldable pub removal : List Entry → NodeId → Option ℕ
removal ledger y = nodes.removal (history (requests_of ledger)) y

unfoldable pub mark : List Entry → NodeId → Option ℕ
mark ledger y = nodes.mark (history (requests_of ledger)) y
