-- The entries that a ledger makes of requests of applications and of governance, and of signatures;
-- and where one may be made.
use Rattle.std.specs.Prelude.{◌≡◌, ◌≤◌, ◌^◌, ℕ, ◌+◌, List, [], ◌∷◌, ◌++◌, Option, None, Some, Result, Ok, Err, true, false, ◌||◌, nat_lt, length, if◌then◌else◌}
use Rattle.sha2.specs.Sha256.{sha256}
use Rattle.gl_base.specs.Bytes.{are_bytes}
use Rattle.gl_base.specs.TxId.{last_seqno}
use Rattle.gl_merkle.specs.Tree.{root_of}
use Rattle.gl_rules.specs.Identity.{NodeId}
use Rattle.gl_rules.specs.World.{first_view}
use Rattle.gl_tx.specs.Request.{is_request}
use Rattle.gl_tx.specs.declared.request.Operation.{Operation}
use Rattle.gl_tx.specs.declared.request.Answer.{Answer}
use Rattle.gl_entry.specs.Entry.{no_digest, body_bytes}
use Rattle.gl_entry.specs.declared.entry.Content.TheVariants as content
use Rattle.gl_snapshot_body.specs.Body as snapshots
use Rattle.gl_entry.specs.declared.entry.Entry.{Entry}
use Rattle.gl_entry.specs.declared.entry.Signature as signatures
use Rattle.gl_requests.specs.Ranges as ranges
use Rattle.gl_requests.specs.declared.genesis.Genesis as founding
use Rattle.gl_requests.specs.declared.request.GovernanceRequest.{GovernanceRequest}
use Rattle.gl_gov_rules.specs.declared.refusal.GovernanceRefusal.{GovernanceRefusal}
use Rattle.gl_gov_rules.specs.ProposalStatus.{proposal_status}
use Rattle.gl_gov_rules.specs.declared.change.ProposalStatus.{ProposalStatus}
use Rattle.gl_gov_rules.specs.Governed.{is_founding, is_recovery}
use Rattle.gl_gov_rules.specs.Refusals.{refusal}
use Rattle.gl_ledger.specs.Tree.{leaves_of}
use Rattle.gl_ledger.specs.Ledger.{governance_after, genesis_entry, signature_entry, opening_ledger, message_after, execute_after, sign_result, within_size, within_named}
use Rattle.gl_ledger.specs.declared.refusal.Refusal.{Refusal}
use Rattle.gl_ledger.specs.declared.refusal.Refusal.TheVariants as refusals
use Rattle.gl_ledger.specs.Layers.{Layers}
use Rattle.gl_ledger.specs.NodeKeys.{NodeKeys, node_signature}
use Rattle.gl_ledger.specs.Recordings.{endorsement_in, last_entry}
use Rattle.gl_ledger.specs.declared.breach.Broken.{Broken}
use Rattle.gl_ledger.specs.declared.response.Response.{Response}
use Rattle.gl_ledger.specs.declared.response.Response.TheVariants.{Replied, Governed}
use Rattle.gl_ledger.specs.declared.response.Rejection.{Rejection}
use Rattle.gl_ledger.specs.declared.response.Rejection.TheVariants.{ByStore, Unencodable, NoEntry, NotAfterSignature, Founding, ByRule}
use Rattle.gl_ledger.specs.Past.{Past, is_signed, is_unopened, past_of}
use Rattle.gl_ledger.specs.Broken.{fault_of_signature, broken}

abbrev pub with_reply : Result (Entry × List Answer) Refusal → Result (Entry × Response) Rejection
with_reply (Ok made) = Ok (made.0, Replied made.1)
with_reply (Err why) = Err (ByStore why)

-- What an application request makes, where bytes encode it.
abbrev pub request_after : Past → ℕ → List Operation → Result (Entry × Response) Rejection
request_after p view q =
    if is_request q then with_reply (execute_after p view q) else Err Unencodable

abbrev pub request_result : List Entry → ℕ → List Operation → Result (Entry × Response) Rejection
request_result ledger view q = request_after (past_of ledger) view q

abbrev pub by_store : {X : Type 0} → Result X Refusal → Result X Rejection
by_store (Ok made) = Ok made
by_store (Err why) = Err (ByStore why)

abbrev pub unless_refused : Option GovernanceRefusal → Result (Entry × Response) Rejection →
    Result (Entry × Response) Rejection
unless_refused None made = made
unless_refused (Some why) made = Err (ByStore (refusals.Governance why))

-- Nothing is signed where there is no entry.
abbrev pub unless_empty : {X : Type 0} → List Entry → Result X Rejection → Result X Rejection
unless_empty [] made = Err NoEntry
unless_empty (e ∷ es) made = made

-- The proposal that a request concerns, in the state that it then has.
abbrev pub status_with : Past → GovernanceRequest → Option ProposalStatus
status_with p g = proposal_status (p.after (record { seqno = p.len + 1; request = g })) g

abbrev pub status_after : List Entry → GovernanceRequest → Option ProposalStatus
status_after ledger g = status_with (past_of ledger) g

-- The entry of an accepted request, and what is answered.
abbrev pub governance_made_after : Past → GovernanceRequest → Entry → Entry × Response
governance_made_after p g e = (e, Governed (status_with p g))

abbrev pub governance_made : List Entry → GovernanceRequest → Entry → Entry × Response
governance_made ledger g e = governance_made_after (past_of ledger) g e

-- What a request of governance makes that is accepted, within the limits of bodies and seqnos.
abbrev pub governed_within_after : Past → GovernanceRequest → Entry →
    Result (Entry × Response) Rejection
governed_within_after p g e =
    by_store (within_size (length (body_bytes e))
    (within_named p.len (governance_made_after p g e)))

abbrev pub governed_within : List Entry → GovernanceRequest → Entry →
    Result (Entry × Response) Rejection
governed_within ledger g e = governed_within_after (past_of ledger) g e

-- What a request of governance makes that founds no service: first it may be refused for what it
-- asks, then for its size, then for want of a seqno.
abbrev pub accepted_after : Past → ℕ → GovernanceRequest → Result (Entry × Response) Rejection
accepted_after p view g =
    unless_refused (refusal p.history (p.len + 1) g)
    (governed_within_after p g (governance_after g p view))

abbrev pub accepted_result : List Entry → ℕ → GovernanceRequest →
    Result (Entry × Response) Rejection
accepted_result ledger view g = accepted_after (past_of ledger) view g

-- What a request of governance makes, where bytes encode it.
abbrev pub govern_after : Past → ℕ → GovernanceRequest → Result (Entry × Response) Rejection
govern_after p view g =
    if ranges.is_request g
    then (if is_founding g || is_recovery g then Err Founding else accepted_after p view g)
    else Err Unencodable

abbrev pub govern_result : List Entry → ℕ → GovernanceRequest → Result (Entry × Response) Rejection
govern_result ledger view g = govern_after (past_of ledger) view g

-- An entry may be made in a view after a ledger: the ledger has an entry, the last one doesn't
-- found the service, and its view is not above this one.
pub record MayMake (ledger : List Entry) (view : ℕ) : Type 0 where
  pub last : Entry
  pub is_last : last_entry ledger ≡ Some last
  pub opened : is_unopened (Some last) ≡ false
  pub up : last.view ≤ view

abbrev pub unless_broken : {X : Type 0} → Option Broken → X → Result X Rejection
unless_broken None made = Ok made
unless_broken (Some why) made = Err (ByRule why)

module _ (layers : Layers) where
  -- What was made, unless its entry breaks a rule.
  abbrev pub guarded : {X : Type 0} → (X → Entry) → List Entry → Result X Rejection →
      Result X Rejection
  guarded entry_of ledger (Ok made) = unless_broken (broken layers ledger (entry_of made)) made
  guarded entry_of ledger (Err why) = Err why

-- The entry of an evidence: the digest of the body of a snapshot of all entries before it.
abbrev pub evidence_entry : Past → ℕ → Entry
evidence_entry p view = record {
  view = view;
  seqno = p.len + 1;
  content = content.Evidence (sha256 (snapshots.body_bytes p.snapshot));
  writes = [];
  claims = no_digest;
}

-- What was made, unless a body of so many bytes is above the limit of snapshots.
abbrev pub within_snapshot : {X : Type 0} → ℕ → Result X Refusal → Result X Refusal
within_snapshot size made =
    if nat_lt snapshots.snapshot_limit size then Err (refusals.TooLarge size) else made

-- What an evidence makes: right after a signature its entry, unless the body is too large or no
-- seqno is left.
abbrev pub evidence_result : Past → ℕ → Result Entry Rejection
evidence_result p view =
    if is_signed p.last
    then by_store (within_snapshot (length (snapshots.body_bytes p.snapshot))
    (within_named p.len (evidence_entry p view)))
    else Err NotAfterSignature

module _ (keys : NodeKeys) where
  -- The signature of a node after a ledger, with one of its leaves, which records this commit. It
  -- has the endorsement that stands in the node's own row of the ledger.
  abbrev pub signature_after : NodeId → ℕ → List Entry → ℕ → ℕ → List ℕ
  signature_after x leaf ledger view commit =
      node_signature keys (endorsement_in ledger x) x leaf (message_after ledger view commit)

  -- What its entry records.
  abbrev pub signature_made : NodeId → ℕ → List Entry → ℕ → ℕ → signatures.Signature
  signature_made x leaf ledger view commit = record {
    node = x;
    commit = commit;
    root = root_of (leaves_of ledger);
    signature = signature_after x leaf ledger view commit;
  }

  -- Its entry.
  abbrev pub signed_entry : NodeId → ℕ → List Entry → ℕ → ℕ → Entry
  signed_entry x leaf ledger view commit =
      signature_entry x (signature_after x leaf ledger view commit) ledger view commit

  abbrev pub signing_result : NodeId → ℕ → List Entry → ℕ → ℕ → Result Entry Rejection
  signing_result x leaf ledger view commit =
      by_store (sign_result x (signature_after x leaf ledger view commit) ledger view commit)

  -- The opening ledger: the genesis, and a node's signature with its first leaf, which records its
  -- own seqno.
  abbrev pub opening_of : founding.Genesis → NodeId → List Entry
  opening_of g x =
      opening_ledger g x (signature_after x 0 (genesis_entry g ∷ []) first_view 2)

-- What a node signs after a ledger is valid there, and an entry has room for it.
pub record MakesValid (layers : Layers) (keys : NodeKeys) (x : NodeId) (leaf : ℕ)
    (ledger : List Entry) (view commit : ℕ) : Type 0 where
  pub bytes : are_bytes (signature_after keys x leaf ledger view commit) ≡ true
  pub short : length (signature_after keys x leaf ledger view commit) ≤ 2 ^ 16
  pub valid : fault_of_signature layers (past_of ledger)
      (signed_entry keys x leaf ledger view commit)
      (signature_made keys x leaf ledger view commit)
      ≡ None
