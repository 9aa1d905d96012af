-- What is said of each ledger of a service.
use Rattle.std.specs.Prelude.{◌≡◌, ℕ, suc, ◌+◌, List, [], ◌∷◌, ◌++◌, ◌≤◌, None, Some, Ok, true, false, length, take, slice_get}
use Rattle.sha2.specs.Sha256.{sha256}
use Rattle.gl_merkle.specs.Tree.{root_of}
use Rattle.gl_rules.specs.Identity.{member}
use Rattle.gl_rules.specs.World.{first_view}
use Rattle.gl_vmaps.specs.Name.{is_governance}
use Rattle.gl_tx.specs.Request.{is_request, request_bytes, reply_bytes}
use Rattle.gl_tx.specs.Run.{run}
use Rattle.gl_tx.specs.declared.runs.Ran.{Ran}
use Rattle.gl_tx.specs.declared.request.Operation.{Operation}
use Rattle.gl_entry.specs.Entry.{no_digest, is_signature}
use Rattle.gl_entry.specs.declared.entry.Content.{Content}
use Rattle.gl_entry.specs.declared.entry.Content.TheVariants as content
use Rattle.gl_entry.specs.declared.entry.Entry.{Entry}
use Rattle.gl_entry.specs.declared.entry.Signature as signatures
use Rattle.gl_requests.specs.Encoding as requests_encoded
use Rattle.gl_requests.specs.Ranges as ranges
use Rattle.gl_requests.specs.Parsing.{request_in}
use Rattle.gl_requests.specs.declared.genesis.ServiceState.TheVariants.{Open}
use Rattle.gl_requests.specs.declared.request.GovernanceRequest.{GovernanceRequest}
use Rattle.gl_gov_rules.specs.Changes.{history}
use Rattle.gl_gov_rules.specs.Refusals.{refusal}
use Rattle.gl_gov_rules.specs.Rows.{effect}
use Rattle.gl_ledger.specs.ServiceRow.{service_state}
use Rattle.gl_ledger.specs.Tree.{tables_of, leaves_of}
use Rattle.gl_ledger.specs.Serial.{IsLedger}
use Rattle.gl_vmaps.specs.Changes.{Turns}
use Rattle.gl_ledger.specs.Layers.{Layers}
use Rattle.gl_ledger.specs.Recordings.{founds, recovers, begins, last_entry, requests_of, recorded_nodes}
use Rattle.gl_ledger.specs.Past.{signs_at, past_of}
use Rattle.gl_ledger.specs.Snapshot.{snapshot_bytes}
use Rattle.gl_snapshot_body.specs.Body.{snapshot_limit}
use Rattle.gl_ledger.specs.Broken.{may_record, fault_of_signature}

-- The first entry founds the service, in the first view, and no other does. A recovery, which
-- recovers it, stands right after a signature, in the view after its. After each of them stands the
-- signature that opens the service, of the same view.
pub record IsFounded (ledger : List Entry) : Type 0 where
  pub first : (e : Entry) → slice_get ledger 0 ≡ Some e →
      (founds e ≡ true) × (e.view ≡ first_view)
  pub once : (i : ℕ) (e : Entry) → slice_get ledger i ≡ Some e → founds e ≡ true → i ≡ 0
  pub recovered : (i : ℕ) (e f : Entry) → slice_get ledger i ≡ Some e →
      slice_get ledger (suc i) ≡ Some f → recovers f ≡ true →
      (is_signature e.content ≡ true) × (f.view ≡ e.view + 1)
  pub opened : (i : ℕ) (e f : Entry) → slice_get ledger i ≡ Some e → begins e ≡ true →
      slice_get ledger (suc i) ≡ Some f → (is_signature f.content ≡ true) × (f.view ≡ e.view)

-- No entry of the ledger recovers its service.
abbrev pub IsUnrecovered : List Entry → Type 0
IsUnrecovered ledger =
    (i : ℕ) (e : Entry) → slice_get ledger i ≡ Some e → recovers e ≡ false

-- A governance entry: a request that no rule refuses, and the write set of its effect.
pub record IsGovernanceEntry (before : List Entry) (e : Entry) (bytes : List ℕ) : Type 0 where
  pub request : GovernanceRequest
  pub reads : request_in bytes ≡ Some request
  pub fits : ranges.is_request request ≡ true
  pub encoded : bytes ≡ requests_encoded.request_bytes request
  pub accepted : refusal (history (requests_of before)) (length before + 1) request ≡ None
  pub turns : Turns e.writes (effect (requests_of before))
      (effect (requests_of before
      ++ record { seqno = length before + 1; request = request } ∷ []))
  pub claims : e.claims ≡ no_digest

-- An application entry: a request that runs in an open service, its write set, and the digest of
-- its reply.
pub record IsApplicationEntry (before : List Entry) (e : Entry) (bytes : List ℕ) : Type 0 where
  pub is_open : service_state (effect (requests_of before)) ≡ Open
  pub request : List Operation
  pub fits : is_request request ≡ true
  pub encoded : bytes ≡ request_bytes request
  pub ran : Ran
  pub runs : run request (tables_of before) ≡ Ok ran
  pub writes : e.writes ≡ ran.writes
  pub claims : e.claims ≡ sha256 (reply_bytes ran.reply)

-- The rows of the governance tables are the effect of the requests of governance.
abbrev pub HasGovernedTables : List Entry → Type 0
HasGovernedTables ledger =
    (map : List ℕ) → is_governance map ≡ true →
    tables_of ledger map ≡ effect (requests_of ledger) map

-- An evidence entry stands right after a signature, writes nothing, and has the digest of the body
-- of a snapshot of all entries before it.
pub record IsEvidenceEntry (before : List Entry) (e : Entry) (d : List ℕ) : Type 0 where
  pub writes : e.writes ≡ []
  pub claims : e.claims ≡ no_digest
  pub signed : signs_at (last_entry before) ≡ true
  pub within : length (snapshot_bytes before) ≤ snapshot_limit
  pub digest : d ≡ sha256 (snapshot_bytes before)

module _ (layers : Layers) where
  -- A signature entry writes nothing. It is the valid signature of a recorded node, over the root
  -- of the tree of all earlier entries, and records a commit that it may record.
  pub record IsSignatureEntry (before : List Entry) (e : Entry) (s : signatures.Signature) :
      Type 0 where
    pub writes : e.writes ≡ []
    pub claims : e.claims ≡ no_digest
    pub node : member s.node (recorded_nodes before) ≡ true
    pub root : s.root ≡ root_of (leaves_of before)
    pub commit : may_record (past_of before) s.commit ≡ true
    pub valid : fault_of_signature layers (past_of before) e s ≡ None

  -- The entry is what its content says it is, after the ledger before it.
  abbrev pub StandsAs : Content → List Entry → Entry → Type 0
  StandsAs (content.Governance bytes) before e = IsGovernanceEntry before e bytes
  StandsAs (content.Application bytes) before e = IsApplicationEntry before e bytes
  StandsAs (content.Signature s) before e = IsSignatureEntry before e s
  StandsAs (content.Evidence d) before e = IsEvidenceEntry before e d

  -- A ledger is one serial run: each entry is what it says after the entries before it, and after
  -- no others.
  abbrev pub IsSerial : List Entry → Type 0
  IsSerial ledger =
      (i : ℕ) (e : Entry) → slice_get ledger i ≡ Some e → StandsAs e.content (take i ledger) e

  -- A ledger is in order and founded, one serial run of its requests, and its governance tables are
  -- the effect of its requests of governance.
  pub record IsSound (ledger : List Entry) : Type 0 where
    pub in_order : IsLedger ledger
    pub founded : IsFounded ledger
    pub serial : IsSerial ledger
    pub governed : HasGovernedTables ledger
