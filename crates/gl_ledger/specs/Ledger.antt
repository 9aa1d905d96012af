-- The entries that are made of requests after others, by what is read of these, and why none is
-- made; and those that are made after a ledger.
use Rattle.std.specs.Prelude.{◌≡◌, ℕ, ◌+◌, ◌≤◌, List, [], ◌∷◌, Some, Result, Ok, Err, length, nat_lt, slice_get, if◌then◌else◌}
use Rattle.sha2.specs.Sha256.{sha256}
use Rattle.gl_base.specs.TxId.{last_seqno}
use Rattle.gl_rules.specs.Identity.{NodeId}
use Rattle.gl_tx.specs.Request.{request_bytes, reply_bytes}
use Rattle.gl_tx.specs.Run.{run}
use Rattle.gl_tx.specs.declared.runs.Ran.{Ran}
use Rattle.gl_tx.specs.declared.request.Operation.{Operation}
use Rattle.gl_tx.specs.declared.request.Answer.{Answer}
use Rattle.gl_tx.specs.declared.abort.Abort.{Abort}
use Rattle.gl_entry.specs.Entry.{no_digest, body_bytes, body_limit}
use Rattle.gl_entry.specs.SignedMessage.{signed_message}
use Rattle.gl_entry.specs.declared.entry.Content.TheVariants as content
use Rattle.gl_entry.specs.declared.entry.Entry.{Entry}
use Rattle.gl_requests.specs.Encoding as requests_encoded
use Rattle.gl_requests.specs.declared.genesis.Genesis as founding
use Rattle.gl_requests.specs.declared.genesis.ServiceState.{ServiceState}
use Rattle.gl_requests.specs.declared.genesis.ServiceState.TheVariants.{Open}
use Rattle.gl_requests.specs.declared.request.GovernanceRequest.{GovernanceRequest}
use Rattle.gl_requests.specs.declared.request.GovernanceRequest.TheVariants as requests
use Rattle.gl_rules.specs.World.{first_view}
use Rattle.gl_ledger.specs.Broken.{effect_after}
use Rattle.gl_ledger.specs.Past.{Past, past_of}
use Rattle.gl_ledger.specs.ServiceRow.{service_state}
use Rattle.gl_ledger.specs.declared.refusal.Refusal.{Refusal}
use Rattle.gl_ledger.specs.declared.refusal.Refusal.TheVariants as refusals

-- The entry of a request of governance, with the write set of its effect.
abbrev pub governance_after : GovernanceRequest → Past → ℕ → Entry
governance_after g p view = record {
  view = view;
  seqno = p.len + 1;
  content = content.Governance (requests_encoded.request_bytes g);
  writes = effect_after p (record { seqno = p.len + 1; request = g });
  claims = no_digest;
}

abbrev pub governance_entry : GovernanceRequest → List Entry → ℕ → Entry
governance_entry g ledger view = governance_after g (past_of ledger) view

-- The entry of a genesis, with seqno 1 in the first view.
abbrev pub genesis_entry : founding.Genesis → Entry
genesis_entry g = governance_entry (requests.Genesis g) [] first_view

-- The entry of a node's signature, of these bytes, which records this commit.
abbrev pub signature_entry_after : NodeId → List ℕ → Past → ℕ → ℕ → Entry
signature_entry_after node signature p view commit = record {
  view = view;
  seqno = p.len + 1;
  content = content.Signature (record {
    node = node;
    commit = commit;
    root = p.root;
    signature = signature;
  });
  writes = [];
  claims = no_digest;
}

abbrev pub signature_entry : NodeId → List ℕ → List Entry → ℕ → ℕ → Entry
signature_entry node signature ledger view commit =
    signature_entry_after node signature (past_of ledger) view commit

-- What a node signs: the root of the tree of all entries, and the signature's identifier and
-- commit.
abbrev pub message_of : Past → ℕ → ℕ → List ℕ
message_of p view commit = signed_message p.root view (p.len + 1) commit

abbrev pub message_after : List Entry → ℕ → ℕ → List ℕ
message_after ledger view commit = message_of (past_of ledger) view commit

-- The opening ledger: the genesis, and the first signature, which records its own seqno.
abbrev pub opening_ledger : founding.Genesis → NodeId → List ℕ → List Entry
opening_ledger g node signature =
    genesis_entry g ∷ signature_entry node signature (genesis_entry g ∷ []) first_view 2 ∷ []

-- No entry has a view above this one.
abbrev pub HasViewsUpTo : ℕ → List Entry → Type 0
HasViewsUpTo view ledger =
    (i : ℕ) (e : Entry) → slice_get ledger i ≡ Some e → e.view ≤ view

-- The entry of a request that ran.
abbrev pub application_after : Past → ℕ → List Operation → Ran → Entry
application_after p view operations ran = record {
  view = view;
  seqno = p.len + 1;
  content = content.Application (request_bytes operations);
  writes = ran.writes;
  claims = sha256 (reply_bytes ran.reply);
}

abbrev pub application_entry : List Entry → ℕ → List Operation → Ran → Entry
application_entry ledger view operations ran =
    application_after (past_of ledger) view operations ran

-- What was made after so many entries, unless no seqno is left that an identifier can name.
abbrev pub within_named : {X : Type 0} → ℕ → X → Result X Refusal
within_named len made = if nat_lt len last_seqno then Ok made else Err refusals.SeqnoLimit

abbrev pub within_seqnos : {X : Type 0} → List Entry → X → Result X Refusal
within_seqnos ledger made = within_named (length ledger) made

-- What was made, unless a size is above the limit of bodies and replies.
abbrev pub within_size : {X : Type 0} → ℕ → Result X Refusal → Result X Refusal
within_size size made = if nat_lt body_limit size then Err (refusals.TooLarge size) else made

-- An entry and its reply, unless the body is too large, or else the reply, or no seqno is left.
abbrev pub within_limits_after : ℕ → Entry → List Answer → Result (Entry × List Answer) Refusal
within_limits_after len e answers =
    within_size (length (body_bytes e))
    (within_size (length (reply_bytes answers)) (within_named len (e, answers)))

abbrev pub within_limits : List Entry → Entry → List Answer → Result (Entry × List Answer) Refusal
within_limits ledger e answers = within_limits_after (length ledger) e answers

-- What a request that ran makes: its entry and its reply, or its abort.
abbrev pub run_after : Past → ℕ → List Operation → Result Ran Abort →
    Result (Entry × List Answer) Refusal
run_after p view operations (Err abort) = Err (refusals.Aborted abort)
run_after p view operations (Ok ran) =
    within_limits_after p.len (application_after p view operations ran) ran.reply

abbrev pub run_result : List Entry → ℕ → List Operation → Result Ran Abort →
    Result (Entry × List Answer) Refusal
run_result ledger view operations ran = run_after (past_of ledger) view operations ran

-- The same, in a service that is in this state: unless it is open, the request is refused.
abbrev pub execute_state : ServiceState → Past → ℕ → List Operation →
    Result (Entry × List Answer) Refusal
execute_state Open p view operations = run_after p view operations (run operations p.tables)
execute_state state p view operations = Err (refusals.ServiceState state)

abbrev pub execute_in : ServiceState → List Entry → ℕ → List Operation →
    Result (Entry × List Answer) Refusal
execute_in state ledger view operations = execute_state state (past_of ledger) view operations

-- What an application request makes: an entry and a reply, or its refusal.
abbrev pub execute_after : Past → ℕ → List Operation → Result (Entry × List Answer) Refusal
execute_after p view operations = execute_state (service_state p.tables) p view operations

abbrev pub execute_result : List Entry → ℕ → List Operation → Result (Entry × List Answer) Refusal
execute_result ledger view operations = execute_after (past_of ledger) view operations

-- What a node's signature, of these bytes, makes.
abbrev pub sign_after : NodeId → List ℕ → Past → ℕ → ℕ → Result Entry Refusal
sign_after node signature p view commit =
    within_named p.len (signature_entry_after node signature p view commit)

abbrev pub sign_result : NodeId → List ℕ → List Entry → ℕ → ℕ → Result Entry Refusal
sign_result node signature ledger view commit =
    sign_after node signature (past_of ledger) view commit
