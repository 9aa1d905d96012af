-- What the book of a ledger makes, told by the body of a snapshot and the entries behind it.
use Rattle.std.specs.Prelude.{ℕ, List, Option, None, Some, Result, Ok, Err}
use Rattle.gl_rules.specs.Identity.{NodeId}
use Rattle.gl_tx.specs.declared.request.Operation.{Operation}
use Rattle.gl_entry.specs.declared.entry.Entry.{Entry}
use Rattle.gl_requests.specs.declared.request.GovernanceRequest.{GovernanceRequest}
use Rattle.gl_gov_rules.specs.Nodes.{node}
use Rattle.gl_snapshot_body.specs.declared.body.Body.{Body}
use Rattle.gl_ledger.specs.Broken.{broken_over}
use Rattle.gl_ledger.specs.Layers.{Layers}
use Rattle.gl_ledger.specs.Ledger.{message_of, sign_after}
use Rattle.gl_ledger.specs.Makers.{by_store, evidence_result, govern_after, request_after, unless_broken}
use Rattle.gl_ledger.specs.NodeKeys.{NodeKeys, node_signature}
use Rattle.gl_ledger.specs.Past.{Last, past_over}
use Rattle.gl_ledger.specs.Recordings.{endorsement_found}
use Rattle.gl_ledger.specs.declared.response.Response.{Response}
use Rattle.gl_ledger.specs.declared.response.Rejection.{Rejection}
use Rattle.gl_ledger.specs.declared.response.Rejection.TheVariants.{NoEntry}

-- Nothing is signed where no entry stands last.
abbrev pub unless_first : {X : Type 0} → Option Last → Result X Rejection → Result X Rejection
unless_first None made = Err NoEntry
unless_first (Some last) made = made

-- A node's signature with one of its leaves, which records this commit: with the endorsement that
-- is told of the node.
module _ (keys : NodeKeys) (body : Body) (es : List Entry) where
  abbrev pub signature_over : NodeId → ℕ → ℕ → ℕ → List ℕ
  signature_over x leaf view commit =
      let p = past_over body es in
      node_signature keys (endorsement_found (node p.history x)) x leaf
      (message_of p view commit)

module _ (layers : Layers) (body : Body) (es : List Entry) where
  -- What was made, unless its entry breaks a rule after body and entries.
  abbrev pub guarded_over : {X : Type 0} → (X → Entry) → Result X Rejection → Result X Rejection
  guarded_over entry_of (Ok made) =
      unless_broken (broken_over layers body es (entry_of made)) made
  guarded_over entry_of (Err why) = Err why

  abbrev pub execute_over : ℕ → List Operation → Result (Entry × Response) Rejection
  execute_over view q = guarded_over (λ made. made.0) (request_after (past_over body es) view q)

  abbrev pub govern_over : ℕ → GovernanceRequest → Result (Entry × Response) Rejection
  govern_over view g = guarded_over (λ made. made.0) (govern_after (past_over body es) view g)

  abbrev pub evidence_over : ℕ → Result Entry Rejection
  evidence_over view = guarded_over (λ made. made) (evidence_result (past_over body es) view)

  abbrev pub sign_over : NodeKeys → NodeId → ℕ → ℕ → ℕ → Result Entry Rejection
  sign_over keys x leaf view commit =
      let p = past_over body es in
      let bytes = signature_over keys body es x leaf view commit in
      guarded_over (λ made. made)
      (unless_first p.last (by_store (sign_after x bytes p view commit)))
