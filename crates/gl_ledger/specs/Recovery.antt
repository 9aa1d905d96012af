-- How a service is recovered, after a disaster, after the last signature of its ledger (CCF
-- documentation, "Disaster Recovery"): by the entry of a recovery, which names another key and
-- other nodes, and by the signature of one of these that opens the service.
use Rattle.std.specs.Prelude.{◌≡◌, ◌<◌, ◌≤◌, ◌+◌, ◌^◌, ℕ, List, [], ◌∷◌, ◌++◌, Option, None, Some, Result, Ok, Err, true, length, map}
use Rattle.gl_base.specs.TxId.{last_seqno}
use Rattle.gl_rules.specs.Identity.{NodeId, member}
use Rattle.gl_entry.specs.Entry.{body_bytes}
use Rattle.gl_entry.specs.declared.entry.Entry.{Entry}
use Rattle.gl_requests.specs.Encoding.{node_id}
use Rattle.gl_requests.specs.Ranges.{is_request}
use Rattle.gl_requests.specs.declared.genesis.Recovery.{Recovery}
use Rattle.gl_requests.specs.declared.request.GovernanceRequest.TheVariants as requests
use Rattle.gl_gov_rules.specs.declared.refusal.GovernanceRefusal.{GovernanceRefusal}
use Rattle.gl_gov_rules.specs.Changes.{history}
use Rattle.gl_gov_rules.specs.Refusals.{refusal}
use Rattle.gl_ledger.specs.Ledger.{governance_entry, signature_entry, within_size}
use Rattle.gl_ledger.specs.declared.refusal.Refusal.{Refusal}
use Rattle.gl_ledger.specs.declared.refusal.Refusal.TheVariants as refusals
use Rattle.gl_ledger.specs.Layers.{Layers}
use Rattle.gl_ledger.specs.NodeKeys.{NodeKeys}
use Rattle.gl_ledger.specs.Recordings.{last_entry, requests_of}
use Rattle.gl_ledger.specs.Makers.{signature_after, MakesValid}
use Rattle.gl_ledger.specs.Audit.{audited}
use Rattle.gl_ledger.specs.Past.{signs_at}

-- The view of the last entry, 0 where there is none.
abbrev pub view_of_last : Option Entry → ℕ
view_of_last None = 0
view_of_last (Some last) = last.view

-- The view in which a service is recovered: the one after the view of the ledger's last entry.
abbrev pub recovery_view : List Entry → ℕ
recovery_view ledger = view_of_last (last_entry ledger) + 1

-- The entry of a recovery after a ledger, with the write set of its effect.
abbrev pub recovery_entry : Recovery → List Entry → Entry
recovery_entry r ledger = governance_entry (requests.Recover r) ledger (recovery_view ledger)

-- The ledger with that entry.
abbrev pub with_recovery : Recovery → List Entry → List Entry
with_recovery r ledger = ledger ++ recovery_entry r ledger ∷ []

-- What was made, unless the rules of governance refuse it.
abbrev pub where_accepted : {X : Type 0} → Option GovernanceRefusal → Result X Refusal →
    Result X Refusal
where_accepted None made = made
where_accepted (Some why) made = Err (refusals.Governance why)

-- What a recovery makes after a ledger, its entry; unless the rules of governance refuse it, or
-- else the body is too large.
abbrev pub recovery_result : Recovery → List Entry → Result Entry Refusal
recovery_result r ledger =
    where_accepted (refusal (history (requests_of ledger)) (length ledger + 1) (requests.Recover r))
    (within_size (length (body_bytes (recovery_entry r ledger))) (Ok (recovery_entry r ledger)))

-- The recovered ledger: the old one, the recovery, and the signature that opens the service again,
-- which is of the recovery's view and records its own seqno.
abbrev pub recovered_ledger : Recovery → NodeId → List ℕ → List Entry → List Entry
recovered_ledger r node signature ledger =
    with_recovery r ledger ++ signature_entry node signature (with_recovery r ledger)
    (recovery_view ledger) (length ledger + 2) ∷ []

-- The recovered ledger whose opening signature a node makes with one of its leaves. The node's key
-- may have spent others.
abbrev pub recovered_of : NodeKeys → Recovery → NodeId → ℕ → List Entry → List Entry
recovered_of keys r x leaf ledger =
    recovered_ledger r x
    (signature_after keys x leaf (with_recovery r ledger) (recovery_view ledger)
    (length ledger + 2)) ledger

-- The ledger is valid and ends with a signature, and views and seqnos are left for two entries
-- more. The fields of the recovery are in their ranges, it is accepted, and a node that it names
-- signs validly after it, with this leaf.
pub record Refounds (layers : Layers) (keys : NodeKeys) (ledger : List Entry) (r : Recovery)
    (x : NodeId) (leaf : ℕ) : Type 0 where
  pub valid : audited layers ledger ≡ None
  pub signed : signs_at (last_entry ledger) ≡ true
  pub view : recovery_view ledger < 2 ^ 32
  pub left : length ledger + 2 ≤ last_seqno
  pub fits : is_request (requests.Recover r) ≡ true
  pub accepted : recovery_result r ledger ≡ Ok (recovery_entry r ledger)
  pub named : member x (map node_id r.nodes) ≡ true
  pub signs : MakesValid layers keys x leaf (with_recovery r ledger) (recovery_view ledger)
      (length ledger + 2)
