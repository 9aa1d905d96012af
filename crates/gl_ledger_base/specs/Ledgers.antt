-- The ledgers that a body and the entries behind it stand for, and when the rules read the same of
-- two pasts.
use Rattle.std.specs.Prelude.{◌≡◌, ℕ, ◌+◌, ◌<◌, List, [], ◌∷◌, ◌++◌, Option, None, true, length, min}
use Rattle.gl_rules.specs.Identity.{NodeId}
use Rattle.gl_entry.specs.declared.entry.Entry.{Entry}
use Rattle.gl_requests.specs.Ranges.{is_request}
use Rattle.gl_requests.specs.declared.request.GovernanceRequest.{GovernanceRequest}
use Rattle.gl_gov_rules.specs.declared.change.Recorded.{Recorded}
use Rattle.gl_gov_rules.specs.Nodes as recorded
use Rattle.gl_gov_rules.specs.ProposalStatus.{proposal_status}
use Rattle.gl_gov_rules.specs.Refusals.{refusal}
use Rattle.gl_gov_rules.specs.Rows as gov
use Rattle.gl_snapshot_body.specs.declared.body.Body.{Body}
use Rattle.gl_ledger.specs.Audit.{LedgerFault, fault_or}
use Rattle.gl_ledger.specs.Broken.{broken_from, effect_after, is_above_removal}
use Rattle.gl_ledger.specs.Layers.{Layers}
use Rattle.gl_ledger.specs.Past.{Past}
use Rattle.gl_ledger.specs.Recordings.{endorsement_found, key_found}
use Rattle.gl_ledger.specs.Signed.{IsSignedUpTo}
use Rattle.gl_ledger.specs.Snapshot.{snapshot_of}

module _ (layers : Layers) where
  -- Each entry is tried after those before it; of these each one up to the base counts as a
  -- signature.
  abbrev pub fault_counting : ℕ → List Entry → List Entry → Option LedgerFault
  fault_counting base before [] = None
  fault_counting base before (e ∷ es) =
      fault_or (length before + 1) (broken_from layers (min base (length before)) before e)
      (fault_counting base (before ++ e ∷ []) es)

  -- The audit of a ledger, as a node does it that can't tell which of the entries up to a base are
  -- signatures. At base 0 it is that of a whole ledger.
  abbrev pub audited_from : ℕ → List Entry → Option LedgerFault
  audited_from base ledger = fault_counting base [] ledger

  -- The ledger that a body tells of: it ends with a signature, or is empty, and breaks no rule,
  -- where each entry of it counts as a signature.
  pub record IsBase (body : Body) (below : List Entry) : Type 0 where
    pub valid : audited_from (length below) below ≡ None
    pub ends : IsSignedUpTo below (length below)
    pub snapshot : snapshot_of below ≡ body

  -- A ledger that a body and the entries behind it stand for.
  pub record HoldsLedger (body : Body) (entries ledger : List Entry) : Type 0 where
    pub below : List Entry
    pub base : IsBase body below
    pub whole : ledger ≡ below ++ entries

-- Two pasts of which the rules read the same.
pub record AreAlike (p q : Past) : Type 0 where
  pub len : p.len ≡ q.len
  pub last : p.last ≡ q.last
  pub tables : p.tables ≡ q.tables
  pub root : p.root ≡ q.root
  pub signs : (seqno : ℕ) → p.signs_at seqno ≡ q.signs_at seqno
  pub last_signed : p.last_signed ≡ q.last_signed
  pub last_commit : p.last_commit ≡ q.last_commit
  pub snapshot : p.snapshot ≡ q.snapshot
  -- the nodes, their removals, and what marks ask of a commit
  pub nodes : p.nodes ≡ q.nodes
  pub removals : (y : NodeId) → p.removal y ≡ q.removal y
  pub marks : (y : NodeId) (commit : ℕ) →
      is_above_removal (p.mark y) (p.removal y) p.last_signed commit
      ≡ is_above_removal (q.mark y) (q.removal y) q.last_signed commit
  pub trusted : recorded.trusted p.history ≡ recorded.trusted q.history
  pub keys : (y : NodeId) →
      key_found (recorded.node p.history y) ≡ key_found (recorded.node q.history y)
  pub endorsements : (y : NodeId) →
      endorsement_found (recorded.node p.history y) ≡ endorsement_found (recorded.node q.history y)
  -- the rows of governance; of a request at a seqno above the entries why it is refused, and of one
  -- that isn't what it writes, and the state of each proposal after it
  pub rows : gov.rows p.history ≡ gov.rows q.history
  pub refusals : (seqno : ℕ) (g : GovernanceRequest) → p.len < seqno → is_request g ≡ true →
      refusal p.history seqno g ≡ refusal q.history seqno g
  pub effects : (r : Recorded) → p.len < r.seqno → is_request r.request ≡ true →
      refusal p.history r.seqno r.request ≡ None → effect_after p r ≡ effect_after q r
  pub statuses : (r : Recorded) (g : GovernanceRequest) → p.len < r.seqno →
      is_request r.request ≡ true → refusal p.history r.seqno r.request ≡ None →
      proposal_status (p.after r) g ≡ proposal_status (q.after r) g
