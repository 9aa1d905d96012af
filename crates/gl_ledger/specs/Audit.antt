-- The audit of a ledger, and the check of an opening ledger: the rules, entry by entry.
use Rattle.std.specs.Prelude.{◌≡◌, ℕ, zero, suc, ◌+◌, ◌-◌, ◌<◌, List, [], ◌∷◌, ◌++◌, Option, None, Some, Result, Ok, Err, Bool, true, false, length, take, slice_get}
use Rattle.gl_rules.specs.Identity.{NodeId}
use Rattle.gl_entry.specs.declared.entry.Content.{Content}
use Rattle.gl_entry.specs.declared.entry.Content.TheVariants as content
use Rattle.gl_entry.specs.declared.entry.Entry.{Entry}
use Rattle.gl_snapshot_body.specs.declared.body.Body.{Body}
use Rattle.gl_ledger.specs.Layers.{Layers}
use Rattle.gl_ledger.specs.Recordings.{last_entry}
use Rattle.gl_ledger.specs.declared.breach.Broken.{Broken}
use Rattle.gl_ledger.specs.Past.{is_unopened}
use Rattle.gl_ledger.specs.Broken.{broken, broken_over}

-- The seqno of an entry that breaks a rule, and the rule.
pub record LedgerFault : Type 0 where
  pub seqno : ℕ
  pub broken : Broken

abbrev pub fault_or : ℕ → Option Broken → Option LedgerFault → Option LedgerFault
fault_or seqno None rest = rest
fault_or seqno (Some broken) rest = Some (record { seqno = seqno; broken = broken })

-- The node of a signature.
abbrev pub signer_in : Content → Option NodeId
signer_in (content.Signature s) = Some s.node
signer_in (content.Governance bytes) = None
signer_in (content.Application bytes) = None
signer_in (content.Evidence d) = None

abbrev pub signer_of : Option Entry → Option NodeId
signer_of None = None
signer_of (Some e) = signer_in e.content

abbrev pub opened_where : Bool → Option NodeId → ℕ → Result NodeId ℕ
opened_where true (Some x) seqno = Ok x
opened_where true None seqno = Err seqno
opened_where false signer seqno = Err seqno

module _ (layers : Layers) where
  abbrev pub fault_from : List Entry → List Entry → Option LedgerFault
  fault_from before [] = None
  fault_from before (e ∷ es) =
      fault_or (length before + 1) (broken layers before e) (fault_from (before ++ e ∷ []) es)

  -- The first entry of a ledger that breaks a rule after those before it, if one does. An empty
  -- ledger has none; that it founds no service is for the audit of a file to say.
  unfoldable pub audited : List Entry → Option LedgerFault
  audited ledger = fault_from [] ledger

  -- The same of entries behind a base.
  abbrev pub fault_behind : Body → List Entry → List Entry → Option LedgerFault
  fault_behind body before [] = None
  fault_behind body before (e ∷ es) =
      fault_or (body.base + length before + 1) (broken_over layers body before e)
      (fault_behind body (before ++ e ∷ []) es)

  abbrev pub audited_at : ℕ → Body → List Entry → Option LedgerFault
  audited_at zero body es = audited es
  audited_at (suc before) body es = fault_behind body [] es

  -- The first of the entries behind a base that breaks a rule, if one does. Where the base is 0
  -- they are a whole ledger.
  abbrev pub audited_over : Body → List Entry → Option LedgerFault
  audited_over body es = audited_at body.base body es

  -- What a fault tells: the entries before it break no rule, and the one at its seqno breaks this
  -- one.
  pub record IsFaultOf (ledger : List Entry) (fault : LedgerFault) : Type 0 where
    pub before : ℕ
    pub seqno : fault.seqno ≡ suc before
    pub entry : Entry
    pub at : slice_get ledger before ≡ Some entry
    pub breaks : broken layers (take before ledger) entry ≡ Some fault.broken
    pub follow : (i : ℕ) (e : Entry) → i < before → slice_get ledger i ≡ Some e →
        broken layers (take i ledger) e ≡ None

  abbrev pub opened_unless : Option LedgerFault → List Entry → Result NodeId ℕ
  opened_unless (Some fault) ledger = Err fault.seqno
  opened_unless None ledger =
      opened_where (is_unopened (last_entry (take (length ledger - 1) ledger)))
      (signer_of (last_entry ledger)) (length ledger)

  -- The node that signed a ledger that opens a service; or the seqno of the first entry that breaks
  -- a rule, else of the last entry where that is no opening signature, 0 for none.
  unfoldable pub opened : List Entry → Result NodeId ℕ
  opened ledger = opened_unless (audited ledger) ledger
