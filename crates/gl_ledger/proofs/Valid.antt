-- Valid ledgers: they are sound, an entry that breaks no rule keeps one valid, and where it was
-- opened entries may be made after it.
use Rattle.std.proofs.Common.{◌≡◌, ℕ, ◌+◌, ◌-◌, ◌<◌, ◌≤◌, List, [], ◌∷◌, ◌++◌, length, None, Ok, true, false, refl, sym, ◌∙◌, ap, arith}
use Rattle.gl_base.specs.TxId.{last_seqno}
use Rattle.gl_base.proofs.Lists.{slice_get-below}
use Rattle.gl_hss.specs.declared.types.Types.TheVariants.{H5W4}
use Rattle.gl_rules.specs.Identity.{NodeId, member}
use Rattle.gl_entry.specs.Entry.{is_entry}
use Rattle.gl_entry.specs.declared.entry.Entry.{Entry}
use Rattle.gl_tx.specs.Request.{is_request}
use Rattle.gl_tx.specs.declared.request.Operation.{Operation}
use Rattle.gl_tx.specs.declared.request.Answer.{Answer}
use Rattle.gl_ledger.specs.Ledger.{HasViewsUpTo, execute_result, signature_entry}
use Rattle.gl_ledger.specs.Layers.{Layers}
use Rattle.gl_ledger.specs.NodeKeys.{NodeKeys}
use Rattle.gl_ledger.specs.Recordings.{last_entry, recorded_nodes}
use Rattle.gl_ledger.specs.Past.{is_unopened, past_of}
use Rattle.gl_ledger.specs.Broken.{breach, may_record, fault_of_signature, broken}
use Rattle.gl_ledger.specs.Sound.{IsSound}
use Rattle.gl_ledger.specs.Makers.{MayMake}
use Rattle.gl_ledger.specs.LedgerBook.{by_rule}
use Rattle.gl_ledger.specs.Audit.{audited}
use Rattle.gl_ledger.proofs.Auditing.{audited_none, audited_all}
use Rattle.gl_ledger.proofs.Governed.{followed}
use Rattle.gl_ledger.proofs.MadeEntries.{executed_unbroken, signature_with, signed_broken}
use Rattle.gl_ledger.proofs.Passing.{passes}
use Rattle.gl_ledger.proofs.Pushes.{each-push}

-- an audit asks for no keys, so any will do
any_keys : NodeKeys
any_keys = record { key_of = λ x. record { types = H5W4; identifier = []; seed = [] } }

module _ (layers : Layers) where
  pub valid_sound : (ledger : List Entry) → audited layers ledger ≡ None → IsSound layers ledger
  valid_sound ledger h = followed layers any_keys ledger (λ i e at. ap by_rule (audited_none layers ledger h i e at))

  pub valid-push : (ledger : List Entry) (e : Entry) → audited layers ledger ≡ None → broken layers ledger e ≡ None → audited layers (ledger ++ e ∷ []) ≡ None
  valid-push ledger e h one = audited_all layers (ledger ++ e ∷ []) (each-push (λ i before f. broken layers before f ≡ None) ledger e (audited_none layers ledger h) one)

  -- after a last entry with which no service begins
  pub may_make_after : (ledger : List Entry) (view : ℕ) → 0 < length ledger → is_unopened (last_entry ledger) ≡ false → HasViewsUpTo view ledger → MayMake ledger view
  may_make_after ledger view some opened up =
      let last = slice_get-below ledger (length ledger - 1) (omega (arith, some)) in
      record {
        last = last.0;
        is_last = last.1;
        opened = ap is_unopened (sym last.1) ∙ opened;
        up = up (length ledger - 1) last.0 last.1;
      }

  module _ (ledger : List Entry) (view : ℕ) (m : MayMake ledger view) where
    -- what a request makes breaks no rule
    pub request_unbroken : (q : List Operation) (e : Entry) (a : List Answer) → is_request q ≡ true → execute_result ledger view q ≡ Ok (e, a) → is_entry e ≡ true → broken layers ledger e ≡ None
    request_unbroken q e a fits h one = executed_unbroken layers any_keys ledger view m q e a fits h one

    -- nor does a node's valid signature, of whatever bytes, with a commit that may be recorded
    pub signature_unbroken : (x : NodeId) (bytes : List ℕ) (commit : ℕ) → length ledger + 1 ≤ last_seqno → is_entry (signature_entry x bytes ledger view commit) ≡ true →
        fault_of_signature layers (past_of ledger) (signature_entry x bytes ledger view commit) (signature_with x bytes ledger commit) ≡ None → member x (recorded_nodes ledger) ≡ true → may_record (past_of ledger) commit ≡ true →
        broken layers ledger (signature_entry x bytes ledger view commit) ≡ None
    signature_unbroken x bytes commit left fits valid named records =
        let e = signature_entry x bytes ledger view commit in
        let seqno = length ledger + 1 in
        signed_broken layers any_keys ledger view m x bytes commit (omega arith) fits valid
        ∙ passes (member x (recorded_nodes ledger)) (breach 9 seqno e) _ named (passes (may_record (past_of ledger) commit) (breach 10 seqno e) None records refl)
