-- Which entries that a store makes break no rule.
use Rattle.std.proofs.Common.{◌≡◌, ℕ, ◌+◌, ◌<◌, List, [], length, Some, None, Ok, true, false, sym, ◌∙◌, ap, subst}
use Rattle.gl_base.specs.TxId.{last_seqno}
use Rattle.gl_hss.specs.declared.types.Types.TheVariants.{H5W4}
use Rattle.gl_tx.specs.Request.{is_request}
use Rattle.gl_tx.specs.declared.request.Operation.{Operation}
use Rattle.gl_tx.specs.declared.request.Answer.{Answer}
use Rattle.gl_entry.specs.Entry.{is_entry}
use Rattle.gl_entry.specs.declared.entry.Entry.{Entry}
use Rattle.gl_requests.specs.Ranges as ranges
use Rattle.gl_requests.specs.declared.request.GovernanceRequest.{GovernanceRequest}
use Rattle.gl_ledger.specs.Ledger.{HasViewsUpTo, genesis_entry, governance_entry, execute_result}
use Rattle.gl_ledger.specs.NodeKeys.{service_layers, NodeKeys}
use Rattle.gl_ledger.specs.Recordings.{last_entry, requests_of}
use Rattle.gl_ledger.specs.Past.{is_unopened}
use Rattle.gl_ledger.specs.Broken.{broken}
use Rattle.gl_requests.specs.declared.genesis.Genesis as founding
use Rattle.gl_gov_rules.specs.Governed as governance
use Rattle.gl_gov_rules.specs.Changes.{history}
use Rattle.gl_gov_rules.specs.History.{no_history}
use Rattle.gl_gov_rules.specs.Refusals.{refusal, genesis_refusal}
use Rattle.gl_requests.specs.declared.request.GovernanceRequest.TheVariants as requests
use Rattle.gl_ledger.proofs.OpeningLaws.{founding_unbroken}
use Rattle.gl_ledger.proofs.MadeEntries.{governed_unbroken}
use Rattle.gl_ledger.proofs.Valid.{may_make_after, request_unbroken}
use Rattle.gl_gov_rules.specs.declared.refusal.GovernanceRefusal.{GovernanceRefusal}
use Rattle.gl_gov_rules.proofs.FoundingAccepted.{refusal_of_genesis}
use Rattle.gl_ledger.proofs.GenesisEntries.{genesis_is_entry}

-- what a request makes
pub execution_unbroken : (ledger : List Entry) (view : ℕ) (q : List Operation) (e : Entry) (a : List Answer) → 0 < length ledger → is_unopened (last_entry ledger) ≡ false →
    HasViewsUpTo view ledger → is_request q ≡ true → execute_result ledger view q ≡ Ok (e, a) → is_entry e ≡ true → broken service_layers ledger e ≡ None
execution_unbroken ledger view q e a some opened up fits h one = request_unbroken service_layers ledger view (may_make_after service_layers ledger view some opened up) q e a fits h one

-- the rules ask for no keys, so any will do
any_keys : NodeKeys
any_keys = record { key_of = λ x. record { types = H5W4; identifier = []; seed = [] } }

-- what a request of governance makes that founds nothing and is accepted
pub governance_unbroken : (ledger : List Entry) (view : ℕ) (g : GovernanceRequest) (e : Entry) → 0 < length ledger → is_unopened (last_entry ledger) ≡ false →
    HasViewsUpTo view ledger → ranges.is_request g ≡ true → governance.is_founding g ≡ false → governance.is_recovery g ≡ false → refusal (history (requests_of ledger)) (length ledger + 1) g ≡ None → length ledger < last_seqno →
    e ≡ governance_entry g ledger view → is_entry e ≡ true → broken service_layers ledger e ≡ None
governance_unbroken ledger view g e some opened up fits founding recovery accepted left made one =
    subst (λ (x : Entry). broken service_layers ledger x ≡ None) (sym made)
    (governed_unbroken service_layers any_keys ledger view (may_make_after service_layers ledger view some opened up) g fits accepted founding recovery left (subst (λ (x : Entry). is_entry x ≡ true) made one))

-- the entry of a genesis, where there is no other
pub genesis_made : (g : founding.Genesis) (ledger : List Entry) (e : Entry) → ledger ≡ [] → e ≡ governance_entry (requests.Genesis g) ledger 2 → e ≡ genesis_entry g
genesis_made g ledger e none made = made ∙ ap (λ (es : List Entry). governance_entry (requests.Genesis g) es 2) none

-- fits its format
pub genesis_fits : (g : founding.Genesis) (ledger : List Entry) (e : Entry) → genesis_refusal no_history g ≡ None → ranges.is_genesis g ≡ true → ledger ≡ [] →
    e ≡ governance_entry (requests.Genesis g) ledger 2 → is_entry e ≡ true
genesis_fits g ledger e accepted fits none made = ap is_entry (genesis_made g ledger e none made) ∙ genesis_is_entry g fits accepted

-- and is not refused
pub genesis_accepted : (g : founding.Genesis) (ledger : List Entry) (why : GovernanceRefusal) → genesis_refusal no_history g ≡ None → ledger ≡ [] →
    refusal (history (requests_of ledger)) (length ledger + 1) (requests.Genesis g) ≡ Some why → ⊥
genesis_accepted g ledger why accepted none refused =
    let known = sym (ap (λ (es : List Entry). refusal (history (requests_of es)) (length es + 1) (requests.Genesis g)) none ∙ refusal_of_genesis g ∙ accepted) ∙ refused in cc

-- so no rule refuses it
pub genesis_unbroken : (g : founding.Genesis) (ledger : List Entry) (e : Entry) → genesis_refusal no_history g ≡ None → ranges.is_genesis g ≡ true → ledger ≡ [] → e ≡ genesis_entry g → broken service_layers ledger e ≡ None
genesis_unbroken g ledger e accepted fits none made =
    subst (λ (es : List Entry). broken service_layers es e ≡ None) (sym none)
    (subst (λ (x : Entry). broken service_layers [] x ≡ None) (sym made)
    (founding_unbroken service_layers g fits accepted))
