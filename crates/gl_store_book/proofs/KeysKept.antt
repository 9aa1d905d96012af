-- The service's key in force: an entry after one that is no signature leaves it.
use Rattle.std.proofs.Common.{◌≡◌, ℕ, ◌+◌, List, [], ◌∷◌, ◌++◌, length, Option, Some, None, Bool, true, false, not, ◌&&◌, ◌||◌, ◌==◌, refl, sym, ◌∙◌, ap, subst}
use Rattle.std.specs.FinMap as rows
use Rattle.std.proofs.lemmas.Bool.{and_parts}
use Rattle.std.proofs.lemmas.Option.{same_Some}
use Rattle.gl_vmaps.specs.Tables.{Rows}
use Rattle.gl_entry.specs.declared.entry.Content.{Content}
use Rattle.gl_entry.specs.declared.entry.Content.TheVariants as content
use Rattle.gl_entry.specs.declared.entry.Entry.{Entry}
use Rattle.gl_requests.specs.Parsing.{request_in}
use Rattle.gl_requests.specs.declared.request.GovernanceRequest.{GovernanceRequest}
use Rattle.gl_gov_rules.specs.Changes.{history}
use Rattle.gl_gov_rules.specs.Governed.{IsGoverned, is_nothing}
use Rattle.gl_gov_rules.specs.Rows.{effect, service_key, service_map}
use Rattle.gl_gov_rules.specs.Service.{identity}
use Rattle.gl_gov_rules.specs.declared.change.Recorded.{Recorded}
use Rattle.gl_gov_rules.proofs.KeptIdentity.{identity_kept}
use Rattle.gl_gov_rules.proofs.RowOfService.{founded_row, identity_reported}
use Rattle.gl_ledger.specs.Past.{Last}
use Rattle.gl_ledger.specs.Broken.{is_in_order}
use Rattle.gl_ledger.specs.Recordings.{governance_recording, is_founding, is_recovering, is_signing, recording_of, requests_of}
use Rattle.gl_ledger.specs.ServiceRow.{identity_in, identity_of_value}
use Rattle.gl_ledger.specs.Sound.{HasGovernedTables}
use Rattle.gl_ledger.specs.Tree.{tables_of}
use Rattle.gl_ledger.specs.declared.recording.Recording.{Recording}
use Rattle.gl_ledger.specs.declared.recording.Recording.TheVariants as recordings
use Rattle.gl_ledger.proofs.Founded.{reported_key}
use Rattle.gl_ledger.proofs.Gathering.{requests-more, requests-quiet}
use Rattle.gl_ledger.proofs.Growth.{IsNoGovernance}

-- The requests of governance of a ledger were accepted, and its rows are their effect; some founds
-- the service.
pub record IsKeyed (ledger : List Entry) : Type 0 where
  pub governed : IsGoverned (requests_of ledger)
  pub tables : HasGovernedTables ledger
  pub founded : is_nothing (requests_of ledger) ≡ false

-- the key that its row tells is the one that the requests tell
key_told : (ledger : List Entry) → IsKeyed ledger → identity (history (requests_of ledger)) ≡ Some (identity_in (tables_of ledger))
key_told ledger all = go (requests_of ledger) refl
  where
    go : (rs : List Recorded) → requests_of ledger ≡ rs → identity (history (requests_of ledger)) ≡ Some (identity_in (tables_of ledger))
    go [] is = absurd (let none = sym all.founded ∙ ap is_nothing is in cc)
    go (r ∷ rs) is =
        let governed : IsGoverned (r ∷ rs) = subst IsGoverned is all.governed in
        let row = founded_row r rs governed in
        let reported = identity_reported (r ∷ rs) row.0 row.1 in
        let same : identity_in (tables_of ledger) ≡ row.0.identity =
        ap (λ (t : Rows). identity_of_value (rows.get t service_key)) (all.tables service_map refl ∙ ap (λ (qs : List Recorded). effect qs service_map) is)
        ∙ reported_key r rs row.0.identity governed reported in
        ap (λ (qs : List Recorded). identity (history qs)) is ∙ reported ∙ ap Some (sym same)

-- a request that founds and recovers nothing leaves the key
requests_keep : (ledger : List Entry) (e : Entry) (t : Recording) (c : Content) → e.content ≡ c → recording_of c ≡ Some t → is_founding t ≡ false → is_recovering t ≡ false →
    identity (history (requests_of (ledger ++ e ∷ []))) ≡ identity (history (requests_of ledger))
requests_keep ledger e t (content.Signature s) is reads founds recovers = ap (λ (rs : List Recorded). identity (history rs)) (requests-quiet ledger e (subst IsNoGovernance (sym is) tt))
requests_keep ledger e t (content.Evidence d) is reads founds recovers = ap (λ (rs : List Recorded). identity (history rs)) (requests-quiet ledger e (subst IsNoGovernance (sym is) tt))
requests_keep ledger e t (content.Application bytes) is reads founds recovers = ap (λ (rs : List Recorded). identity (history rs)) (requests-quiet ledger e (subst IsNoGovernance (sym is) tt))
requests_keep ledger e t (content.Governance bytes) is reads founds recovers = go (request_in bytes) refl reads
  where
    go : (o : Option GovernanceRequest) → request_in bytes ≡ o → governance_recording o ≡ Some t → identity (history (requests_of (ledger ++ e ∷ []))) ≡ identity (history (requests_of ledger))
    go None none read = absurd (cc)
    go (Some g) some read =
        let same : recordings.Governance g ≡ t = cc in
        ap (λ (rs : List Recorded). identity (history rs)) (requests-more ledger e bytes g is some)
        ∙ identity_kept (requests_of ledger) (record { seqno = length ledger + 1; request = g }) (ap is_founding same ∙ founds) (ap is_recovering same ∙ recovers)

-- so the entry does that records it
pub key_steady : (ledger : List Entry) (e : Entry) (t : Recording) → IsKeyed ledger → IsKeyed (ledger ++ e ∷ []) → recording_of e.content ≡ Some t → is_founding t ≡ false → is_recovering t ≡ false →
    identity_in (tables_of (ledger ++ e ∷ [])) ≡ identity_in (tables_of ledger)
key_steady ledger e t before after reads founds recovers =
    same_Some (identity_in (tables_of (ledger ++ e ∷ []))) (identity_in (tables_of ledger))
    (sym (key_told (ledger ++ e ∷ []) after) ∙ requests_keep ledger e t e.content refl reads founds recovers ∙ key_told ledger before)

-- ---- the order

never : (b : Bool) → not b ≡ true → b ≡ false
never true h = absurd (cc)
never false h = refl

either : (a b : Bool) → (not a || b) ≡ true → b ≡ false → a ≡ false
either true b h off = absurd (let both = sym off ∙ h in cc)
either false b h off = refl

-- after an entry that is no signature none founds or recovers a service
pub none_begins : (last : Last) (t : Recording) (view : ℕ) → is_in_order (Some last) t view ≡ true → last.signs ≡ false → (is_founding t ≡ false) × (is_recovering t ≡ false)
none_begins last t view order signs =
    let a = and_parts (not (is_founding t) && (not (is_recovering t) || last.signs)) (not last.begins || (is_signing t && (view == last.view))) order in
    let b = and_parts (not (is_founding t)) (not (is_recovering t) || last.signs) a.0 in
    (never (is_founding t) b.0, either (is_recovering t) last.signs b.1 signs)
