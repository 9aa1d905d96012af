-- The service's key after entries behind a base: it has the size of an HSS public key.
use Rattle.std.proofs.Common.{◌≡◌, ℕ, zero, suc, ◌+◌, ◌<◌, List, [], ◌∷◌, ◌++◌, length, Option, Some, None, Result, Ok, Err, Bool, true, false, ◌||◌, refl, sym, ◌∙◌, ap, subst, arith}
use Rattle.std.specs.FinMap as rows
use Rattle.std.specs.List.{AllByRecursion}
use Rattle.std.proofs.lemmas.List.{append-nil}
use Rattle.gl_base.specs.declared.fault.CodeFault.{CodeFault}
use Rattle.gl_vmaps.specs.Changes.{Turns}
use Rattle.gl_vmaps.specs.LastWrite.{last_write, value_after}
use Rattle.gl_vmaps.specs.Tables.{Tables, Rows, no_tables, wrote_all}
use Rattle.gl_vmaps.specs.Versions.{placed_at, written_after}
use Rattle.gl_vmaps.specs.declared.write.Write.{Write}
use Rattle.gl_vmaps.proofs.TablesLaws.{value_in-wrote_all}
use Rattle.gl_tx.specs.Parsing.{request_of}
use Rattle.gl_tx.specs.Run.{run}
use Rattle.gl_tx.specs.declared.abort.Abort.{Abort}
use Rattle.gl_tx.specs.declared.request.Operation.{Operation}
use Rattle.gl_tx.specs.declared.runs.Ran.{Ran}
use Rattle.gl_entry.specs.Entry.{may_write, are_no_writes}
use Rattle.gl_entry.specs.declared.entry.Content.{Content}
use Rattle.gl_entry.specs.declared.entry.Content.TheVariants as content
use Rattle.gl_entry.specs.declared.entry.Entry.{Entry}
use Rattle.gl_entry.proofs.EntryRanges.{fits_parts}
use Rattle.gl_requests.proofs.Sizes.{sized_length}
use Rattle.gl_requests.specs.Parsing.{request_in}
use Rattle.gl_requests.specs.declared.genesis.ServiceState.{ServiceState}
use Rattle.gl_requests.specs.declared.genesis.ServiceState.TheVariants.{Opening, Open, WaitingForRecoveryShares}
use Rattle.gl_requests.specs.declared.request.GovernanceRequest.{GovernanceRequest}
use Rattle.gl_gov_rules.specs.declared.change.Recorded.{Recorded}
use Rattle.gl_gov_rules.specs.declared.refusal.GovernanceRefusal.{GovernanceRefusal}
use Rattle.gl_gov_rules.specs.declared.row.GovernedRows.{GovernedRows}
use Rattle.gl_gov_rules.specs.Refusals.{refusal}
use Rattle.gl_gov_rules.specs.Rows.{service_map, service_key}
use Rattle.gl_gov_base.proofs.BoundsOver.{effect_turns_over}
use Rattle.gl_gov_base.proofs.ServiceOver.{founded_over, sized_over, row_over}
use Rattle.gl_snapshot_body.specs.declared.body.Body.{Body}
use Rattle.gl_ledger.specs.ServiceRow.{service_state, identity_in}
use Rattle.gl_ledger.specs.Recordings.{recording_of, governance_recording, application_recording}
use Rattle.gl_ledger.specs.Snapshot.{governed_base, requests_over, tables_over}
use Rattle.gl_ledger.specs.declared.recording.Recording.{Recording}
use Rattle.gl_ledger.specs.declared.recording.Recording.TheVariants as recordings
use Rattle.gl_ledger.proofs.Applications.{run_outside}
use Rattle.gl_ledger.proofs.Founded.{length_identity}
use Rattle.gl_ledger.proofs.Growth.{IsOutside, untouched}
use Rattle.gl_ledger.proofs.Passing.{passed, PassesAfter}
use Rattle.gl_ledger.proofs.SameWrites.{same_writes_are}
use Rattle.gl_ledger.proofs.TablesLaws.{written_after-placed_at}
use Rattle.gl_ledger.proofs.Valid.{valid_sound}
use Rattle.gl_vmaps.specs.Rows.{row_writes}
use Rattle.gl_gov_base.specs.GovernedOver.{is_unfounded, IsGovernedOver, IsReadBase, effect_over}
use Rattle.gl_gov_base.proofs.RequestsOver.{over_pushed}
use Rattle.gl_ledger.specs.Layers.{Layers}
use Rattle.gl_ledger.specs.declared.breach.Broken.{Broken}
use Rattle.gl_ledger.specs.Past.{past_behind}
use Rattle.gl_ledger.specs.Broken.{are_same_writes, effect_after, broken_in_state, unless_refused, broken_by, broken_over}
use Rattle.gl_ledger.specs.Audit.{audited_over}
use Rattle.gl_ledger.specs.Behind.{IsBaseBody, IsReadAt, IsReadBody}
use Rattle.gl_ledger.proofs.EachPassing.{over_induction}
use Rattle.gl_audit.proofs.GovernanceBehind.{follows_behind, governed_behind, passing_behind, read_base, rest_behind, rows_above}
use Rattle.gl_audit.proofs.KeyAtBase.{IsServiceValue, service_in, service_at_base, key_in_value}
use Rattle.gl_audit.proofs.TablesOver.{tables_over-push}

-- ---- what an entry writes

no_writes : (ws : List Write) → are_no_writes ws ≡ true → ws ≡ []
no_writes [] h = refl
no_writes (w ∷ ws) h = absurd (cc)

-- the rows of governance tell a service with a key
service_told : (base : Option GovernedRows) (rs : List Recorded) → IsReadBase base → IsGovernedOver base rs → is_unfounded base rs ≡ false → IsServiceValue (service_in (effect_over base rs))
service_told base rs read all founded =
    let s = founded_over base rs read all founded in
    subst IsServiceValue (sym (row_over base rs s.0 s.1)) (let long = sized_length 60 s.0.identity (sized_over base rs s.0 read all s.1) in omega (arith, long))

-- a write set that turns tables into those with such a row leaves one, or what was there
turned : (t before after : Tables) (ws : List Write) → Turns ws before after → IsServiceValue (service_in t) → IsServiceValue (service_in after) → IsServiceValue (service_in (wrote_all t ws))
turned t before after ws turns here told =
    subst IsServiceValue (sym (value_in-wrote_all t ws service_map service_key))
    (go (last_write service_map service_key ws) (sym (value_in-wrote_all before ws service_map service_key) ∙ ap (λ (r : Rows). rows.get r service_key) (turns.turns service_map)))
  where
    go : (o : Option Write) → value_after o (service_in before) ≡ service_in after → IsServiceValue (value_after o (service_in t))
    go None is = here
    go (Some w) is = subst IsServiceValue (sym is) told

module _ (layers : Layers) (body : Body) (n : ℕ) (is : body.base ≡ suc n) (b : IsBaseBody body) (read : IsReadBody body) (es : List Entry) (e : Entry) (valid : audited_over layers body es ≡ None)
    (unbroken : broken_over layers body es e ≡ None) (here : IsServiceValue (service_in (tables_over body es))) where
  p : PassesAfter layers (past_behind body es) e
  p = passing_behind layers body n is es e unbroken

  rest_of : (r : Recording) → recording_of e.content ≡ Some r → broken_by layers r (past_behind body es) e ≡ None
  rest_of r reads = rest_behind layers body n is es e r unbroken reads

  abbrev Left : Type 0
  Left = IsServiceValue (service_in (wrote_all (tables_over body es) e.writes))

  outside : AllByRecursion IsOutside e.writes → Left
  outside out = subst IsServiceValue (sym (ap (λ (r : Rows). rows.get r service_key) (untouched (tables_over body es) e.writes service_map out refl))) here

  nothing : may_write e.content ≡ false → Left
  nothing none =
      let empty : e.writes ≡ [] = no_writes e.writes (sym (ap (λ (x : Bool). x || are_no_writes e.writes) none) ∙ (fits_parts e p.fits).writes) in
      outside (subst (λ (ws : List Write). AllByRecursion IsOutside ws) (sym empty) tt)

  application : (q : List Operation) → recording_of e.content ≡ Some (recordings.Application q) → Left
  application q reads = in_state (service_state (past_behind body es).tables) (run q (past_behind body es).tables) refl (rest_of (recordings.Application q) reads)
    where
      in_state : (s : ServiceState) (r : Result Ran Abort) → run q (past_behind body es).tables ≡ r → broken_in_state ((past_behind body es).len + 1) s r e ≡ None → Left
      in_state Opening r runs w = absurd (cc)
      in_state WaitingForRecoveryShares r runs w = absurd (cc)
      in_state Open (Err abort) runs w = absurd (cc)
      in_state Open (Ok ran) runs w =
          let same = same_writes_are e.writes ran.writes (passed (are_same_writes e.writes ran.writes) _ _ w).0 in
          outside (subst (λ (ws : List Write). AllByRecursion IsOutside ws) (sym same) (run_outside q (past_behind body es).tables ran runs))

  governed : (g : GovernanceRequest) → recording_of e.content ≡ Some (recordings.Governance g) → Left
  governed g reads =
      let base = governed_base body in
      let rs = requests_over body es in
      let r : Recorded = record { seqno = body.base + length es + 1; request = g } in
      let one = accepted (refusal (past_behind body es).history (body.base + length es + 1) g) _ (rest_of (recordings.Governance g) reads) in
      let two = (passed (are_same_writes e.writes (effect_after (past_behind body es) r)) _ None one).0 in
      let turns : Turns e.writes (effect_over base rs) (effect_over base (rs ++ r ∷ [])) =
      subst (λ (ws : List Write). Turns ws (effect_over base rs) (effect_over base (rs ++ r ∷ []))) (sym (same_writes_are e.writes (effect_after (past_behind body es) r) two)) (effect_turns_over base rs r) in
      let all = over_pushed base rs r (governed_behind layers body n is b.rows es b.spelled valid) (follows_behind layers body n is b.rows es e g b.spelled unbroken reads) in
      turned (tables_over body es) (effect_over base rs) (effect_over base (rs ++ r ∷ [])) e.writes turns here
      (service_told base (rs ++ r ∷ []) (read_base body read) all
      (ap (λ (o : Option GovernedRows). is_unfounded o (rs ++ r ∷ [])) (rows_above body b.rows (omega (arith, is)) b.spelled)))
    where
      accepted : (o : Option GovernanceRefusal) (rest : Option Broken) → unless_refused o rest ≡ None → rest ≡ None
      accepted None rest w = w
      accepted (Some why) rest w = absurd (cc)

  one_entry : Left
  one_entry = go e.content refl
    where
      unread : {X : Type 0} → recording_of e.content ≡ None → X
      unread h = absurd (let k = sym p.reads ∙ h in cc)

      go : (c : Content) → e.content ≡ c → Left
      go (content.Signature s) is = nothing (ap may_write is)
      go (content.Evidence d) is = nothing (ap may_write is)
      go (content.Application bytes) is = by (request_of bytes) refl
        where
          by : (r : Result (List Operation) CodeFault) → request_of bytes ≡ r → Left
          by (Err fault) reads = unread (ap recording_of is ∙ ap application_recording reads)
          by (Ok q) reads = application q (ap recording_of is ∙ ap application_recording reads)
      go (content.Governance bytes) is = by (request_in bytes) refl
        where
          by : (o : Option GovernanceRequest) → request_in bytes ≡ o → Left
          by None reads = unread (ap recording_of is ∙ ap governance_recording reads)
          by (Some g) reads = governed g (ap recording_of is ∙ ap governance_recording reads)

-- ---- the key

-- the service's row is there after any entries behind a base
service_behind : (layers : Layers) (body : Body) (n : ℕ) → body.base ≡ suc n → IsBaseBody body → IsReadBody body → (es : List Entry) → audited_over layers body es ≡ None → IsServiceValue (service_in (tables_over body es))
service_behind layers body n is b read es valid =
    over_induction layers body (λ (l : List Entry). IsServiceValue (service_in (tables_over body l)))
    (subst (λ (t : Tables). IsServiceValue (service_in t))
    (sym (ap (written_after no_tables) (append-nil (placed_at 0 (row_writes body.rows))) ∙ written_after-placed_at no_tables 0 (row_writes body.rows))) (service_at_base body.base body.rows b.rows b.spelled))
    (λ l e h here one. subst (λ (t : Tables). IsServiceValue (service_in t)) (sym (tables_over-push body l e)) (one_entry layers body n is b read l e h one here)) es valid

-- where there is an entry or a base the key has 60 bytes
pub key_behind : (layers : Layers) (body : Body) (es : List Entry) → IsReadBody body → audited_over layers body es ≡ None → 0 < body.base + length es → length (identity_in (tables_over body es)) ≡ 60
key_behind layers body es read valid some = go body.base refl read
  where
    go : (n : ℕ) → body.base ≡ n → IsReadAt n body → length (identity_in (tables_over body es)) ≡ 60
    go zero is none =
        ap (λ (x : Body). length (identity_in (tables_over x es))) none
        ∙ length_identity layers es (valid_sound layers es (subst (λ (x : Body). audited_over layers x es ≡ None) none valid)) (omega (arith, some, is))
    go (suc n) is b = key_in_value (service_in (tables_over body es)) (service_behind layers body n is b read es valid)
