-- The service's key in a sound ledger: it has its size, and without a recovery it is that of the
-- genesis.
use Rattle.std.proofs.Common.{◌≡◌, ℕ, suc, ◌<◌, List, [], ◌∷◌, ◌++◌, length, take, Option, Some, None, Result, Ok, Err, Bool, true, false, ◌&&◌, refl, sym, ◌∙◌, ap, subst, arith, slice_get}
use Rattle.std.specs.FinMap as rows
use Rattle.std.specs.List.{list_any}
use Rattle.std.proofs.lemmas.Bool.{or_from}
use Rattle.std.proofs.lemmas.Option.{same_Some}
use Rattle.std.proofs.lemmas.List.Folds.{list_any-append}
use Rattle.gl_base.specs.Bytes.{are_sized}
use Rattle.gl_base.specs.declared.fault.CodeFault.{CodeFault}
use Rattle.gl_vmaps.specs.Tables.{Rows}
use Rattle.gl_tx.specs.Parsing.{request_of}
use Rattle.gl_tx.specs.declared.request.Operation.{Operation}
use Rattle.gl_entry.specs.declared.entry.Content.{Content}
use Rattle.gl_entry.specs.declared.entry.Content.TheVariants as content
use Rattle.gl_entry.specs.declared.entry.Entry.{Entry}
use Rattle.gl_requests.specs.Encoding.{request_bytes}
use Rattle.gl_requests.specs.Ranges as ranges
use Rattle.gl_requests.specs.Parsing.{request_in}
use Rattle.gl_requests.proofs.Sizes.{sized_length}
use Rattle.gl_requests.specs.declared.genesis.Genesis as founding
use Rattle.gl_requests.specs.declared.request.GovernanceRequest.{GovernanceRequest}
use Rattle.gl_requests.specs.declared.request.GovernanceRequest.TheVariants as requests
use Rattle.gl_gov_rules.specs.declared.change.Recorded.{Recorded}
use Rattle.gl_gov_rules.specs.Changes.{history}
use Rattle.gl_gov_rules.specs.Service.{identity}
use Rattle.gl_gov_rules.specs.Rows.{service_map, service_key, effect}
use Rattle.gl_gov_rules.specs.Governed as rules
use Rattle.gl_gov_rules.proofs.FoundingReadings.{founding_recorded}
use Rattle.gl_gov_rules.proofs.RowOfService.{service_value, founded_row, identity_reported}
use Rattle.gl_gov_rules.proofs.KeptIdentity as kept
use Rattle.gl_ledger.specs.Layers.{Layers}
use Rattle.gl_ledger.specs.Recordings.{governance_recording, application_recording, records_founding, records_recovery, recording_of, founds, recovers, recorded_at, recorded_in, requests_from, requests_of}
use Rattle.gl_ledger.specs.ServiceRow.{identity_of_value, identity_in}
use Rattle.gl_ledger.specs.Tree.{tables_of}
use Rattle.gl_ledger.specs.Ledger.{genesis_entry}
use Rattle.gl_ledger.specs.Sound.{IsSound, IsUnrecovered}
use Rattle.gl_ledger.proofs.Identities.{identity_fits}
use Rattle.gl_ledger.proofs.Governed.{governed}
use Rattle.gl_ledger.proofs.RequestEncodings.{request_in-read}

-- ---- the entry that founds

-- an entry whose bytes are read as a genesis
pub record FoundedBy (f : Entry) : Type 0 where
  pub genesis : founding.Genesis
  pub bytes : List ℕ
  pub content_is : f.content ≡ content.Governance bytes
  pub reads : request_in bytes ≡ Some (requests.Genesis genesis)

-- what founds is read as a genesis
founded_from : (f : Entry) (c : Content) → f.content ≡ c → records_founding (recording_of c) ≡ true → FoundedBy f
founded_from f (content.Application bytes) is h = absurd (go (request_of bytes) h)
  where
    go : (r : Result (List Operation) CodeFault) → records_founding (application_recording r) ≡ true → ⊥
    go (Ok q) w = cc
    go (Err fault) w = cc
founded_from f (content.Signature s) is h = absurd (cc)
founded_from f (content.Evidence d) is h = absurd (cc)
founded_from f (content.Governance bytes) is h = go (request_in bytes) refl h
  where
    by_request : (g : GovernanceRequest) → request_in bytes ≡ Some g → rules.is_founding g ≡ true → FoundedBy f
    by_request (requests.Genesis g) reads w = record { genesis = g; bytes = bytes; content_is = is; reads = reads }
    by_request (requests.Recover r) reads w = absurd (cc)
    by_request (requests.Join n) reads w = absurd (cc)
    by_request (requests.Mark id) reads w = absurd (cc)
    by_request (requests.Member m) reads w = absurd (cc)

    go : (o : Option GovernanceRequest) → request_in bytes ≡ o → records_founding (governance_recording o) ≡ true → FoundedBy f
    go None reads w = absurd (cc)
    go (Some g) reads w = by_request g reads w

-- each entry that founds is such
pub founded_by : (f : Entry) → founds f ≡ true → FoundedBy f
founded_by f h = founded_from f f.content refl h

-- it records the genesis
pub founding_requests : (f : Entry) (es : List Entry) (by : FoundedBy f) → requests_of (f ∷ es) ≡ founding_recorded by.genesis ∷ requests_from 2 es
founding_requests f es by =
    ap (λ (c : Content). recorded_in 1 c ++ requests_from 2 es) by.content_is ∙ ap (λ (o : Option GovernanceRequest). recorded_at 1 o ++ requests_from 2 es) by.reads

-- ---- entries that recover nothing

abbrev recovers_in : List Recorded → Bool
recovers_in rs = list_any (λ (r : Recorded). rules.is_recovery r.request) rs

-- an entry that recovers nothing records no recovery
none_in : (seqno : ℕ) (c : Content) → records_recovery (recording_of c) ≡ false → recovers_in (recorded_in seqno c) ≡ false
none_in seqno (content.Application bytes) h = refl
none_in seqno (content.Signature s) h = refl
none_in seqno (content.Evidence d) h = refl
none_in seqno (content.Governance bytes) h = go (request_in bytes) h
  where
    go : (o : Option GovernanceRequest) → records_recovery (governance_recording o) ≡ false → recovers_in (recorded_at seqno o) ≡ false
    go None w = refl
    go (Some g) w = or_from (rules.is_recovery g) false w refl

-- nor do several
pub none_recover : (seqno : ℕ) (es : List Entry) → ((i : ℕ) (e : Entry) → slice_get es i ≡ Some e → recovers e ≡ false) → recovers_in (requests_from seqno es) ≡ false
none_recover seqno [] each = refl
none_recover seqno (e ∷ es) each =
    list_any-append (λ (r : Recorded). rules.is_recovery r.request) (recorded_in seqno e.content) (requests_from (suc seqno) es)
    ∙ or_from (recovers_in (recorded_in seqno e.content)) (recovers_in (requests_from (suc seqno) es)) (none_in seqno e.content (each 0 e refl)) (none_recover (suc seqno) es (λ i f at. each (suc i) f at))

-- ---- the key

-- the service's row tells the key that is in force
pub reported_key : (r : Recorded) (rs : List Recorded) (key : List ℕ) → rules.IsGoverned (r ∷ rs) → identity (history (r ∷ rs)) ≡ Some key → identity_in (effect (r ∷ rs)) ≡ key
reported_key r rs key all is =
    let row = founded_row r rs all in
    ap identity_of_value (service_value (r ∷ rs) row.0 row.1) ∙ same_Some row.0.identity key (sym (identity_reported (r ∷ rs) row.0 row.1) ∙ is)

module _ (layers : Layers) (e : Entry) (es : List Entry) (sound : IsSound layers (e ∷ es)) (none : IsUnrecovered (e ∷ es)) (by : FoundedBy e) where
  -- the key of the genesis is in force, where no recovery follows
  pub identity_of_first : identity_in (tables_of (e ∷ es)) ≡ by.genesis.identity
  identity_of_first =
      let more : List Recorded = requests_from 2 es in
      let are = founding_requests e es by in
      let all : rules.IsGoverned (founding_recorded by.genesis ∷ more) = subst rules.IsGoverned are (governed layers (e ∷ es) sound) in
      ap (λ (r : Rows). identity_of_value (rows.get r service_key)) (sound.governed service_map refl ∙ ap (λ (rs : List Recorded). effect rs service_map) are)
      ∙ reported_key (founding_recorded by.genesis) more by.genesis.identity all
      (kept.founded_identity by.genesis more all (none_recover 2 es (λ i f at. none (suc i) f at)))

module _ (layers : Layers) where
  -- of a sound ledger that begins with a genesis, and in which no recovery follows, the key of the
  -- genesis is the service's
  pub founded_identity : (g : founding.Genesis) (ledger : List Entry) → IsSound layers ledger → IsUnrecovered ledger → slice_get ledger 0 ≡ Some (genesis_entry g) → ranges.is_genesis g ≡ true →
      identity_in (tables_of ledger) ≡ g.identity
  founded_identity g [] sound none first fits = absurd (cc)
  founded_identity g (e ∷ es) sound none first fits =
      let same : e ≡ genesis_entry g = cc in
      identity_of_first layers e es sound none (record {
        genesis = g;
        bytes = request_bytes (requests.Genesis g);
        content_is = ap (λ (x : Entry). x.content) same;
        reads = request_in-read (requests.Genesis g) fits;
      })

  -- the key in force has the size of an HSS public key, and is bytes
  pub identity_sized : (ledger : List Entry) → IsSound layers ledger → 0 < length ledger → are_sized 60 (identity_in (tables_of ledger)) ≡ true
  identity_sized [] sound some = absurd (omega (arith, some))
  identity_sized (e ∷ es) sound some =
      let by = founded_by e (sound.founded.first e refl).0 in
      let are = founding_requests e es by in
      let rs : List Recorded = founding_recorded by.genesis ∷ requests_from 2 es in
      let all : rules.IsGoverned rs = subst rules.IsGoverned are (governed layers (e ∷ es) sound) in
      let row = founded_row (founding_recorded by.genesis) (requests_from 2 es) all in
      let reported = identity_reported rs row.0 row.1 in
      let is : identity_in (tables_of (e ∷ es)) ≡ row.0.identity =
      ap (λ (r : Rows). identity_of_value (rows.get r service_key)) (sound.governed service_map refl ∙ ap (λ (rs : List Recorded). effect rs service_map) are)
      ∙ reported_key (founding_recorded by.genesis) (requests_from 2 es) row.0.identity all reported in
      ap (are_sized 60) is ∙ identity_fits rs all row.0.identity reported

  -- so it has 60 bytes
  pub length_identity : (ledger : List Entry) → IsSound layers ledger → 0 < length ledger → length (identity_in (tables_of ledger)) ≡ 60
  length_identity ledger sound some = sized_length 60 (identity_in (tables_of ledger)) (identity_sized ledger sound some)
