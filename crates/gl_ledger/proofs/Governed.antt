-- The requests of governance that a sound ledger records were accepted one after another.
use Rattle.std.proofs.Common.{◌≡◌, ⊎_elim, ℕ, zero, suc, ◌+◌, ◌<◌, ◌≤◌, List, [], ◌∷◌, ◌++◌, length, take, Option, Some, None, Result, Ok, Err, Bool, true, false, refl, sym, ◌∙◌, ap, subst, arith, slice_get}
use Rattle.std.proofs.lemmas.Bool.{cases_lt}
use Rattle.gl_base.specs.declared.fault.CodeFault.{CodeFault}
use Rattle.gl_base.proofs.Lists.{slice_get-within, slice_get-below, slice_get-of_take, take-next, take-all, take-past}
use Rattle.gl_rules.specs.Safety.{EachFollows}
use Rattle.gl_rules.proofs.Soundness.{follows_sound}
use Rattle.gl_tx.specs.Parsing.{request_of}
use Rattle.gl_tx.specs.declared.request.Operation.{Operation}
use Rattle.gl_entry.specs.declared.entry.Content.{Content}
use Rattle.gl_entry.specs.declared.entry.Content.TheVariants as content
use Rattle.gl_entry.specs.declared.entry.Entry.{Entry}
use Rattle.gl_requests.specs.Parsing.{request_in}
use Rattle.gl_requests.specs.declared.request.GovernanceRequest.{GovernanceRequest}
use Rattle.gl_gov_rules.specs.declared.change.Recorded.{Recorded}
use Rattle.gl_gov_rules.specs.Governed as rules
use Rattle.gl_gov_rules.specs.Governed.{IsAbove, Follows, is_nothing}
use Rattle.gl_gov_rules.proofs.Prefixes.{governed_more, governed_last}
use Rattle.gl_ledger.specs.Layers.{Layers}
use Rattle.gl_ledger.specs.NodeKeys.{NodeKeys}
use Rattle.gl_ledger.specs.declared.recording.Recording.TheVariants as recordings
use Rattle.gl_ledger.specs.Recordings.{governance_recording, application_recording, records_founding, recording_of, founds, recorded_at, recorded_in, requests_from, requests_of}
use Rattle.gl_ledger.specs.declared.breach.Broken.{Broken}
use Rattle.gl_ledger.specs.Broken.{broken}
use Rattle.gl_ledger.specs.Sound.{IsGovernanceEntry, StandsAs, IsSound}
use Rattle.gl_ledger.specs.LedgerBook.{by_rule, ledger_book}
use Rattle.gl_ledger.proofs.Growth.{IsNoGovernance}
use Rattle.gl_ledger.proofs.Gathering.{requests-quiet, requests-more}
use Rattle.gl_ledger.proofs.Sounding.{sound-push, sound_empty}

-- ---- seqnos

-- a seqno that is above those of two lists is above all of them
above_both : (seqno : ℕ) (rs ts : List Recorded) → IsAbove seqno rs → IsAbove seqno ts → IsAbove seqno (rs ++ ts)
above_both seqno [] ts all more = more
above_both seqno (r ∷ rs) ts all more = (all.0, above_both seqno rs ts all.1 more)

-- above that of one entry
above_one : (seqno place : ℕ) (c : Content) → place < seqno → IsAbove seqno (recorded_in place c)
above_one seqno place (content.Governance bytes) low = go (request_in bytes)
  where
    go : (o : Option GovernanceRequest) → IsAbove seqno (recorded_at place o)
    go None = tt
    go (Some g) = (low, tt)
above_one seqno place (content.Application bytes) low = tt
above_one seqno place (content.Signature s) low = tt
above_one seqno place (content.Evidence d) low = tt

-- above those of entries that are counted from a seqno on
above_from : (first seqno : ℕ) (es : List Entry) → first + length es ≤ seqno → IsAbove seqno (requests_from first es)
above_from first seqno [] low = tt
above_from first seqno (e ∷ es) low =
    above_both seqno (recorded_in first e.content) (requests_from (suc first) es) (above_one seqno first e.content (omega (arith, low))) (above_from (suc first) seqno es (omega (arith, low)))

-- the next seqno is above those of all requests that a ledger records
pub above : (ledger : List Entry) → IsAbove (length ledger + 1) (requests_of ledger)
above ledger = above_from 1 (length ledger + 1) ledger (omega arith)

-- ---- the first request

-- no entry records no request
pub nothing_of_none : is_nothing (requests_of []) ≡ true
nothing_of_none = refl

-- an entry that founds a service records a request
records_one : (seqno : ℕ) (c : Content) → records_founding (recording_of c) ≡ true → (r : Recorded) × (recorded_in seqno c ≡ r ∷ [])
records_one seqno (content.Governance bytes) h = go (request_in bytes) h
  where
    go : (o : Option GovernanceRequest) → records_founding (governance_recording o) ≡ true → (r : Recorded) × (recorded_at seqno o ≡ r ∷ [])
    go None w = absurd (cc)
    go (Some g) w = (record { seqno = seqno; request = g }, refl)
records_one seqno (content.Application bytes) h = go (request_of bytes) h
  where
    go : (o : Result (List Operation) CodeFault) → records_founding (application_recording o) ≡ true → (r : Recorded) × ([] ≡ r ∷ [])
    go (Err fault) w = absurd (cc)
    go (Ok q) w = absurd (cc)
records_one seqno (content.Signature s) h = absurd (cc)
records_one seqno (content.Evidence d) h = absurd (cc)

-- a ledger that begins with such an entry is empty where it records none
nothing_where : (ledger : List Entry) → ((e : Entry) → slice_get ledger 0 ≡ Some e → founds e ≡ true) → is_nothing (requests_of ledger) ≡ true → ledger ≡ []
nothing_where [] first h = refl
nothing_where (e ∷ es) first h =
    let one = records_one 1 e.content (first e refl) in
    absurd (let w : is_nothing ((one.0 ∷ []) ++ requests_from 2 es) ≡ true = sym (ap (λ (rs : List Recorded). is_nothing (rs ++ requests_from 2 es)) one.1) ∙ h in cc)

-- so a sound ledger that records no request is empty
pub nothing_recorded : (layers : Layers) (ledger : List Entry) → IsSound layers ledger → is_nothing (requests_of ledger) ≡ true → ledger ≡ []
nothing_recorded layers ledger sound h = nothing_where ledger (λ e s. (sound.founded.first e s).0) h

-- ---- each request

-- the first entries of a longer ledger are none only where none is asked for
no_prefix : (k : ℕ) (es : List Entry) → k < length es → take k es ≡ [] → k ≡ 0
no_prefix zero es low h = refl
no_prefix (suc k) [] low h = absurd (omega (arith, low))
no_prefix (suc k) (e ∷ es) low h = absurd (cc)

-- the first ones, one more than n, where there are no more than n
same_all : (n : ℕ) (es : List Entry) → length es ≤ n → take n es ≡ take (suc n) es
same_all n es low = take-past es n low ∙ sym (take-past es (suc n) (omega (arith, low)))

module _ (layers : Layers) (ledger : List Entry) (sound : IsSound layers ledger) where
  -- a request founds the service where no other is recorded before it
  founding_at : (i : ℕ) (e : Entry) (g : GovernanceRequest) → slice_get ledger i ≡ Some e → founds e ≡ rules.is_founding g → rules.is_founding g ≡ is_nothing (requests_of (take i ledger))
  founding_at i e g at is = go (rules.is_founding g) (is_nothing (requests_of (take i ledger))) refl refl
    where
      go : (a b : Bool) → rules.is_founding g ≡ a → is_nothing (requests_of (take i ledger)) ≡ b → a ≡ b
      go true true p q = refl
      go false false p q = refl
      go true false p q =
          let none : i ≡ 0 = sound.founded.once i e at (is ∙ p) in
          absurd (let w : is_nothing (requests_of (take 0 ledger)) ≡ false = ap (λ (k : ℕ). is_nothing (requests_of (take k ledger))) (sym none) ∙ q in cc)
      go false true p q =
          let empty : take i ledger ≡ [] = nothing_where (take i ledger) (λ f s. (sound.founded.first f (slice_get-of_take i ledger 0 f s).1).0) q in
          let first : i ≡ 0 = no_prefix i ledger (slice_get-within ledger i e at) empty in
          absurd (let w = (sound.founded.first e (ap (slice_get ledger) (sym first) ∙ at)).0 in let v = is ∙ p in let u = sym w ∙ v in cc)

  -- a request follows those that are recorded before it
  follows_at : (i : ℕ) (e : Entry) (bytes : List ℕ) → slice_get ledger i ≡ Some e → e.content ≡ content.Governance bytes → (stands : IsGovernanceEntry (take i ledger) e bytes) →
      Follows (requests_of (take i ledger)) (record { seqno = length (take i ledger) + 1; request = stands.request })
  follows_at i e bytes at is stands = record {
    above = above (take i ledger);
    fits = stands.fits;
    founding = founding_at i e stands.request at (ap (λ (c : Content). records_founding (recording_of c)) is ∙ ap (λ (o : Option GovernanceRequest). records_founding (governance_recording o)) stands.reads);
    accepted = stands.accepted;
  }

  -- with one entry more they follow one another
  next : (i : ℕ) (e : Entry) → slice_get ledger i ≡ Some e → rules.IsGoverned (requests_of (take i ledger)) → rules.IsGoverned (requests_of (take i ledger ++ e ∷ []))
  next i e at all = go e.content refl (sound.serial i e at)
    where
      quiet : IsNoGovernance e.content → rules.IsGoverned (requests_of (take i ledger ++ e ∷ []))
      quiet none = subst rules.IsGoverned (sym (requests-quiet (take i ledger) e none)) all

      go : (c : Content) → e.content ≡ c → StandsAs layers c (take i ledger) e → rules.IsGoverned (requests_of (take i ledger ++ e ∷ []))
      go (content.Governance bytes) is stands =
          let r : Recorded = record { seqno = length (take i ledger) + 1; request = stands.request } in
          subst rules.IsGoverned (sym (requests-more (take i ledger) e bytes stands.request is stands.reads))
          (governed_more (requests_of (take i ledger)) r all (follows_at i e bytes at is stands))
      go (content.Application bytes) is stands = quiet (subst IsNoGovernance (sym is) tt)
      go (content.Signature s) is stands = quiet (subst IsNoGovernance (sym is) tt)
      go (content.Evidence d) is stands = quiet (subst IsNoGovernance (sym is) tt)

  -- so do those of the first entries, however many
  upto : (n : ℕ) → rules.IsGoverned (requests_of (take n ledger))
  upto zero = λ i r s. absurd (cc)
  upto (suc n) = ⊎_elim
      (λ (here : n < length ledger).
      let e = slice_get-below ledger n here in
      subst (λ (l : List Entry). rules.IsGoverned (requests_of l)) (sym (take-next ledger n e.0 e.1)) (next n e.0 e.1 (upto n)))
      (λ (past : length ledger ≤ n). subst (λ (l : List Entry). rules.IsGoverned (requests_of l)) (same_all n ledger past) (upto n))
      (cases_lt n (length ledger))

  -- the requests that a sound ledger records were accepted one after another
  pub governed : rules.IsGoverned (requests_of ledger)
  governed = subst (λ (l : List Entry). rules.IsGoverned (requests_of l)) (take-all ledger) (upto (length ledger))

-- ---- one request more

-- what is read as a request of governance is encoded so
encoded_as : (c : Content) (g : GovernanceRequest) → recording_of c ≡ Some (recordings.Governance g) → (bytes : List ℕ) × (c ≡ content.Governance bytes) × (request_in bytes ≡ Some g)
encoded_as (content.Governance bytes) g h = (bytes, refl, go (request_in bytes) h)
  where
    go : (o : Option GovernanceRequest) → governance_recording o ≡ Some (recordings.Governance g) → o ≡ Some g
    go None w = absurd (cc)
    go (Some q) w = let k : recordings.Governance q ≡ recordings.Governance g = cc in let same : q ≡ g = cc in ap Some same
encoded_as (content.Application bytes) g h = absurd (go (request_of bytes) h)
  where
    go : (o : Result (List Operation) CodeFault) → application_recording o ≡ Some (recordings.Governance g) → ⊥
    go (Err fault) w = cc
    go (Ok q) w = cc
encoded_as (content.Signature s) g h = absurd (cc)
encoded_as (content.Evidence d) g h = absurd (cc)

-- the request of an entry that breaks no rule follows those that are recorded
pub follows : (layers : Layers) (ledger : List Entry) (e : Entry) (g : GovernanceRequest) → IsSound layers ledger → broken layers ledger e ≡ None →
    recording_of e.content ≡ Some (recordings.Governance g) → Follows (requests_of ledger) (record { seqno = length ledger + 1; request = g })
follows layers ledger e g sound h reads =
    let r : Recorded = record { seqno = length ledger + 1; request = g } in
    let encoded = encoded_as e.content g reads in
    (governed_last (requests_of ledger) r
    (subst rules.IsGoverned (requests-more ledger e encoded.0 g encoded.1 encoded.2) (governed layers (ledger ++ e ∷ []) (sound-push layers ledger e sound h)))).1

-- ---- ledgers whose entries follow

-- where the book names no rule none is broken
pub no_rule_broken : (o : Option Broken) → by_rule o ≡ None → o ≡ None
no_rule_broken None h = refl
no_rule_broken (Some why) h = absurd (cc)

-- a ledger whose every entry may follow those before it is sound
pub followed : (layers : Layers) (keys : NodeKeys) (ledger : List Entry) → EachFollows (ledger_book layers keys) ledger → IsSound layers ledger
followed layers keys ledger each =
    follows_sound (ledger_book layers keys) (IsSound layers) (sound_empty layers)
    (λ log e before sound one. sound-push layers log e sound (no_rule_broken (broken layers log e) one)) ledger each
