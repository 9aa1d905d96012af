-- The entry of a sound ledger at which a recovered service opens.
use Rattle.std.proofs.Common.{◌≡◌, ℕ, ◌+◌, List, [], ◌∷◌, ◌++◌, Option, None, Some, true, length, refl, sym, ap, ◌∙◌, subst, append-nil}
use Rattle.gl_entry.specs.declared.entry.Content.{Content}
use Rattle.gl_entry.specs.declared.entry.Content.TheVariants as content
use Rattle.gl_entry.specs.declared.entry.Entry.{Entry}
use Rattle.gl_requests.specs.Parsing.{request_in}
use Rattle.gl_requests.specs.declared.genesis.ServiceState.TheVariants.{Open}
use Rattle.gl_requests.specs.declared.request.GovernanceRequest.{GovernanceRequest}
use Rattle.gl_gov_rules.specs.declared.change.Recorded.{Recorded}
use Rattle.gl_gov_rules.specs.Changes.{history}
use Rattle.gl_gov_rules.specs.Governed.{IsGoverned}
use Rattle.gl_gov_rules.specs.Service.{is_recovered, service_state}
use Rattle.gl_ledger.specs.Layers.{Layers}
use Rattle.gl_ledger.specs.Recordings.{recorded_at, recorded_in, requests_of}
use Rattle.gl_ledger.specs.Sound.{IsSound}
use Rattle.gl_ledger.proofs.Gathering.{requests-push}
use Rattle.gl_ledger.proofs.Governed.{governed}
use Rattle.gl_recovery.specs.Completion.{CompletesAfter, governance_of}
use Rattle.gl_recovery.proofs.Completing.{completes}

-- an entry records a request, or none
one_or_none : (P : List Recorded → Type 0) → P [] → ((r : Recorded) → P (r ∷ [])) → (seqno : ℕ) (c : Content) → P (recorded_in seqno c)
one_or_none P none one seqno (content.Application bytes) = none
one_or_none P none one seqno (content.Signature s) = none
one_or_none P none one seqno (content.Evidence d) = none
one_or_none P none one seqno (content.Governance bytes) = go (request_in bytes)
  where
    go : (o : Option GovernanceRequest) → P (recorded_at seqno o)
    go None = none
    go (Some g) = one (record { seqno = seqno; request = g })

pub completes_after : (layers : Layers) (ledger : List Entry) (e : Entry) → IsSound layers (ledger ++ e ∷ []) → is_recovered (governance_of (ledger ++ e ∷ [])) ≡ true →
    (service_state (governance_of ledger) ≡ Some Open → ⊥) → service_state (governance_of (ledger ++ e ∷ [])) ≡ Some Open → CompletesAfter ledger e
completes_after layers ledger e sound recovered closed opened =
    one_or_none
    (λ (recorded : List Recorded). recorded_in (length ledger + 1) e.content ≡ recorded → CompletesAfter ledger e)
    (λ (none : recorded_in (length ledger + 1) e.content ≡ []).
    let same : requests_of (ledger ++ e ∷ []) ≡ requests_of ledger = requests-push ledger e ∙ ap (λ (rs : List Recorded). requests_of ledger ++ rs) none ∙ append-nil (requests_of ledger) in
    absurd (closed (ap (λ (rs : List Recorded). service_state (history rs)) (sym same) ∙ opened)))
    (λ (r : Recorded) (one : recorded_in (length ledger + 1) e.content ≡ r ∷ []).
    let more : requests_of (ledger ++ e ∷ []) ≡ requests_of ledger ++ r ∷ [] = requests-push ledger e ∙ ap (λ (rs : List Recorded). requests_of ledger ++ rs) one in (
      r,
      one,
      completes (requests_of ledger) r (subst IsGoverned more (governed layers (ledger ++ e ∷ []) sound)) (ap (λ (rs : List Recorded). is_recovered (history rs)) (sym more) ∙ recovered) closed
          (ap (λ (rs : List Recorded). service_state (history rs)) (sym more) ∙ opened),
    ))
    (length ledger + 1) e.content refl
