-- The entry of an accepted genesis fits its format.
use Rattle.std.proofs.Common.{◌≡◌, List, [], length, None, true, refl, ◌∙◌, ap, arith}
use Rattle.std.specs.List.{flat_map}
use Rattle.gl_rules.specs.World.{first_view}
use Rattle.gl_vmaps.specs.declared.write.Write.{Write}
use Rattle.gl_vmaps.proofs.WriteLaws.{all_writes}
use Rattle.gl_entry.specs.Entry.{no_digest, is_entry, write_bytes}
use Rattle.gl_requests.specs.Encoding.{request_bytes}
use Rattle.gl_requests.specs.Ranges.{is_genesis}
use Rattle.gl_requests.specs.declared.genesis.Genesis as founding
use Rattle.gl_requests.specs.declared.request.GovernanceRequest.TheVariants as requests
use Rattle.gl_gov_rules.specs.History.{no_history}
use Rattle.gl_gov_rules.specs.Refusals.{genesis_refusal}
use Rattle.gl_gov_rules.specs.Rows.{effect_writes}
use Rattle.gl_gov_rules.specs.Governed.{Follows, IsGoverned}
use Rattle.gl_gov_rules.proofs.FoundingReadings.{founding_recorded}
use Rattle.gl_gov_rules.proofs.FoundingAccepted.{refusal_of_genesis}
use Rattle.gl_gov_rules.proofs.Effects.{effect_ordered, first_effect}
use Rattle.gl_gov_rules.proofs.RowsFit.{effect_fits}
use Rattle.gl_ledger.specs.Ledger.{genesis_entry}
use Rattle.gl_ledger.proofs.Entries.{governance_fits, is_entry-from_fields, length-body_bytes}
use Rattle.gl_ledger.proofs.FoundingSizes.{small}
use Rattle.gl_ledger.proofs.GovernanceBytes.{governance_are_bytes}

-- an accepted genesis follows no requests
pub genesis_follows : (g : founding.Genesis) → is_genesis g ≡ true → genesis_refusal no_history g ≡ None → Follows [] (founding_recorded g)
genesis_follows g fits accepted = record { above = tt; fits = fits; founding = refl; accepted = refusal_of_genesis g ∙ accepted }

-- no requests follow one another
none_governed : IsGoverned []
none_governed i r at = absurd (cc)

-- its entry fits its format
pub genesis_is_entry : (g : founding.Genesis) → is_genesis g ≡ true → genesis_refusal no_history g ≡ None → is_entry (genesis_entry g) ≡ true
genesis_is_entry g fits accepted =
    let r = founding_recorded g in
    let writes : List Write = effect_writes [] r in
    let short = small g fits accepted in
    let long = length-body_bytes (genesis_entry g) in
    let same = ap (λ (ws : List Write). length (flat_map write_bytes ws)) (first_effect r) in
    is_entry-from_fields (genesis_entry g)
    (governance_fits first_view 1 (request_bytes (requests.Genesis g)) writes no_digest (omega arith) (omega arith) (governance_are_bytes (requests.Genesis g) fits)
    (all_writes writes (effect_fits [] r none_governed (genesis_follows g fits accepted))) (effect_ordered [] r) refl)
    (omega (arith, long, same, short))
