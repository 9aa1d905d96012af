-- What the tables after a genesis tell: the service's state and its key.
use Rattle.std.proofs.Common.{◌≡◌, ℕ, List, [], ◌∷◌, Some, refl, ◌∙◌, ap}
use Rattle.gl_vmaps.specs.Tables.{no_tables, value_in, wrote_all}
use Rattle.gl_requests.specs.Encoding.{state_byte}
use Rattle.gl_requests.specs.declared.genesis.Genesis as founding
use Rattle.gl_requests.specs.declared.genesis.ServiceState.{ServiceState}
use Rattle.gl_requests.specs.declared.genesis.ServiceState.TheVariants as services
use Rattle.gl_gov_rules.specs.Rows.{service_map, service_key, service_row, effect}
use Rattle.gl_gov_rules.proofs.Effects.{first_effect}
use Rattle.gl_gov_rules.proofs.FoundingReadings as founding_readings
use Rattle.gl_gov_rules.proofs.FoundingReadings.{founding_recorded, founding_identity, founding_state, founding_unrecovered}
use Rattle.gl_gov_rules.proofs.FoundingRows.{first_service_row}
use Rattle.gl_gov_rules.proofs.RowOfService as rows_of_service
use Rattle.gl_ledger.specs.ServiceRow.{state_of_value, service_state, identity_of_value, identity_in}
use Rattle.gl_ledger.specs.Tree.{tables_of}
use Rattle.gl_ledger.specs.Ledger.{genesis_entry, signature_entry, opening_ledger}
use Rattle.gl_ledger.proofs.TablesLaws.{tables_of-push}

-- the tables after a genesis are its effect
pub tables_of_genesis : (g : founding.Genesis) → tables_of (genesis_entry g ∷ []) ≡ effect (founding_recorded g ∷ [])
tables_of_genesis g = tables_of-push [] (genesis_entry g) ∙ ap (wrote_all no_tables) (first_effect (founding_recorded g))

-- and a signature writes nothing
pub tables_of_opening : (g : founding.Genesis) (node bytes : List ℕ) → tables_of (opening_ledger g node bytes) ≡ effect (founding_recorded g ∷ [])
tables_of_opening g node bytes = tables_of-push (genesis_entry g ∷ []) (signature_entry node bytes (genesis_entry g ∷ []) 2 2) ∙ tables_of_genesis g

-- the row of a service that was founded
row_of_founding : (g : founding.Genesis) → service_row (founding_readings.founded g) ≡ Some (first_service_row g)
unfolding service_row
row_of_founding g = rw (founding_state g, founding_unrecovered g, founding_identity g) refl

-- the service's row tells its state and its key
pub service_value : (g : founding.Genesis) → value_in (effect (founding_recorded g ∷ [])) service_map service_key ≡ Some (state_byte g.state ∷ 0 ∷ g.identity)
service_value g = rows_of_service.service_value (founding_recorded g ∷ []) (first_service_row g) (row_of_founding g)

-- the byte of a state is read as that state
pub state_read : (s : ServiceState) (bytes : List ℕ) → state_of_value (Some (state_byte s ∷ bytes)) ≡ s
state_read services.Opening bytes = refl
state_read services.Open bytes = refl
state_read services.WaitingForRecoveryShares bytes = refl

-- the service's state in the opening ledger is that of the genesis
pub state_of_opening : (g : founding.Genesis) (node bytes : List ℕ) → service_state (tables_of (opening_ledger g node bytes)) ≡ g.state
state_of_opening g node bytes =
    ap service_state (tables_of_opening g node bytes) ∙ ap state_of_value (service_value g) ∙ state_read g.state (0 ∷ g.identity)

-- the effect of a genesis tells its key
pub identity_of_genesis : (g : founding.Genesis) → identity_in (effect (founding_recorded g ∷ [])) ≡ g.identity
identity_of_genesis g = ap identity_of_value (service_value g)

-- its key is the one in force after its entry
pub identity_after_genesis : (g : founding.Genesis) → identity_in (tables_of (genesis_entry g ∷ [])) ≡ g.identity
identity_after_genesis g = ap identity_in (tables_of_genesis g) ∙ identity_of_genesis g

-- and in its opening ledger
pub identity_of_opening : (g : founding.Genesis) (node bytes : List ℕ) → identity_in (tables_of (opening_ledger g node bytes)) ≡ g.identity
identity_of_opening g node bytes = ap identity_in (tables_of_opening g node bytes) ∙ identity_of_genesis g
