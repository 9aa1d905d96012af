-- What the service's row tells: its state, and the key that is in force.
use Rattle.std.specs.Prelude.{ℕ, List, [], ◌∷◌, Option, None, Some, drop, ◌==◌, if◌then◌else◌}
use Rattle.gl_vmaps.specs.Tables.{Tables, value_in}
use Rattle.gl_requests.specs.Encoding.{state_byte}
use Rattle.gl_requests.specs.declared.genesis.ServiceState.{ServiceState}
use Rattle.gl_requests.specs.declared.genesis.ServiceState.TheVariants as services
use Rattle.gl_gov_rules.specs.Rows.{service_map, service_key}

-- The state that a byte encodes; a byte that encodes none counts as that of a service that opens.
abbrev pub state_of_byte : ℕ → ServiceState
state_of_byte byte =
    if byte == state_byte services.Open then services.Open
    else (if byte == state_byte services.WaitingForRecoveryShares
    then services.WaitingForRecoveryShares else services.Opening)

-- The state that the service's row begins with; without a row it is not open.
abbrev pub state_of_value : Option (List ℕ) → ServiceState
state_of_value None = services.Opening
state_of_value (Some []) = services.Opening
state_of_value (Some (b ∷ bytes)) = state_of_byte b

-- The service's state, as its row tells it.
abbrev pub service_state : Tables → ServiceState
service_state tables = state_of_value (value_in tables service_map service_key)

-- The service's key after the two bytes that its row begins with; without a row there is none.
abbrev pub identity_of_value : Option (List ℕ) → List ℕ
identity_of_value None = []
identity_of_value (Some value) = drop 2 value

-- The identity in force, as the service's row tells it.
abbrev pub identity_in : Tables → List ℕ
identity_in tables = identity_of_value (value_in tables service_map service_key)
