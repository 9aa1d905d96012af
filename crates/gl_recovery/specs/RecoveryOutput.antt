-- The expected output for the bytes of a source by the key file of a node: the frames of the ledger
-- of the service that is recovered, or why none is.
use Rattle.std.specs.Prelude.{ℕ, ◌^◌, List, [], ◌∷◌, Bool, true, false, Result, Ok, Err, nat_le, replicate, if◌then◌else◌}
use Rattle.gl_base.specs.Bytes.{same_bytes}
use Rattle.gl_base.specs.Steps.{◌>>=◌}
use Rattle.gl_base.specs.declared.json.FormsFault.{FormsFault}
use Rattle.gl_hss.specs.Types.{height}
use Rattle.gl_hss.specs.Tree.{key_bytes}
use Rattle.gl_hss.specs.Secrets.{PrivateKey, public_of}
use Rattle.gl_hss.specs.Profile.{key_of_seed}
use Rattle.gl_hss.specs.declared.types.Types.{Types}
use Rattle.gl_requests.specs.Encoding.{node_id}
use Rattle.gl_requests.specs.declared.genesis.NewNode.{NewNode}
use Rattle.gl_requests.specs.declared.genesis.Recovery.{Recovery}
use Rattle.gl_forms.specs.Settings.{recovery_in}
use Rattle.gl_forms.specs.Text.{from_text}
use Rattle.gl_journal.specs.Durable.{Durable}
use Rattle.gl_journal.specs.declared.key.Key.{Key}
use Rattle.gl_recovery.specs.SettingsPrefix.{Parts, parts_of}
use Rattle.gl_recovery.specs.OldLedger.{is_read_whole}
use Rattle.gl_recovery.specs.ExpectedOutput.{expected_recovery, id_of, in_frames}
use Rattle.gl_recovery.specs.declared.fault.RecoveryFault.{RecoveryFault}
use Rattle.gl_recovery.specs.declared.fault.RecoveryFault.TheVariants as recoveries
use Rattle.gl_recovery.specs.declared.recovering_fault.RecoveringFault.{RecoveringFault}
use Rattle.gl_recovery.specs.declared.recovering_fault.RecoveringFault.TheVariants as faults

-- Faults

-- The source or the disk failed, which is no matter of the bytes.
abbrev pub is_of_outside : RecoveringFault → Bool
is_of_outside faults.SourceFailed = true
is_of_outside faults.DiskFailed = true
is_of_outside other = false

-- Whether the source is read to its end before this is told of it: where that comes too early, and
-- where the old ledger is valid.
abbrev pub is_source_read : RecoveringFault → Bool
is_source_read (faults.Short at) = true
is_source_read (faults.Recovery fault) = is_read_whole fault
is_source_read other = false

-- Why no service is recovered after the old ledger.
abbrev pub widened : RecoveryFault → RecoveringFault
widened recoveries.SourceFailed = faults.SourceFailed
widened fault = faults.Recovery fault

abbrev pub in_form : Result Recovery FormsFault → Result Recovery RecoveringFault
in_form (Ok recovery) = Ok recovery
in_form (Err fault) = Err (faults.Form fault)

abbrev pub in_order : Result (List ℕ) RecoveryFault → Result (List ℕ) RecoveringFault
in_order (Ok frames) = Ok frames
in_order (Err fault) = Err (widened fault)

-- The key

-- The private key that grows from the seed of a key.
abbrev pub private_key : Key → PrivateKey
private_key key = key_of_seed key.types key.seed

-- The key is that of the first node. Else the identifiers of both are reported; where there is no
-- node, zero bytes are wanted.
abbrev pub is_first_node : PrivateKey → List NewNode → Result (Unit {0}) RecoveringFault
is_first_node by [] = Err (faults.NotFirstNode (replicate 32 0) (id_of by))
is_first_node by (n ∷ ns) =
    if same_bytes n.key (key_bytes (public_of by)) then Ok tt
    else Err (faults.NotFirstNode (node_id n) (id_of by))

-- A key of these types has a leaf with this number: it has 2^h (RFC 8554, section 5.1).
abbrev pub has_leaf : Types → ℕ → Result (Unit {0}) RecoveringFault
has_leaf types leaf =
    if nat_le (2 ^ height types) leaf then Err (faults.KeyExhausted leaf) else Ok tt

-- What is owed

-- The expected output for a recovery after an old ledger, by a key of which so many leaves are
-- spent: the key is that of the first node, it has a leaf left, and the service can be recovered.
-- Its next leaf signs.
unfoldable pub expected_after : Key → ℕ → Recovery → List ℕ → Result (List ℕ) RecoveringFault
expected_after key leaf recovery ledger = do
  first ← is_first_node (private_key key) recovery.nodes
  left ← has_leaf key.types leaf
  in_order (in_frames (expected_recovery recovery (private_key key) leaf ledger))

-- The expected output for settings, as a JSON text, and an old ledger.
abbrev pub expected_for : Key → ℕ → Parts → Result (List ℕ) RecoveringFault
expected_for key leaf parts =
    in_form (from_text recovery_in parts.settings) >>= λ recovery.
    expected_after key leaf recovery parts.ledger

unfoldable pub expected_by : Key → ℕ → List ℕ → Result (List ℕ) RecoveringFault
expected_by key leaf given = parts_of given >>= expected_for key leaf

-- The expected output for all the bytes that a source gives, by a key file that opened to a state:
-- the frames of the new ledger, signed with the next leaf of the file's key, or the first refusal.
abbrev pub expected_recover : Durable → List ℕ → Result (List ℕ) RecoveringFault
expected_recover state = expected_by state.key state.reserved
