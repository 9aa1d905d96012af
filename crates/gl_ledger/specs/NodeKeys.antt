-- Nodes that sign with HSS keys of two levels (RFC 8554, section 6): the service's key endorses
-- that of each node, whose leaves sign.
use Rattle.std.specs.Prelude.{◌≡◌, ℕ, ◌^◌, List, Option, None, Some, Result, Ok, Err, true, if◌then◌else◌}
use Rattle.sha2.specs.Sha256.{sha256}
use Rattle.gl_base.specs.Bytes.{are_bytes, same_bytes}
use Rattle.gl_hss.specs.declared.fault.HssFault.{HssFault}
use Rattle.gl_hss.specs.declared.fault.HssFault.TheVariants as faults
use Rattle.gl_hss.specs.Types.{height}
use Rattle.gl_hss.specs.Tree.{key_bytes, IsKey}
use Rattle.gl_hss.specs.Hss.{IsValidBy}
use Rattle.gl_hss.specs.Order.{verdict, last_key_verdict}
use Rattle.gl_hss.specs.Secrets.{PrivateKey, public_of}
use Rattle.gl_hss.specs.Signer.{hss_signature, StandsUnder}
use Rattle.gl_rules.specs.Identity.{NodeId}
use Rattle.gl_ledger.specs.Layers.{Layers}

-- The key of each node. The service's signature of its public key stands in the node's row of the
-- ledger.
pub record NodeKeys : Type 0 where
  pub key_of : NodeId → PrivateKey

-- How many one-time leaves a node's key has (RFC 8554, section 5.1).
abbrev pub leaf_count : NodeKeys → NodeId → ℕ
leaf_count keys x = 2 ^ height (keys.key_of x).types

-- A node's signature of a message with one of its leaves, and with this endorsement of its key.
abbrev pub node_signature : NodeKeys → List ℕ → NodeId → ℕ → List ℕ → List ℕ
node_signature keys endorsement x leaf message =
    hss_signature (keys.key_of x) (Some endorsement) leaf message

-- The key that signed is the node's: its digest is the node's identifier.
abbrev pub signer_fault : NodeId → Result (List ℕ) HssFault → Option HssFault
signer_fault x (Err fault) = Some fault
signer_fault x (Ok key) =
    if same_bytes (sha256 key) x then None else Some (faults.Root x (sha256 key))

abbrev pub fault_or_else : Result (Unit {0}) HssFault → Option HssFault → Option HssFault
fault_or_else (Err fault) rest = Some fault
fault_or_else (Ok u) rest = rest

-- Why bytes are no signature of a message by a node, in a service with this key: that they are no
-- signature under it, or else that another key signed.
abbrev pub node_signature_fault : List ℕ → NodeId → List ℕ → List ℕ → Option HssFault
node_signature_fault identity x message signature =
    fault_or_else (verdict identity message signature)
    (signer_fault x (last_key_verdict identity signature))

-- The bytes are a valid HSS signature of a message under the service's key (RFC 8554, section 6.3),
-- whose last level is by the node's key: that key's digest is the node's identifier.
pub record IsSignedBy (identity : List ℕ) (x : NodeId) (message signature : List ℕ) : Type 0 where
  pub key : List ℕ
  pub valid : IsValidBy identity key message signature
  pub named : x ≡ sha256 key

-- The layers of a service whose keys are HSS keys of two levels.
abbrev pub service_layers : Layers
service_layers = record { signature_fault = node_signature_fault }

-- The service's key endorses the node's by this endorsement, and the node's identifier is the
-- digest of its public key, which has the form that RFC 8554 gives it; key and endorsement are
-- bytes.
pub record IsNodeKey (keys : NodeKeys) (endorsement identity : List ℕ) (x : NodeId) : Type 0 where
  pub form : IsKey (public_of (keys.key_of x))
  pub stands : StandsUnder (keys.key_of x) (Some endorsement) identity
  pub named : x ≡ sha256 (key_bytes (public_of (keys.key_of x)))
  pub key : are_bytes (key_bytes (public_of (keys.key_of x))) ≡ true
  pub bytes : are_bytes endorsement ≡ true
