-- A node that founds a service of its own.
use Rattle.sha2.specs.Sha256.{sha256}
use Rattle.gl_hss.specs.Secrets.{PrivateKey, public_of}
use Rattle.gl_hss.specs.Tree.{key_bytes}
use Rattle.gl_rules.specs.Identity.{NodeId}
use Rattle.gl_ledger.specs.NodeKeys.{NodeKeys}

-- The identifier of the node with this key: the digest of its public key (RFC 8554, section 5.3).
abbrev pub id_of_key : PrivateKey → NodeId
id_of_key key = sha256 (key_bytes (public_of key))

-- No other node has a key.
abbrev pub key_alone : PrivateKey → NodeKeys
key_alone key = record { key_of = λ x. key }
