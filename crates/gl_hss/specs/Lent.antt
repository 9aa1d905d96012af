-- What keys and signatures are that the code lends from bytes (RFC 8554, 5.3 and 5.4).
use Rattle.std.specs.Prelude.{ℕ, ◌+◌, ◌*◌, List}
use Rattle.gl_hss.specs.declared.types.Types.{Types}
use Rattle.gl_hss.specs.declared.lms.LmsPublicKey.{LmsPublicKey}
use Rattle.gl_hss.specs.declared.lms.LmsSignature.{LmsSignature}
use Rattle.gl_hss.specs.Bytes.{bytes_at, number_at}
use Rattle.gl_hss.specs.Types.{height, chain_count}
use Rattle.gl_hss.specs.Tree.{Signature, PublicKey}

-- the key whose fields are lent
abbrev pub key_of : LmsPublicKey → PublicKey
key_of k = record { types = k.types; identifier = k.identifier.now; root = k.root.now }

-- the signature whose fields are lent
abbrev pub signature_of : LmsSignature → Signature
signature_of s = record {
  leaf = s.leaf;
  randomizer = s.randomizer.now;
  chains = s.chains.now;
  path = s.path.now;
}

-- the fields of an LMS public key that begins at this place of the bytes
abbrev pub key_fields : Types → List ℕ → ℕ → PublicKey
key_fields t s at = record {
  types = t;
  identifier = bytes_at s (at + 8) 16;
  root = bytes_at s (at + 24) 32;
}

-- the fields of an LMS signature that begins at this place of the bytes
abbrev pub signature_fields : Types → List ℕ → ℕ → Signature
signature_fields t s at = record {
  leaf = number_at s at;
  randomizer = bytes_at s (at + 8) 32;
  chains = bytes_at s (at + 40) (32 * chain_count t);
  path = bytes_at s (at + 44 + 32 * chain_count t) (32 * height t);
}
