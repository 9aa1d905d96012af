-- A signer, as its callers see it, and what it signs.
use Rattle.std.specs.Prelude.{ℕ, ◌≡◌, ◌+◌, List, ◌++◌, Option, Some, None, Vec, length}
use Rattle.std.specs.Global.{Global}
use Rattle.gl_hss.specs.declared.signer.SignFault.{SignFault}
use Rattle.gl_hss.specs.declared.signer.SignFault.TheVariants.{NotReserved, NoMemory}
use Rattle.gl_hss.specs.declared.types.Types.{Types}
use Rattle.gl_hss.specs.Bytes.{u32str}
use Rattle.gl_hss.specs.Types.{signature_len}
use Rattle.gl_hss.specs.Tree.{key_bytes, signature_bytes}
use Rattle.gl_hss.specs.Hss.{IsEndorsed}
use Rattle.gl_hss.specs.Secrets.{PrivateKey, public_of}
use Rattle.gl_hss.specs.Profile.{signature_by}

-- the key, the endorsement's bytes if there is one, how many leaves are reserved, and how many used
pub record Signer : Type 0 where
  pub key : PrivateKey
  pub endorsement : Option (List ℕ)
  pub reserved : ℕ
  pub used : ℕ

abbrev pub endorsement_of : Option (Vec ℕ Global) → Option (List ℕ)
endorsement_of None = None
endorsement_of (Some v) = Some v.items

abbrev pub signer_of : PrivateKey → Option (Vec ℕ Global) → ℕ → ℕ → Signer
signer_of k e reserved used = record {
  key = k;
  endorsement = endorsement_of e;
  reserved = reserved;
  used = used;
}

-- the bytes before the last LMS signature: the number of upper levels, and with an endorsement that
-- and the key that it signs (RFC 8554, 6.2)
unfoldable pub levels_above : PrivateKey → Option (List ℕ) → List ℕ
levels_above k None = u32str 0
levels_above k (Some e) = u32str 1 ++ e ++ key_bytes (public_of k)

-- the HSS signature of a message by leaf q
abbrev pub hss_signature : PrivateKey → Option (List ℕ) → ℕ → List ℕ → List ℕ
hss_signature k e q message = levels_above k e ++ signature_bytes k.types (signature_by k q message)

-- how many bytes a signature has, by a key of these types
abbrev pub signature_size : Types → Option (List ℕ) → ℕ
signature_size t None = 4 + signature_len t
signature_size t (Some e) = 60 + length e + signature_len t

-- the signatures of a signer with this endorsement are to be valid under this HSS public key:
-- without an endorsement it is the key itself at one level; with one its key signs the signer's
unfoldable pub StandsUnder : PrivateKey → Option (List ℕ) → List ℕ → Type 0
StandsUnder k None hss_key = hss_key ≡ u32str 1 ++ key_bytes (public_of k)
StandsUnder k (Some e) hss_key = IsEndorsed hss_key (key_bytes (public_of k)) e

-- when a signer refuses to sign: every reserved leaf is used; running out of memory says nothing
abbrev pub Refuses : Signer → SignFault → Type 0
Refuses s (NotReserved n) = (n ≡ s.reserved) × (s.used ≡ s.reserved)
Refuses s NoMemory = Unit {0}
