-- Signatures of one or two levels, HSS (RFC 8554, 6), and when one is valid.
use Rattle.std.specs.Prelude.{ℕ, ◌≡◌, ◌≤◌, ◌+◌, List, [], ◌∷◌, ◌++◌, length}
use Rattle.gl_hss.specs.declared.types.Types.{Types}
use Rattle.gl_hss.specs.Bytes.{u32str}
use Rattle.gl_hss.specs.Tree.{Signature, PublicKey, key_bytes, signature_bytes, IsKey, IsSignature, IsSigned, Signs}

-- a level above the last: a signature, and the key that it signs (6.2)
pub record Upper : Type 0 where
  pub signature : Signature
  pub key : PublicKey

-- the bytes of the levels from the one with these parameters on (6.2)
abbrev pub levels_bytes : Types → List Upper → Signature → List ℕ
levels_bytes t [] last = signature_bytes t last
levels_bytes t (u ∷ us) last =
    signature_bytes t u.signature ++ key_bytes u.key ++ levels_bytes u.key.types us last

-- the bytes of an HSS signature: the number of upper levels, and the levels (6.2)
abbrev pub hss_bytes : Types → List Upper → Signature → List ℕ
hss_bytes t us last = u32str (length us) ++ levels_bytes t us last

-- each level's signature has the form that the key before it asks for
abbrev pub AreLevels : Types → List Upper → Signature → Type 0
AreLevels t [] last = IsSignature t last
AreLevels t (u ∷ us) last = IsSignature t u.signature × IsKey u.key × AreLevels u.key.types us last

-- each upper key signs the next key, and the last key signs the message (6.3)
abbrev pub SignsDown : PublicKey → List Upper → Signature → List ℕ → Type 0
SignsDown k [] last message = IsSigned k message last
SignsDown k (u ∷ us) last message =
    IsSigned k (key_bytes u.key) u.signature × IsKey u.key × SignsDown u.key us last message

-- the bytes are an HSS public key of so many levels, one or two, with this key on top (6.1)
pub record IsHssKey (bytes : List ℕ) (levels : ℕ) (k : PublicKey) : Type 0 where
  pub encoded : bytes ≡ u32str levels ++ key_bytes k
  pub form : IsKey k
  pub some : 1 ≤ levels
  pub few : levels ≤ 2

-- the bytes are a valid HSS signature of the message under the key (6.3)
pub record IsValid (key message signature : List ℕ) : Type 0 where
  pub top : PublicKey
  pub upper : List Upper
  pub last : Signature
  pub of_key : IsHssKey key (length upper + 1) top
  pub encoded : signature ≡ hss_bytes top.types upper last
  pub signs : SignsDown top upper last message

-- the key that makes the last LMS signature: the one on top, or the last one that is signed
abbrev pub last_key : PublicKey → List Upper → PublicKey
last_key k [] = k
last_key k (u ∷ us) = last_key u.key us

-- the bytes are a valid HSS signature of the message under the key, and the last LMS signature is
-- by the LMS key with these bytes
pub record IsValidBy (key by message signature : List ℕ) : Type 0 where
  pub valid : IsValid key message signature
  pub signer : key_bytes (last_key valid.top valid.upper) ≡ by

-- the bytes encode an HSS signature of one or two levels, whose last LMS signature has leaf q
pub record HasLeaf (signature : List ℕ) (q : ℕ) : Type 0 where
  pub types : Types
  pub upper : List Upper
  pub last : Signature
  pub few : length upper ≤ 1
  pub form : AreLevels types upper last
  pub encoded : signature ≡ hss_bytes types upper last
  pub leaf : last.leaf ≡ q

-- the bytes are an endorsement of the key: a signature of its bytes by an HSS key of two levels, as
-- it stands in the upper level of a signature (6.2 and 6.3)
pub record IsEndorsed (identity key endorsement : List ℕ) : Type 0 where
  pub top : PublicKey
  pub leaf : ℕ
  pub of_key : IsHssKey identity 2 top
  pub signs : Signs top leaf key endorsement
