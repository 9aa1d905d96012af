-- The ranges of a key's fields.
use Rattle.std.specs.Prelude.{◌≡◌, ℕ, List, Bool, true, ◌&&◌, nat_le, length, Option, None, Some}
use Rattle.hex.specs.Hex.{IsBytes}
use Rattle.gl_base.specs.Bytes.{are_sized, is_digest, mebibyte}
use Rattle.gl_requests.specs.Ranges.{is_signature_field}
use Rattle.gl_forms.specs.declared.key.KeyForm.{KeyForm}
use Rattle.gl_forms.specs.declared.key.KeyForm.TheVariants.{Service, Member, Node}

abbrev pub is_endorsement : Option (List ℕ) → Bool
is_endorsement None = true
is_endorsement (Some bytes) = is_signature_field bytes

-- Each field has its length, and an endorsement at most 1 MiB.
abbrev pub is_key : KeyForm → Bool
is_key (Service key) = are_sized 60 key
is_key (Member key) = are_sized 60 key
is_key (Node key id endorsement) = are_sized 56 key && is_digest id && is_endorsement endorsement

abbrev pub is_short : Option (List ℕ) → Bool
is_short None = true
is_short (Some endorsement) = nat_le (length endorsement) mebibyte

-- The endorsement of a node's key, where there is one, has at most 1 MiB.
abbrev pub has_short_endorsement : KeyForm → Bool
has_short_endorsement (Service key) = true
has_short_endorsement (Member key) = true
has_short_endorsement (Node key id endorsement) = is_short endorsement

-- What the types of a key's fields say of their values.

-- So many bytes.
pub record IsSized (size : ℕ) (bytes : List ℕ) : Type 0 where
  pub count : length bytes ≡ size
  pub each : IsBytes bytes

abbrev pub HasBytes : Option (List ℕ) → Type 0
HasBytes None = Unit {0}
HasBytes (Some bytes) = IsBytes bytes

pub record IsNodeKey (key id : List ℕ) (endorsement : Option (List ℕ)) : Type 0 where
  pub key_is : IsSized 56 key
  pub id_is : IsSized 32 id
  pub endorsement_is : HasBytes endorsement

abbrev pub IsKey : KeyForm → Type 0
IsKey (Service key) = IsSized 60 key
IsKey (Member key) = IsSized 60 key
IsKey (Node key id endorsement) = IsNodeKey key id endorsement
