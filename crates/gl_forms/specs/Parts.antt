-- Members, nodes and dealings in a JSON tree, and the first value that has another form: an
-- object's members, missing or too many, come before its values, and these in the order of their
-- names.
use Rattle.std.specs.Prelude.{ℕ, List, [], ◌∷◌, codes, Option, Result, Ok}
use Rattle.serde_json.specs.Data.{Data}
use Rattle.gl_base.specs.Json.{member_of}
use Rattle.gl_base.specs.Steps.{◌>>=◌}
use Rattle.gl_base.specs.declared.json.FormsFault.{FormsFault}
use Rattle.gl_json.specs.declared.form_error.FormError.{FormError}
use Rattle.gl_json.specs.Form.{value_in, sized_in}
use Rattle.gl_forms.specs.Form.{number_in, endorsement_in, object_at, member_at, list_at}
use Rattle.gl_requests.specs.declared.genesis.NewNode.{NewNode}
use Rattle.gl_requests.specs.declared.genesis.NewMember.{NewMember}
use Rattle.gl_requests.specs.declared.genesis.ShareDigest.{ShareDigest}
use Rattle.gl_requests.specs.declared.genesis.Dealing.{Dealing}

-- A SHA-256 digest, or an identifier that is one.
abbrev pub digest_in : Option Data → Result (List ℕ) FormError
digest_in value = sized_in 32 value

-- An HSS key, of a service or of a member.
abbrev pub hss_key_in : Option Data → Result (List ℕ) FormError
hss_key_in value = sized_in 60 value

-- An LMS key, of a node.
abbrev pub lms_key_in : Option Data → Result (List ℕ) FormError
lms_key_in value = sized_in 56 value

-- A number that a byte holds.
abbrev pub byte_in : Option Data → Result ℕ FormError
byte_in value = number_in 0 255 value

-- The number of a member, which is not 0.
abbrev pub member_number_in : Option Data → Result ℕ FormError
member_number_in value = number_in 1 255 value

-- A member: its key and its number.
unfoldable pub member_in : List ℕ → Data → Result NewMember FormsFault
member_in place value = do
  only ← object_at place (codes "key" ∷ codes "number" ∷ []) value
  key ← member_at hss_key_in place (codes "key") value
  number ← member_at member_number_in place (codes "number") value
  Ok (record { number = number; key = key })

-- A node: its endorsement and its key.
unfoldable pub node_in : List ℕ → Data → Result NewNode FormsFault
node_in place value = do
  only ← object_at place (codes "endorsement" ∷ codes "key" ∷ []) value
  endorsement ← member_at endorsement_in place (codes "endorsement") value
  key ← member_at lms_key_in place (codes "key") value
  Ok (record { key = key; endorsement = endorsement })

-- A share's digest: the digest and the member who holds the share.
unfoldable pub share_in : List ℕ → Data → Result ShareDigest FormsFault
share_in place value = do
  only ← object_at place (codes "digest" ∷ codes "member" ∷ []) value
  digest ← member_at digest_in place (codes "digest") value
  holder ← member_at member_number_in place (codes "member") value
  Ok (record { member = holder; digest = digest })

abbrev pub dealing_names : List (List ℕ)
dealing_names = codes "secret_digest" ∷ codes "shares" ∷ codes "threshold" ∷ []

-- A dealing: the secret's digest, at most 255 shares, and the threshold.
unfoldable pub dealing_in : List ℕ → Data → Result Dealing FormsFault
dealing_in place value = do
  only ← object_at place dealing_names value
  secret ← member_at digest_in place (codes "secret_digest") value
  shares ← list_at share_in 0 255 place (codes "shares") value
  threshold ← member_at byte_in place (codes "threshold") value
  Ok (record { threshold = threshold; secret_digest = secret; shares = shares })

-- A member that is a dealing.
unfoldable pub dealing_at : List ℕ → List ℕ → Data → Result Dealing FormsFault
dealing_at place name value =
    member_at value_in place name value >>= dealing_in (member_of place name)
