-- Keys in a JSON tree, read and written.
use Rattle.std.specs.Prelude.{ℕ, List, [], ◌∷◌, Bool, codes, Option, None, Some, is_some, Result, Ok, Err, if◌then◌else◌}
use Rattle.hex.specs.Hex.{encode_lower}
use Rattle.serde_json.specs.Data.{Data, string, object, Members, no_members, member}
use Rattle.serde_json.specs.Find.{get}
use Rattle.gl_base.specs.Bytes.{same_bytes}
use Rattle.gl_base.specs.Json.{member_of}
use Rattle.gl_base.specs.Steps.{◌>>=◌}
use Rattle.gl_base.specs.declared.json.FormsFault.{FormsFault}
use Rattle.gl_base.specs.declared.json.FormsFault.TheVariants as faults
use Rattle.gl_forms.specs.Form.{endorsement_in, object_at, member_at, word_at}
use Rattle.gl_forms.specs.Parts.{digest_in, hss_key_in, lms_key_in}
use Rattle.gl_forms.specs.declared.key.KeyForm.{KeyForm}
use Rattle.gl_forms.specs.declared.key.KeyForm.TheVariants.{Service, Member, Node}

-- Reading

-- The one key of a service or of a member.
unfoldable pub one_key_in : Data → Result (List ℕ) FormsFault
one_key_in value = do
  only ← object_at [] (codes "key" ∷ codes "kind" ∷ []) value
  member_at hss_key_in [] (codes "key") value

abbrev pub has_endorsement : Data → Bool
has_endorsement value = is_some (get (codes "endorsement") value)

-- The members of a node's key: with an endorsement or without.
abbrev pub node_key_names : Bool → List (List ℕ)
node_key_names endorsed =
    if endorsed then codes "endorsement" ∷ codes "key" ∷ codes "kind" ∷ codes "node" ∷ []
    else codes "key" ∷ codes "kind" ∷ codes "node" ∷ []

-- The endorsement, where there is one.
unfoldable pub optional_endorsement_in : Data → Result (Option (List ℕ)) FormsFault
optional_endorsement_in value =
    if has_endorsement value
    then (member_at endorsement_in [] (codes "endorsement") value >>= λ bytes. Ok (Some bytes))
    else Ok None

-- A node's key. Whether its identifier is the key's digest is not tried.
unfoldable pub node_key_in : Data → Result KeyForm FormsFault
node_key_in value = do
  only ← object_at [] (node_key_names (has_endorsement value)) value
  endorsement ← optional_endorsement_in value
  key ← member_at lms_key_in [] (codes "key") value
  id ← member_at digest_in [] (codes "node") value
  Ok (Node key id endorsement)

-- The key of this kind.
unfoldable pub key_of_kind : List ℕ → Data → Result KeyForm FormsFault
key_of_kind kind value =
    if same_bytes kind (codes "service") then (one_key_in value >>= λ key. Ok (Service key))
    else (if same_bytes kind (codes "member") then (one_key_in value >>= λ key. Ok (Member key))
    else (if same_bytes kind (codes "node") then node_key_in value
    else Err (faults.Shape (member_of [] (codes "kind")))))

-- A key. The member `kind`, which decides about the others, comes before them.
unfoldable pub key_in : Data → Result KeyForm FormsFault
key_in value = word_at [] (codes "kind") value >>= λ kind. key_of_kind kind value

-- Writing

-- Bytes are texts in lower-case hexadecimal.
abbrev pub hex_tree : List ℕ → Data
hex_tree bytes = string (encode_lower bytes)

abbrev pub one_key_tree : List ℕ → List ℕ → Data
one_key_tree kind key = object (
    member (codes "key") (hex_tree key) (
    member (codes "kind") (string kind) no_members
    )
    )

-- The members of a node's key after its endorsement.
abbrev pub node_key_members : List ℕ → List ℕ → Members
node_key_members key id =
    member (codes "key") (hex_tree key) (
    member (codes "kind") (string (codes "node")) (
    member (codes "node") (hex_tree id) no_members
    )
    )

abbrev pub node_key_tree : List ℕ → List ℕ → Option (List ℕ) → Data
node_key_tree key id None = object (node_key_members key id)
node_key_tree key id (Some endorsement) =
    object (member (codes "endorsement") (hex_tree endorsement) (node_key_members key id))

-- The JSON tree of a key.
abbrev pub key_tree : KeyForm → Data
key_tree (Service key) = one_key_tree (codes "service") key
key_tree (Member key) = one_key_tree (codes "member") key
key_tree (Node key id endorsement) = node_key_tree key id endorsement
