-- The nodes that a proposal's JSON names by their numbers: a text `#N` stands for the identifier of
-- node N.
use Rattle.std.specs.Prelude.{ℕ, zero, suc, List, [], ◌∷◌, Option, None, Some, Result, Ok, Err, Bool, false, ◌||◌, ◌==◌, is_some, not, replicate, slice_get, if◌then◌else◌}
use Rattle.hex.specs.Hex.{encode_lower}
use Rattle.serde_json.specs.Data.{Data, null, boolean, number, string, array, object, Items, no_items, item, Members, no_members, member}
use Rattle.gl_lines.specs.declared.fault.LineFault.{LineFault}
use Rattle.gl_lines.specs.Numbers.{counted_number}

abbrev pub if_number : Result ℕ LineFault → Option ℕ
if_number (Ok n) = Some n
if_number (Err fault) = None

-- The number of the node that a text names: after a `#` it is decimal.
abbrev pub reference_in : List ℕ → Option ℕ
reference_in [] = None
reference_in (mark ∷ digits) = if mark == 35 then if_number (counted_number digits) else None

-- The identifier of the node with a number, from 1, if there is one.
abbrev pub id_at : List (List ℕ) → ℕ → Option (List ℕ)
id_at ids zero = None
id_at ids (suc i) = slice_get ids i

-- An identifier in hexadecimal; 32 bytes of 0 for a node that there isn't.
abbrev pub id_digits : Option (List ℕ) → List ℕ
id_digits None = encode_lower (replicate 32 0)
id_digits (Some id) = encode_lower id

abbrev pub text_with_id : List (List ℕ) → List ℕ → Option ℕ → List ℕ
text_with_id ids text None = text
text_with_id ids text (Some n) = id_digits (id_at ids n)

-- The tree with the identifiers of these nodes in place of the texts that name them. The names of
-- members stay as they are.
abbrev mutual
  pub with_ids : List (List ℕ) → Data → Data
  with_ids ids null = null
  with_ids ids (boolean b) = boolean b
  with_ids ids (number n) = number n
  with_ids ids (string text) = string (text_with_id ids text (reference_in text))
  with_ids ids (array values) = array (items_with_ids ids values)
  with_ids ids (object members) = object (members_with_ids ids members)

  pub items_with_ids : List (List ℕ) → Items → Items
  items_with_ids ids no_items = no_items
  items_with_ids ids (item value values) = item (with_ids ids value) (items_with_ids ids values)

  pub members_with_ids : List (List ℕ) → Members → Members
  members_with_ids ids no_members = no_members
  members_with_ids ids (member name value members) =
      member name (with_ids ids value) (members_with_ids ids members)

-- The text names a node that there isn't.
abbrev pub is_unknown : List (List ℕ) → Option ℕ → Bool
is_unknown ids None = false
is_unknown ids (Some n) = not (is_some (id_at ids n))

-- The tree names a node that there isn't.
abbrev mutual
  pub names_unknown : List (List ℕ) → Data → Bool
  names_unknown ids null = false
  names_unknown ids (boolean b) = false
  names_unknown ids (number n) = false
  names_unknown ids (string text) = is_unknown ids (reference_in text)
  names_unknown ids (array values) = items_name_unknown ids values
  names_unknown ids (object members) = members_name_unknown ids members

  pub items_name_unknown : List (List ℕ) → Items → Bool
  items_name_unknown ids no_items = false
  items_name_unknown ids (item value values) =
      names_unknown ids value || items_name_unknown ids values

  pub members_name_unknown : List (List ℕ) → Members → Bool
  members_name_unknown ids no_members = false
  members_name_unknown ids (member name value members) =
      names_unknown ids value || members_name_unknown ids members
