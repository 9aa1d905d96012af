-- The bytes of a refusal's values, as a client is answered them.
use Rattle.std.specs.Prelude.{ℕ, List, [], None, Some}
use Rattle.std.specs.List.{flat_map}
use Rattle.gl_base.specs.Field.{with_u32_length}
use Rattle.gl_base.specs.LittleEndian.{little_endian}
use Rattle.gl_answers.specs.declared.value.Value.{Value}
use Rattle.gl_answers.specs.declared.value.Value.TheVariants.{Number, Digest, Leader}

-- A number has eight bytes, with the low byte first. A digest stands after its length in four
-- bytes; so does a leader, of whom there are no bytes where none is known.
abbrev pub value_bytes : Value → List ℕ
value_bytes (Number n) = little_endian 8 n
value_bytes (Digest digest) = with_u32_length digest
value_bytes (Leader None) = with_u32_length []
value_bytes (Leader (Some id)) = with_u32_length id

-- The values stand one after the other.
abbrev pub values_bytes : List Value → List ℕ
values_bytes values = flat_map value_bytes values

-- The most bytes of a value: a length in four, and 32.
abbrev pub most_bytes : ℕ
most_bytes = 36
