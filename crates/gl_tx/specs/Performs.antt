-- Parts of what an operation gives.
use Rattle.std.specs.Prelude.{ℕ, ◌^◌, List, Option, None, Some, Result, Ok, Err, length, ◌==◌, nat_lt, if◌then◌else◌}
use Rattle.gl_base.specs.LittleEndian.{from_little_endian}
use Rattle.gl_vmaps.specs.Name.{is_key}
use Rattle.gl_tx.specs.declared.abort.Cause.{Cause}
use Rattle.gl_tx.specs.declared.abort.Cause.TheVariants as causes

-- The key that a value is.
abbrev pub key_of : List ℕ → Result (List ℕ) Cause
key_of value = if is_key value then Ok value else Err causes.BadKey

-- The number that a row holds in eight bytes, the lowest first. An absent row counts as 0.
abbrev pub number_in : Option (List ℕ) → Result ℕ Cause
number_in None = Ok 0
number_in (Some value) =
    if length value == 8 then Ok (from_little_endian value) else Err causes.NotNumber

-- A sum within 64 bits.
abbrev pub sum_of : ℕ → Result ℕ Cause
sum_of sum = if nat_lt sum (2 ^ 64) then Ok sum else Err causes.Overflow
