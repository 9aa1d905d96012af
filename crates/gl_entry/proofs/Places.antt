-- The place after a field.
use Rattle.std.proofs.Common.{◌≡◌, ℕ, ◌+◌, List, length, Ok, arith}
use Rattle.gl_base.specs.Cut.{Unread, bytes_at, string_at}
use Rattle.gl_base.proofs.Numbers.{bytes_at_ok, bytes_at_length, number_at_ok, string_at_ok}

pub bytes_at_place : (count : ℕ) (old new : Unread) (xs : List ℕ) → bytes_at count old ≡ Ok (xs, new) → new.at ≡ old.at + length xs
bytes_at_place count old new xs e =
    let bytes = bytes_at_ok count old new xs e in
    omega (arith, bytes.place, bytes_at_length count old new xs e)

pub string_at_place : (size limit : ℕ) (old new : Unread) (xs : List ℕ) → string_at size limit old ≡ Ok (xs, new) → new.at ≡ old.at + size + length xs
string_at_place size limit old new xs e =
    let string = string_at_ok size limit old new xs e in
    let len = number_at_ok size string.count old string.suffix string.len in
    let bytes = bytes_at_ok string.count string.suffix new xs string.bytes in
    omega (arith, len.taken.place, bytes.place, bytes_at_length string.count string.suffix new xs string.bytes)
