-- Values read from the start of bytes: beside the faults of their fields, what isn't allowed where
-- it stands, and bytes that are left over.
use Rattle.std.specs.Prelude.{ℕ, List, Bool, true, false, Result, Ok, Err, length, ◌==◌, if◌then◌else◌}
use Rattle.gl_base.specs.Cut.{Unread, number_at}
use Rattle.gl_base.specs.Steps.{◌>>=◌}
use Rattle.gl_base.specs.declared.fault.CutFault.{CutFault}
use Rattle.gl_base.specs.declared.fault.CodeFault.{CodeFault}
use Rattle.gl_base.specs.declared.fault.CodeFault.TheVariants.{Cut, Trailing, Value}

-- All of the bytes, of which the first stands at 0.
abbrev pub unread_of : List ℕ → Unread
unread_of bytes = record { at = 0; bytes = bytes }

-- What the reading of a field gives, as a part of a value.
abbrev pub field : {X : Type 0} → Result X CutFault → Result X CodeFault
field (Ok x) = Ok x
field (Err fault) = Err (Cut fault)

-- A byte that says no or yes.
abbrev pub flag_byte : Bool → ℕ
flag_byte false = 0
flag_byte true = 1

-- What a byte says; the place where it stands is told where it is neither of the two.
abbrev pub flag_in : ℕ → ℕ × Unread → Result (Bool × Unread) CodeFault
flag_in place byte =
    if byte.0 == 0 then Ok (false, byte.1)
    else (if byte.0 == 1 then Ok (true, byte.1) else Err (Value place))

unfoldable pub flag_at : Unread → Result (Bool × Unread) CodeFault
flag_at unread = field (number_at 1 unread) >>= flag_in unread.at

-- Nothing may be left over: the first byte that is, is reported.
abbrev pub ended : {X : Type 0} → X × Unread → Result X CodeFault
ended read = if length read.1.bytes == 0 then Ok read.0 else Err (Trailing read.1.at)

-- A value that is all of the bytes, of which the first stands at a place.
abbrev pub whole_at : {X : Type 0} → (Unread → Result (X × Unread) CodeFault) → ℕ → List ℕ
    → Result X CodeFault
whole_at reading place bytes = reading (record { at = place; bytes = bytes }) >>= ended

-- A value that is all of the bytes.
abbrev pub whole : {X : Type 0} → (Unread → Result (X × Unread) CodeFault) → List ℕ
    → Result X CodeFault
whole reading bytes = whole_at reading 0 bytes
