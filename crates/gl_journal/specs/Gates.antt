-- A file of payloads after gates: a header, and then batches of a gate, a length and a payload.
use Rattle.std.specs.Prelude.{ℕ, zero, suc, ◌+◌, ◌-◌, ◌^◌, ◌<◌, List, [], ◌∷◌, ◌++◌, length, drop, Option, None, Some, Result, Ok, Err, Vec, ◌==◌, if◌then◌else◌}
use Rattle.std.specs.declared.alloc.Global.{Global}
use Rattle.gl_base.specs.LittleEndian.{little_endian}
use Rattle.gl_base.specs.Cut.{Unread, string_at}
use Rattle.gl_base.specs.declared.fault.CutFault.{CutFault}
use Rattle.gl_journal.specs.declared.fault.JournalFault.{JournalFault}
use Rattle.gl_journal.specs.declared.fault.JournalFault.TheVariants.{NotJournal, BadRecord}

-- What stands after a gate: the length of the payload in four bytes, and the payload.
abbrev pub body_of : List ℕ → List ℕ
body_of payload = little_endian 4 (length payload) ++ payload

-- The payload of a batch that is being made: what stands after four bytes for its length.
abbrev pub payload_in : Vec ℕ Global → List ℕ
payload_in batch = drop 4 batch.items

-- Batches after open gates. An open gate is a byte 1.
abbrev pub batches : List (List ℕ) → List ℕ
batches [] = []
batches (payload ∷ payloads) = 1 ∷ body_of payload ++ batches payloads

-- The length of each payload fits its four bytes.
abbrev pub FitLengths : List (List ℕ) → Type 0
FitLengths [] = Unit {0}
FitLengths (payload ∷ payloads) = (length payload < 2 ^ 32) × FitLengths payloads

-- The greatest length that fits.
abbrev pub length_limit : ℕ
length_limit = 2 ^ 32 - 1

-- Bytes after their length of four bytes, of which the first stands at a place, and what is unread
-- after them.
abbrev pub payload_at : ℕ → List ℕ → Result (List ℕ × Unread) CutFault
payload_at at bytes = string_at 4 length_limit (record { at = at; bytes = bytes })

-- Payloads, or the place of the first batch that isn't whole.
abbrev pub Opening : Type 0
Opening = Result (List (List ℕ)) ℕ

abbrev pub with_first : List ℕ → Opening → Opening
with_first payload (Ok payloads) = Ok (payload ∷ payloads)
with_first payload (Err at) = Err at

-- After an open gate at a place: the payload, and what is after it. Where it isn't whole, the place
-- of its length is reported.
abbrev pub after_gate : ℕ → Result (List ℕ × Unread) CutFault → (ℕ → List ℕ → Opening) → Opening
after_gate at (Err fault) next = Err (at + 1)
after_gate at (Ok read) next = with_first read.0 (next read.1.at read.1.bytes)

-- The payloads of at most so many batches, from the gate at a place on. A gate is closed that isn't
-- 1, or that isn't there; what stands after it means nothing.
abbrev pub payloads_within : ℕ → ℕ → List ℕ → Opening
payloads_within zero at bytes = Ok []
payloads_within (suc count) at [] = Ok []
payloads_within (suc count) at (gate ∷ bytes) =
    if gate == 1 then after_gate at (payload_at (at + 1) bytes) (payloads_within count) else Ok []

-- The payloads after open gates up to the first closed one. There are at most as many as bytes.
unfoldable pub payloads_from : ℕ → List ℕ → Opening
payloads_from at bytes = payloads_within (length bytes) at bytes

abbrev pub one_on : Option ℕ → Option ℕ
one_on None = None
one_on (Some at) = Some (at + 1)

-- The first byte of the header that the file lacks, or that differs in it.
abbrev pub mismatch : List ℕ → List ℕ → Option ℕ
mismatch [] file = None
mismatch (byte ∷ header) [] = Some 0
mismatch (byte ∷ header) (other ∷ file) =
    if byte == other then one_on (mismatch header file) else Some 0

abbrev pub opening_answer : Option ℕ → Opening → Result (List (List ℕ)) JournalFault
opening_answer (Some at) opening = Err (NotJournal at)
opening_answer None (Ok payloads) = Ok payloads
opening_answer None (Err at) = Err (BadRecord at)

-- What a file under this header opens to: the payloads after its open gates, or the fault.
unfoldable pub payloads_of : List ℕ → List ℕ → Result (List (List ℕ)) JournalFault
payloads_of header file =
    opening_answer (mismatch header file)
    (payloads_from (length header) (drop (length header) file))

-- The same with one payload more.
abbrev pub with_last : {E : Type 0} → List ℕ → Result (List (List ℕ)) E → Result (List (List ℕ)) E
with_last payload (Ok payloads) = Ok (payloads ++ payload ∷ [])
with_last payload (Err fault) = Err fault
