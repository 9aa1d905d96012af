-- A stream of bytes as frames: each payload stands after its length in four bytes, the most
-- significant first.
use Rattle.std.specs.Prelude.{◌≡◌, ℕ, zero, suc, ◌+◌, ◌*◌, List, [], ◌∷◌, ◌++◌, Option, None, Some, Result, Ok, Err, length, take, drop, nat_lt, if◌then◌else◌}
use Rattle.std.specs.Int.{w32, to_be_bytes}
use Rattle.gl_base.specs.declared.or_no_memory.OrNoMemory.{OrNoMemory}
use Rattle.gl_base.specs.declared.or_no_memory.OrNoMemory.TheVariants as errors
use Rattle.gl_messages.specs.declared.fault.FrameFault.{FrameFault}
use Rattle.gl_messages.specs.declared.fault.FrameFault.TheVariants.{FrameTooLong}

-- 2 MiB: the most bytes of a payload.
abbrev pub frame_limit : ℕ
frame_limit = 2097152

-- The frame of a payload.
abbrev pub framed : List ℕ → List ℕ
framed payload = to_be_bytes w32 (length payload) ++ payload

-- What stands at the start of a stream.
pub data Prefix : Type 0 where
  -- a whole frame: its payload, and what stands after the frame
  whole : (payload : List ℕ) → (rest : List ℕ) → Prefix
  -- a length above the limit
  too_long : (len : ℕ) → Prefix
  -- neither: more bytes must come
  unfinished : Prefix

-- What stands after a length.
abbrev pub after_length : ℕ → List ℕ → Prefix
after_length len bytes =
    if nat_lt frame_limit len then too_long len
    else (if nat_lt (length bytes) len then unfinished
    else whole (take len bytes) (drop len bytes))

unfoldable pub prefix : List ℕ → Prefix
prefix (a ∷ b ∷ c ∷ d ∷ bytes) = after_length (((a * 256 + b) * 256 + c) * 256 + d) bytes
prefix stream = unfinished

-- A call gave what stands at the start of the bytes that were kept, and took a whole frame from
-- them. Where it gave no payload the bytes are as they were.
abbrev pub GivesPrefix : {X : Type 0} → (X → List ℕ) → List ℕ
    → Result (Option X) (OrNoMemory FrameFault) → List ℕ → Type 0
GivesPrefix payload old (Ok (Some x)) new = prefix old ≡ whole (payload x) new
GivesPrefix payload old (Ok None) new = (prefix old ≡ unfinished) × (new ≡ old)
GivesPrefix payload old (Err (errors.Fault (FrameTooLong len))) new =
    (prefix old ≡ too_long len) × (new ≡ old)
GivesPrefix payload old (Err errors.NoMemory) new = new ≡ old

-- A stream in whole

abbrev pub first_and : Prefix → (List ℕ → List (List ℕ)) → List (List ℕ)
first_and (whole payload rest) more = payload ∷ more rest
first_and (too_long len) more = []
first_and unfinished more = []

abbrev pub after_first : Prefix → (List ℕ → List ℕ) → List ℕ → List ℕ
after_first (whole payload rest) more stream = more rest
after_first (too_long len) more stream = stream
after_first unfinished more stream = stream

abbrev pub payloads_in : ℕ → List ℕ → List (List ℕ)
payloads_in zero stream = []
payloads_in (suc n) stream = first_and (prefix stream) (payloads_in n)

abbrev pub rest_in : ℕ → List ℕ → List ℕ
rest_in zero stream = stream
rest_in (suc n) stream = after_first (prefix stream) (rest_in n) stream

-- The payloads of the whole frames at the start of a stream, one after the other, and what is left
-- after them. There are no more frames than bytes.
unfoldable pub payloads : List ℕ → List (List ℕ)
payloads stream = payloads_in (length stream) stream

unfoldable pub rest : List ℕ → List ℕ
rest stream = rest_in (length stream) stream

-- No whole frame stands at the start.
abbrev pub IsNoFrame : Prefix → Type 0
IsNoFrame (whole payload rest) = ⊥
IsNoFrame (too_long len) = Unit {0}
IsNoFrame unfinished = Unit {0}
