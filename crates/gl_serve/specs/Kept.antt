-- What a serve keeps of a stream.
use Rattle.std.specs.Prelude.{ℕ, List, [], ◌++◌, Option, None, Some, unwrap_or}
use Rattle.std.specs.Ordering.{nat_cmp}
use Rattle.std.specs.BTreeMap.{get}
use Rattle.gl_messages.specs.Frames.{Prefix, whole, too_long, unfinished, prefix, payloads, rest}
use Rattle.gl_serve.specs.declared.streams.Stream.{Stream}
use Rattle.gl_serve.specs.declared.streams.Stream.TheVariants.{Heard, Deaf}
use Rattle.gl_serve.specs.declared.streams.Streams.{Streams}

-- What is kept once a piece came.
abbrev pub fed : List ℕ → Stream → Stream
fed piece (Heard bytes) = Heard (bytes ++ piece)
fed piece Deaf = Deaf

-- The next payload, if one is whole, and what is kept after it.
abbrev pub next_by : Prefix → List ℕ → Option (List ℕ) × Stream
next_by (whole payload left) bytes = (Some payload, Heard left)
next_by (too_long len) bytes = (None, Deaf)
next_by unfinished bytes = (None, Heard bytes)

-- The same of what is kept.
abbrev pub next_of : Stream → Option (List ℕ) × Stream
next_of (Heard bytes) = next_by (prefix bytes) bytes
next_of Deaf = (None, Deaf)

-- What is kept of a stream whose whole frames were taken: what is left after them, and nothing
-- where a length above the limit stands there.
abbrev pub kept_at : Prefix → List ℕ → Stream
kept_at (whole payload left) bytes = Heard bytes
kept_at (too_long len) bytes = Deaf
kept_at unfinished bytes = Heard bytes

-- What is kept of a stream.
abbrev pub kept_of : List ℕ → Stream
kept_of bytes = kept_at (prefix (rest bytes)) (rest bytes)

-- All payloads that are whole.
abbrev pub payloads_of : Stream → List (List ℕ)
payloads_of (Heard bytes) = payloads bytes
payloads_of Deaf = []

-- What is kept after them.
abbrev pub rest_of : Stream → Stream
rest_of (Heard bytes) = kept_of bytes
rest_of Deaf = Deaf

-- What is kept of a connection's stream.
abbrev pub stream_at : Streams → ℕ → Stream
stream_at streams conn = unwrap_or (get nat_cmp streams.streams conn) (Heard [])
