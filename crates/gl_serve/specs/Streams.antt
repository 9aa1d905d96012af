-- The streams of the connections.
use Rattle.std.specs.Prelude.{ℕ, List, [], ◌∷◌, ◌++◌, drop, length, ◌==◌, if◌then◌else◌}
use Rattle.gl_outside.specs.Link.{Arrival, Bytes, Tick}
use Rattle.gl_messages.specs.Frames.{payloads}

-- All bytes that came on a connection, however they were cut.
abbrev pub stream : ℕ → List Arrival → List ℕ
stream conn [] = []
stream conn (Bytes from bytes ∷ more) =
    (if from == conn then bytes else []) ++ stream conn more
stream conn (Tick ∷ more) = stream conn more

-- The payloads of a stream that are whole with a piece, and were not before. After a length above
-- the limit none ever is.
unfoldable pub fresh : List ℕ → List ℕ → List (List ℕ)
fresh before piece = drop (length (payloads before)) (payloads (before ++ piece))
