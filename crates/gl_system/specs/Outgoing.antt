-- Bytes that wait for a writer.
use Rattle.std.specs.Prelude.{◌≡◌, ℕ, ◌*◌, ◌^◌, List, ◌++◌, Option}
use Rattle.std.specs.Io.KnownBytes.{Appends}

-- At most so many bytes wait on a connection: 64 MiB.
abbrev pub room : ℕ
room = 64 * 2 ^ 20

-- A prefix of the waiting bytes went to the writer, and the rest is left.
pub record Moves (waiting left : List ℕ) (held holds : Option (List ℕ)) : Type 0 where
  pub prefix : List ℕ
  pub parted : waiting ≡ prefix ++ left
  pub written : Appends held holds prefix
