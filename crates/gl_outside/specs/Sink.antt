-- What a write takes, and prefixes of a text.
use Rattle.std.specs.Prelude.{◌≡◌, ℕ, List, ◌++◌, Option}
use Rattle.std.specs.Io.KnownBytes.{Appends}
use Rattle.gl_outside.specs.declared.sink.Put.{Put}
use Rattle.gl_outside.specs.declared.sink.Put.TheVariants.{Took, Failed, NoMemory}

-- how many bytes a write took
abbrev pub taken_count : Put → ℕ
taken_count (Took n) = n
taken_count Failed = 0
taken_count NoMemory = 0

-- The text begins with this prefix.
abbrev pub Begins : List ℕ → List ℕ → Type 0
Begins text prefix = (rest : List ℕ) × (text ≡ prefix ++ rest)

-- What is held, where it is reported, grew by a prefix of the text.
abbrev pub AppendsPrefix : Option (List ℕ) → Option (List ℕ) → List ℕ → Type 0
AppendsPrefix old new text = (prefix : List ℕ) × Begins text prefix × Appends old new prefix
