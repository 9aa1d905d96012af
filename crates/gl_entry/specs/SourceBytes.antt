-- What is said of the bytes that a source gives, whether it tells them or not.
use Rattle.std.specs.Prelude.{ℕ, List, Option, None, Some}

-- What holds of the bytes that a source has to give: of those that it tells, or of some bytes,
-- where it tells none.
abbrev pub OfBytes : Option (List ℕ) → (List ℕ → Type 0) → Type 0
OfBytes None P = (given : List ℕ) × P given
OfBytes (Some given) P = P given
