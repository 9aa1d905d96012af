-- An endorsed key, as its callers see it.
use Rattle.std.specs.Prelude.{ℕ, List}

-- an HSS key, the LMS key that it endorses, and the LMS signature by which it does
pub record Endorsement : Type 0 where
  pub identity : List ℕ
  pub key : List ℕ
  pub signature : List ℕ
