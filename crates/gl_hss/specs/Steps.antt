-- What a step of a chain hashes, as the code holds it: 22 bytes, the step's number and 32 bytes.
use Rattle.std.specs.Prelude.{ℕ, List, take, drop}

-- the bytes that all steps of a chain begin with
abbrev pub step_prefix : List ℕ → List ℕ
step_prefix input = take 22 input

-- the value that the step takes on
abbrev pub step_value : List ℕ → List ℕ
step_value input = drop 23 input
