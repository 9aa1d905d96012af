-- The parts of what a step of a chain hashes.
use Rattle.std.proofs.Common.{◌≡◌, ℕ, ◌<◌, List, [], ◌∷◌, ◌++◌, length, take, drop, set, sym, ap, ◌∙◌, append_assoc, arith}
use Rattle.std.proofs.lemmas.List.{take_at, drop_at, take-append-le, take-take, take-set, set_split, length-append}
use Rattle.gl_hss.specs.Steps.{step_prefix, step_value}

pub prefix-of_parts : (p n v : List ℕ) → length p ≡ 22 → step_prefix (p ++ (n ++ v)) ≡ p
prefix-of_parts p n v h = take_at p (n ++ v) 22 h

pub value-of_parts : (p n v : List ℕ) → length p ≡ 22 → length n ≡ 1 → step_value (p ++ (n ++ v)) ≡ v
value-of_parts p n v h g = ap (drop 23) (sym (append_assoc p n v)) ∙ drop_at (p ++ n) v 23 (omega (arith, length-append p n, h, g))

-- the step's number stands between the two
pub numbered : (input : List ℕ) (j : ℕ) → 22 < length input → set input 22 j ≡ step_prefix input ++ (j ∷ []) ++ step_value input
numbered input j h = set_split input 22 j h ∙ sym (append_assoc (take 22 input) (j ∷ []) (drop 23 input))

-- the prefix stays where the number and the value are written
pub prefix-kept : (input first_part v : List ℕ) (j : ℕ) → first_part ≡ take 23 (set input 22 j) → length first_part ≡ 23 → step_prefix (first_part ++ v) ≡ step_prefix input
prefix-kept input first_part v j is len =
    take-append-le 22 first_part v (omega (arith, len)) ∙ ap (take 22) is ∙ take-take 22 23 (set input 22 j) (omega arith) ∙ take-set input 22 j
