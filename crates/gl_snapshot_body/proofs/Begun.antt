-- What a list held before still stands at its start.
use Rattle.std.proofs.Common.{◌≡◌, ℕ, List, ◌++◌, length, take, drop, sym, ap, ◌∙◌, append_assoc}
use Rattle.std.proofs.Math.Seq.{take-append_seam, take-length}
use Rattle.std.proofs.lemmas.List.{take-append-drop}

pub begun_itself : (xs : List ℕ) → take (length xs) xs ≡ xs
begun_itself xs = take-length xs

pub begun_further : (xs piece ys zs : List ℕ) → take (length ys) zs ≡ ys → ys ≡ xs ++ piece → take (length xs) zs ≡ xs
begun_further xs piece ys zs there e =
    let back : List ℕ = drop (length ys) zs in
    let whole : zs ≡ xs ++ (piece ++ back) = sym (take-append-drop (length ys) zs) ∙ ap (λ (us : List ℕ). us ++ back) (there ∙ e) ∙ append_assoc xs piece back in
    ap (take (length xs)) whole ∙ take-append_seam xs (piece ++ back)

pub begun_before : (xs a b ys zs : List ℕ) → take (length ys) zs ≡ ys → ys ≡ (xs ++ a) ++ b → take (length xs) zs ≡ xs
begun_before xs a b ys zs there e = begun_further xs (a ++ b) ys zs there (e ∙ append_assoc xs a b)

-- After one piece and others, and after two pieces that were written one after the other.
pub ruleset begun = (begun_itself, begun_further, take-append_seam)

pub ruleset begun_twice = (begun_itself, begun_further, begun_before, take-append_seam)
