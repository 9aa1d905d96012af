-- Pieces written one after the other.
use Rattle.std.proofs.Common.{◌≡◌, ℕ, ◌+◌, ◌-◌, ◌≤◌, List, ◌++◌, length, drop, sym, ap, ◌∙◌, subst, arith}
use Rattle.std.proofs.Math.Seq.{drop-append-add, drop-append_seam}
use Rattle.std.proofs.lemmas.List.{drop-drop}

-- After a piece that was written the bytes are as they were.
pub rest_after : (at : ℕ) (out prefix piece room back : List ℕ) → length prefix ≡ at → room ≡ drop at out → back ≡ drop (length piece) room
    → drop (at + length piece) (prefix ++ (piece ++ back)) ≡ drop (at + length piece) out
rest_after at out prefix piece room back e f g =
    let step : drop (length prefix + length piece) (prefix ++ (piece ++ back)) ≡ drop (length piece) (drop at out) =
    drop-append-add prefix (piece ++ back) (length piece) ∙ drop-append_seam piece back ∙ g ∙ ap (drop (length piece)) f in
    subst (λ (n : ℕ). drop (n + length piece) (prefix ++ (piece ++ back)) ≡ drop (length piece) (drop at out)) e step
    ∙ drop-drop (length piece) at out

-- What is the same from one place on is the same from a later one on.
pub same_further : (n m : ℕ) (xs ys : List ℕ) → n ≤ m → drop n xs ≡ drop n ys → drop m xs ≡ drop m ys
same_further n m xs ys le e =
    let more : n + (m - n) ≡ m = omega arith in
    let step : drop (n + (m - n)) xs ≡ drop (n + (m - n)) ys =
    sym (drop-drop (m - n) n xs) ∙ ap (drop (m - n)) e ∙ drop-drop (m - n) n ys in
    subst (λ (k : ℕ). drop k xs ≡ drop k ys) more step
