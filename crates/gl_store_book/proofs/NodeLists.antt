-- Lists that are kept beside a ledger: what is added, and what is left where the ledger is cut.
use Rattle.std.proofs.Common.{◌≡◌, ℕ, zero, suc, ◌≤◌, ◌-◌, List, [], ◌∷◌, ◌++◌, length, take, drop, map, refl, ap, ap₂, ◌∙◌, arith, take_all, take-append-drop, length-drop}

map-dropped : {A B : Type 0} (f : A → B) (xs : List A) (n : ℕ) → map f (drop n xs) ≡ drop n (map f xs)
map-dropped f xs zero = refl
map-dropped f [] (suc n) = refl
map-dropped f (x ∷ xs) (suc n) = map-dropped f xs n

-- what was there, and what comes after it, is all
pub filled : {A B : Type 0} (f : A → B) (xs : List A) (ys zs : List B) (n k : ℕ) → ys ≡ take n (map f xs) →
    zs ≡ ys ++ map f (take k (take (length xs - n) (drop n xs))) → length (take (length xs - n) (drop n xs)) ≤ k → zs ≡ map f xs
filled {A = A} {B = B} f xs ys zs n k prefix more long =
    let rest : take (length xs - n) (drop n xs) ≡ drop n xs = take_all (length xs - n) (drop n xs) (let l = length-drop n xs in omega (arith, l)) in
    let last : take k (take (length xs - n) (drop n xs)) ≡ drop n xs = take_all k (take (length xs - n) (drop n xs)) long ∙ rest in
    more ∙ ap₂ (λ (us vs : List B). us ++ vs) prefix (ap (map f) last ∙ map-dropped f xs n) ∙ take-append-drop n (map f xs)
