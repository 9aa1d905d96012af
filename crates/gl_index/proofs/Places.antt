-- The place of an identifier among others.
use Rattle.std.proofs.Common.{◌≡◌, ℕ, suc, ◌+◌, ◌<◌, ◌≤◌, ◌≢◌, Bool, true, false, List, [], ◌∷◌, ◌++◌, Option, None, Some, length, get_or, nat_lt, nat_eq, cond, not, refl, sym, ◌∙◌, ap, arith}
use Rattle.std.specs.List.{position, position_or_len}
use Rattle.std.specs.Option.{unwrap_or}
use Rattle.std.proofs.lemmas.List.Sums.{prefix_len-le-length, passes_at_first}
use Rattle.std.proofs.lemmas.Bool.{false≢true}
use Rattle.std.proofs.lemmas.Bool.Decides.{nat_tests}
use Rattle.std.specs.Cmp.Lexicographic.{bytes_decides}
use Rattle.gl_base.specs.Bytes.{same_bytes}
use Rattle.gl_index.specs.KeyedLists.{place_of}

same_place : (a b : ℕ) → nat_lt a b ≡ false → a ≤ b → b ≡ a
same_place a b e le = grind (arith, nat_tests)

pub place_from : {X : Type 0} (p : X → Bool) (xs : List X) (o : Option ℕ) → o ≡ position p xs → unwrap_or o (length xs) ≡ position_or_len p xs
place_from p xs o is = ap (λ (q : Option ℕ). unwrap_or q (length xs)) is ∙ by (nat_lt (position_or_len p xs) (length xs)) refl
  where
    by : (b : Bool) → nat_lt (position_or_len p xs) (length xs) ≡ b → unwrap_or (cond b (Some (position_or_len p xs)) None) (length xs) ≡ position_or_len p xs
    by true e = refl
    by false e = same_place (position_or_len p xs) (length xs) e (prefix_len-le-length (λ x. not (p x)) xs)

-- ---- an identifier more

same_self : (xs : List ℕ) → same_bytes xs xs ≡ true
same_self [] = refl
same_self (x ∷ xs) = let here : nat_eq x x ≡ true = grind (arith, nat_tests) in rw here (same_self xs)

pushed_step : (b : Bool) (size place after : ℕ) → suc size ≤ cond (not b) (1 + place) 0 → (size ≤ place → after ≡ place) → cond (not b) (1 + after) 0 ≡ cond (not b) (1 + place) 0
pushed_step true size place after high rest = refl
pushed_step false size place after high rest = ap (λ n. 1 + n) (rest (omega arith))

pushed_place : {X : Type 0} (p : X → Bool) (xs : List X) (y : X) → p y ≡ true → length xs ≤ position_or_len p xs → position_or_len p (xs ++ y ∷ []) ≡ position_or_len p xs
pushed_place p [] y passes high = rw passes refl
pushed_place p (x ∷ xs) y passes high = pushed_step (p x) (length xs) (position_or_len p xs) _ high (pushed_place p xs y passes)

-- the place of an identifier that is put after those that hold it not
pub place_pushed : (ids : List (List ℕ)) (id : List ℕ) → length ids ≤ place_of ids id → place_of (ids ++ id ∷ []) id ≡ place_of ids id
place_pushed ids id high = pushed_place (same_bytes id) ids id (same_self id) high

pub place_bound : (ids : List (List ℕ)) (id : List ℕ) → place_of ids id ≤ length ids
place_bound ids id = prefix_len-le-length (λ other. not (same_bytes id other)) ids

-- ---- another identifier

-- it stands at another place, or at none
pub other_place : (ids : List (List ℕ)) (id other : List ℕ) → place_of ids id < length ids → same_bytes id other ≡ false → place_of ids other ≢ place_of ids id
other_place ids id other known differ same =
    let here : same_bytes id (get_or ids (place_of ids id) id) ≡ true = passes_at_first (same_bytes id) ids id known in
    let there : same_bytes other (get_or ids (place_of ids other) id) ≡ true = passes_at_first (same_bytes other) ids id (rw same known) in
    let at : get_or ids (place_of ids other) id ≡ get_or ids (place_of ids id) id = ap (λ n. get_or ids n id) same in
    let equal : id ≡ other = (bytes_decides id _).0 here ∙ sym at ∙ sym ((bytes_decides other _).0 there) in
    false≢true (sym differ ∙ ap (same_bytes id) (sym equal) ∙ same_self id)
