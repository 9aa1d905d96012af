-- Of trails and places: beginnings, the longer of two, how often a place stands in a list.
use Rattle.std.proofs.Common.{◌≡◌, ℕ, zero, suc, ◌+◌, ◌<◌, ◌≤◌, eqb, nat_lt, Bool, true, false, if◌then◌else◌, List, [], ◌∷◌, ◌++◌, length, get_or, drop, refl, sym, ap, ◌∙◌, append_assoc, append-nil, length-append, eq-eqb, ne_eqb, arith}
use Rattle.std.proofs.lemmas.Bool.{ltb-true, ltb-false}
use mathlib.Core.Logic.{dite}
use native.Mathlib.Decide.{ℕ_discrete}
use Rattle.gl_turn.specs.View.{IsPrefix, longer, shorter, times, places}

module _ {A : Type 0} where
  pub prefix_same : (xs : List A) → IsPrefix xs xs
  prefix_same xs = ([], append-nil xs)

  pub prefix_through : (xs ys zs : List A) → IsPrefix xs ys → IsPrefix ys zs → IsPrefix xs zs
  prefix_through xs ys zs p q =
      (p.0 ++ q.0, sym (append_assoc xs p.0 q.0) ∙ (ap (λ l. l ++ q.0) p.1 ∙ q.1))

  pub prefix_len : (xs ys : List A) → IsPrefix xs ys → length xs ≤ length ys
  prefix_len xs ys p =
      let e = ap length p.1 in
      let sum = length-append xs p.0 in
      omega arith

  -- Of two beginnings of one list, the one that isn't longer begins the other.
  pub prefix_of_longer : (xs ys zs : List A) → IsPrefix xs zs → IsPrefix ys zs → length xs ≤ length ys → IsPrefix xs ys
  prefix_of_longer [] ys zs p q le = (ys, refl)
  prefix_of_longer (x ∷ xs) [] zs p q le = absurd (omega arith)
  prefix_of_longer (x ∷ xs) (y ∷ ys) [] p q le = let e = ap length p.1 in absurd (omega arith)
  prefix_of_longer (x ∷ xs) (y ∷ ys) (z ∷ zs) p q le =
      let same : x ≡ y = ap (λ l. get_or l 0 x) (p.1 ∙ sym q.1) in
      let tails = prefix_of_longer xs ys zs (p.0, ap (drop 1) p.1) (q.0, ap (drop 1) q.1) (omega arith) in
      (tails.0, λ i. same i ∷ tails.1 i)

  pub shorter_begins : (xs ys zs : List A) → IsPrefix xs zs → IsPrefix ys zs → IsPrefix (shorter xs ys) (longer xs ys)
  shorter_begins xs ys zs p q = go (nat_lt (length xs) (length ys)) refl
    where
      go : (b : Bool) → nat_lt (length xs) (length ys) ≡ b → IsPrefix (if b then xs else ys) (if b then ys else xs)
      go true e = let less = ltb-true (length xs) (length ys) e in prefix_of_longer xs ys zs p q (omega arith)
      go false e = prefix_of_longer ys xs zs q p (ltb-false (length xs) (length ys) e)

  pub longer_begins : (xs ys zs : List A) → IsPrefix xs zs → IsPrefix ys zs → IsPrefix (longer xs ys) zs
  longer_begins xs ys zs p q = go (nat_lt (length xs) (length ys))
    where
      go : (b : Bool) → IsPrefix (if b then ys else xs) zs
      go true = q
      go false = p

pub times_both : (p : ℕ) (xs ys : List ℕ) → times p (xs ++ ys) ≡ times p xs + times p ys
times_both p [] ys = omega arith
times_both p (x ∷ xs) ys = let more = times_both p xs ys in omega arith

pub times_outside : (p from n : ℕ) → p < from → times p (places from n) ≡ 0
times_outside p from zero low = refl
times_outside p from (suc n) low =
    let other : eqb from p ≡ false = ne_eqb from p (λ e. omega arith) in
    let more = times_outside p (suc from) n (omega arith) in
    rw other (omega arith)

pub times_inside : (p from n : ℕ) → 0 < times p (places from n) → (from ≤ p) × (p < from + n)
times_inside p from zero some = absurd (omega arith)
times_inside p from (suc n) some = dite (ℕ_discrete from p)
    (λ e. (omega arith, omega arith))
    (λ ne. let some' = rw (ne_eqb from p ne) at some in
    let more = times_inside p (suc from) n (omega arith) in
    let low = more.0 in let high = more.1 in (omega arith, omega arith))

pub times_once : (p from n : ℕ) → times p (places from n) ≤ 1
times_once p from zero = omega arith
times_once p from (suc n) = dite (ℕ_discrete from p)
    (λ e. let none = times_outside p (suc from) n (omega arith) in rw (eq-eqb from p e) (omega arith))
    (λ ne. let more = times_once p (suc from) n in rw (ne_eqb from p ne) (omega arith))
