-- Bytes and values that the tests find the same are one.
use Rattle.std.proofs.Common.{◌≡◌, ℕ, List, Option, Some, None, true, refl, ap}
use Rattle.std.specs.Cmp.Lexicographic.{bytes_decides}
use Rattle.gl_vmaps.specs.Tables.{same_bytes, same_value}

pub same_bytes_is : (xs ys : List ℕ) → same_bytes xs ys ≡ true → xs ≡ ys
same_bytes_is xs ys h = (bytes_decides xs ys).0 h

pub same_bytes_self : (xs : List ℕ) → same_bytes xs xs ≡ true
same_bytes_self xs = (bytes_decides xs xs).1 refl

pub same_value_is : (a b : Option (List ℕ)) → same_value a b ≡ true → a ≡ b
same_value_is None None h = refl
same_value_is None (Some y) h = absurd (cc)
same_value_is (Some x) None h = absurd (cc)
same_value_is (Some x) (Some y) h = ap Some (same_bytes_is x y h)

pub same_value_self : (a : Option (List ℕ)) → same_value a a ≡ true
same_value_self None = refl
same_value_self (Some x) = same_bytes_self x
