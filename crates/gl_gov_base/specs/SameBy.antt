-- Two lists that have the same elements, maybe in another order, as far as tests count them and
-- keys find them.
use Rattle.std.specs.Prelude.{◌≡◌, List, Bool, ◌&&◌, find, count_by}
use Rattle.gl_vmaps.specs.LastWrite.{last_such}

pub record SameBy {K A : Type 0} (has : K → A → Bool) (xs ys : List A) : Type 0 where
  pub counted : (p : A → Bool) → count_by p xs ≡ count_by p ys
  pub first : (k : K) → find (has k) xs ≡ find (has k) ys
  pub last : (k : K) → last_such (has k) xs ≡ last_such (has k) ys
  pub first_with : (k : K) (p : A → Bool) →
      find (λ x. has k x && p x) xs ≡ find (λ x. has k x && p x) ys
  pub last_with : (k : K) (p : A → Bool) →
      last_such (λ x. has k x && p x) xs ≡ last_such (λ x. has k x && p x) ys
