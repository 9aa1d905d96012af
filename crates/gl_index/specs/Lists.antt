-- Lists by number: a number without one has an empty list.
use Rattle.std.specs.Prelude.{ℕ, ◌<◌, List, [], length, map, slice_index_or, vec_len, vec_capacity}
use Rattle.std.specs.declared.vec.Vec.{Vec}
use Rattle.std.specs.declared.alloc.Global.{Global}

-- What each list holds.
abbrev pub lists_of : {X : Type 0} → List (Vec X Global) → List (List X)
lists_of vs = map (λ v. v.items) vs

abbrev pub list_at : {X : Type 0} → List (List X) → ℕ → List X
list_at lists n = slice_index_or lists n []

-- There is a list of this number, with room for one more.
pub record HasRoomAt {X : Type 0} (vs : List (Vec X Global)) (n : ℕ) : Type 0 where
  pub there : n < length vs
  pub room : (d : Vec X Global) →
      vec_len (slice_index_or vs n d) < vec_capacity (slice_index_or vs n d)
