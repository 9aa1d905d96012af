-- Tests of lists.
use Rattle.std.proofs.Common.{◌≡◌, ℕ, suc, Bool, ◌&&◌, List, [], ◌∷◌, length, nat_le, refl, ap}
use Rattle.serde_json.specs.Events.{items_len}
use Rattle.serde_json.specs.View.{items_view}
use Rattle.serde_json.specs.declared.value.Value.{Value}
use Rattle.gl_forms.specs.Form.{has_so_many}

pub items_len-view : (vs : List Value) → items_len (items_view vs) ≡ length vs
items_len-view [] = refl
items_len-view (v ∷ vs) = ap suc (items_len-view vs)

-- the test of a list's length, by its first part
pub has_so_many-view : (low high : ℕ) (vs : List Value) (least : Bool) → nat_le low (length vs) ≡ least
    → has_so_many low high (items_view vs) ≡ (least && nat_le (length vs) high)
has_so_many-view low high vs least e = rw (items_len-view vs, e) refl
