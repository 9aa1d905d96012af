-- Tests of objects.
use Rattle.std.proofs.Common.{◌≡◌, ℕ, suc, Bool, cond, ◌&&◌, List, [], ◌∷◌, length, map, Result, Ok, Err, String, Global, Bor, refl, ap}
use Rattle.std.specs.List.{list_all}
use Rattle.std.specs.Option.{is_some}
use Rattle.std.proofs.lemmas.List.{length-map}
use Rattle.std.proofs.lemmas.List.Folds.{list_all-map}
use Rattle.serde_json.specs.Data.{Data}
use Rattle.serde_json.specs.Events.{members_len}
use Rattle.serde_json.specs.Find.{get, as_object}
use Rattle.serde_json.specs.View.{members_view}
use Rattle.serde_json.specs.declared.value.Value.{Value}
use Rattle.gl_json.specs.Form.{has_count, only_members_in}
use Rattle.gl_json.specs.declared.form_error.FormError.{FormError}
use Rattle.gl_json.specs.declared.form_error.FormError.TheVariants.{Shape}

pub members_len-view : (es : List (String Global × Value)) → members_len (members_view es) ≡ length es
members_len-view [] = refl
members_len-view (e ∷ es) = ap suc (members_len-view es)

-- the test of an object's members, by its parts
pub only_members_in-parts : (names : List (Bor (List ℕ))) (value : Data) (count each : Bool)
    → count ≡ has_count (length names) (as_object value) → each ≡ list_all (λ name. is_some (get name.now value)) names
    → only_members_in (map (λ s. s.now) names) value ≡ cond {A = Result (Unit {0}) FormError} (count && each) (Ok tt) (Err Shape)
only_members_in-parts names value count each e f =
    let size = length-map names (λ (s : Bor (List ℕ)). s.now) in
    let all = list_all-map (λ (name : List ℕ). is_some (get name value)) (λ (s : Bor (List ℕ)). s.now) names in
    rw (size, all, ← e, ← f) refl
