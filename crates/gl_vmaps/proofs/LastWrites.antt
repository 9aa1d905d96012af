-- The last of a list that is such, by the parts of the list.
use Rattle.std.proofs.Common.{◌≡◌, List, [], ◌∷◌, Some, None, Bool, ◌∙◌, ap, cond, find, reverse}
use Rattle.std.specs.Option.{option_or}
use Rattle.std.proofs.lemmas.Grind.{reverse_onto}
use Rattle.std.proofs.lemmas.List.Folds.{find-append}
use Rattle.gl_vmaps.specs.LastWrite.{last_such}

-- that of a longer list is that of the rest, or the first
pub last_such-cons : {A : Type 0} (is_such : A → Bool) (x : A) (xs : List A) →
    last_such is_such (x ∷ xs) ≡ option_or (last_such is_such xs) (cond (is_such x) (Some x) None)
last_such-cons is_such x xs = ap (find is_such) (reverse_onto xs x []) ∙ find-append is_such (reverse xs) (x ∷ [])
