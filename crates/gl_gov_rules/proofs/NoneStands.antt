-- Where no cause stands: each of the tests in a row was passed.
use Rattle.std.proofs.Common.{◌≡◌, ℕ, Option, None, Some, Bool, true, false, not, ◌||◌, refl}
use Rattle.gl_gov_rules.specs.declared.refusal.Cause.{Cause}
use Rattle.gl_gov_rules.specs.Actions.{◌orelse◌, where_is, at_index}

-- neither of two stands
pub none_of : {R : Type 0} (first after : Option R) → first orelse after ≡ None → (first ≡ None) × (after ≡ None)
none_of None after none = (refl, none)
none_of (Some r) after none = absurd cc

-- it is not bad
pub not_bad : {R : Type 0} (bad : Bool) (r : R) → where_is bad r ≡ None → bad ≡ false
not_bad true r none = absurd cc
not_bad false r none = refl

pub no_cause : (index : ℕ) (cause : Option Cause) → at_index index cause ≡ None → cause ≡ None
no_cause index None none = refl
no_cause index (Some cause) none = absurd cc

-- what is not denied
pub not_denied : (b : Bool) → not b ≡ false → b ≡ true
not_denied true e = refl
not_denied false e = absurd cc

pub neither : (a b : Bool) → a || b ≡ false → (a ≡ false) × (b ≡ false)
neither true b e = absurd cc
neither false b e = (refl, e)
