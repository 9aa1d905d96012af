-- What a reading that succeeded went through.
use Rattle.std.proofs.Common.{◌≡◌, Bool, true, false, cond, Result, Ok, Err, refl, ap}
use Rattle.gl_base.specs.Steps.{◌>>=◌}

-- A test before a reading that succeeds was false.
pub cond_ok : {A E : Type 0} → (b : Bool) (e : E) (r : Result A E) (x : A) → cond b (Err e) r ≡ Ok x → (b ≡ false) × (r ≡ Ok x)
cond_ok true e r x h = cc
cond_ok false e r x h = (refl, h)

-- Both steps succeeded.
pub bind_ok : {A B E : Type 0} → (r : Result A E) (f : A → Result B E) (y : B) → (r >>= f) ≡ Ok y → (x : A) × (r ≡ Ok x) × (f x ≡ Ok y)
bind_ok (Ok x) f y h = (x, refl, h)
bind_ok (Err e) f y h = cc

pub ok_injective : {A E : Type 0} → (x y : A) → ◌≡◌ {A = Result A E} (Ok x) (Ok y) → x ≡ y
ok_injective x y h = cc

-- Two pairs that are given alike are one.
pub same_pair : {A B F : Type 0} (r : Result (A × B) F) (x y : A) (a b : B) → r ≡ Ok (x, a) → r ≡ Ok (y, b) → (y ≡ x) × (b ≡ a)
same_pair {A} {B} r x y a b d e =
    let p : A × B = (x, a) in
    let q : A × B = (y, b) in
    let one : q ≡ p = cc in
    (ap (λ (t : A × B). t.0) one, ap (λ (t : A × B). t.1) one)
