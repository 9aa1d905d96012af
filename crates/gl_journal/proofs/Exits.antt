-- What calls answer, and what that tells.
use Rattle.std.proofs.Common.{◌≡◌, Result, Ok, Err, IsOk, IfOk, OnOk, IsErrAnd, refl, sym, ◌∙◌}

-- the fault that was handed on
pub same_fault : {T E : Type 0} (result : Result T E) (met fault : E) → IsErrAnd result (λ e. e ≡ met) → result ≡ Err fault → met ≡ fault
same_fault (Ok x) met fault same is = cc
same_fault (Err e) met fault same is = let here : e ≡ fault = cc in sym same ∙ here

-- what each value of a call tells
pub ok_gives : {T E : Type 0} (result : Result T E) (P : T → Type 0) (Q : Type 0) → ((x : T) → P x → Q) → IfOk result P → OnOk result Q
ok_gives (Ok x) P Q then is = then x is
ok_gives (Err e) P Q then is = tt

pub is_ok : {T E : Type 0} (result : Result T E) (x : T) → result ≡ Ok x → IsOk result
is_ok (Ok y) x is = refl
is_ok (Err e) x is = cc
