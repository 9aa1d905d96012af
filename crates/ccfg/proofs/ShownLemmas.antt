-- What is said of what a disk shows, whether it is honest or not, and of the bytes that a source
-- gives.
use Rattle.std.proofs.Common.{◌≡◌, ℕ, List, [], Bool, true, false, Option, None, Some, IfSome, Result, Ok, Err, IfOk, subst, ap}
use Rattle.gl_entry.specs.SourceBytes.{OfBytes}
use Rattle.ccfg.specs.ExpectedOutput.{ByDisk, BySource, Due, OfDue, OfShown, Output, Shown, shown_by}

-- what holds of the bytes that a source gives, from what else does
pub of_map : (given : Option (List ℕ)) (P Q : List ℕ → Type 0) → ((g : List ℕ) → P g → Q g) → OfBytes given P → OfBytes given Q
of_map None P Q f p = (p.0, f p.0 p.1)
of_map (Some g) P Q f p = f g p

-- what holds of any bytes
pub of_any : (given : Option (List ℕ)) (X : List ℕ → Type 0) → ((g : List ℕ) → X g) → OfBytes given X
of_any None X f = ([], f [])
of_any (Some g) X f = f g

-- bytes that were read whole
pub of_text : (given : Option (List ℕ)) (text : List ℕ) (P : List ℕ → Type 0) → IfSome given (λ g. text ≡ g) → P text → OfBytes given P
of_text None text P whole p = (text, p)
of_text (Some g) text P whole p = subst P whole p

-- and of what a disk shows
pub shown_map : (honest : Bool) (held : List ℕ) (P Q : Shown → Type 0) → ((h : Shown) → P h → Q h) → OfShown honest held P → OfShown honest held Q
shown_map true held P Q f p = f (shown_by held) p
shown_map false held P Q f p = (p.0, f p.0 p.1)

pub shown_any : (honest : Bool) (held : List ℕ) (P : Shown → Type 0) → ((h : Shown) → P h) → OfShown honest held P
shown_any true held P f = f (shown_by held)
shown_any false held P f = (shown_by [], f (shown_by []))

-- what holds whatever the disk shows
pub whatever_shown : (honest : Bool) (held : List ℕ) (X : Type 0) → X → OfShown honest held (λ h. X)
whatever_shown honest held X x = shown_any honest held (λ h. X) (λ h. x)

-- of what is due
pub due_map : (due : Due) (honest : Bool) (held : List ℕ) (given : Option (List ℕ)) (P Q : Output → Type 0) → ((o : Output) → P o → Q o) → OfDue due honest held given P → OfDue due honest held given Q
due_map (BySource output) honest held given P Q f p = of_map given (λ g. P (output g)) (λ g. Q (output g)) (λ g q. f (output g) q) p
due_map (ByDisk output) honest held given P Q f p =
    shown_map honest held (λ h. OfBytes given (λ g. P (output h g))) (λ h. OfBytes given (λ g. Q (output h g)))
    (λ h q. of_map given (λ g. P (output h g)) (λ g. Q (output h g)) (λ g r. f (output h g) r) q) p

pub due_any : (due : Due) (honest : Bool) (held : List ℕ) (given : Option (List ℕ)) (P : Output → Type 0) → ((o : Output) → P o) → OfDue due honest held given P
due_any (BySource output) honest held given P f = of_any given (λ g. P (output g)) (λ g. f (output g))
due_any (ByDisk output) honest held given P f = shown_any honest held (λ h. OfBytes given (λ g. P (output h g))) (λ h. of_any given (λ g. P (output h g)) (λ g. f (output h g)))

-- what follows of all of them
pub from_given : (given : Option (List ℕ)) (P : List ℕ → Type 0) (Q : Type 0) → ((g : List ℕ) → P g → Q) → OfBytes given P → Q
from_given None P Q f p = f p.0 p.1
from_given (Some g) P Q f p = f g p

-- what holds where a call succeeds, from what else does
pub ok_map : {T E : Type 0} (r : Result T E) (P Q : T → Type 0) → ((t : T) → P t → Q t) → IfOk r P → IfOk r Q
ok_map (Ok t) P Q f p = f t p
ok_map (Err e) P Q f p = tt

-- a value with another beside it
pub beside : {A B : Type 0} (x y : A) (b : B) → x ≡ y → ◌≡◌ {A = A × B} (x, b) (y, b)
beside {A = A} {B = B} x y b is = ap (λ (z : A). let p : A × B = (z, b) in p) is

-- what a plan that uses no disk is due
pub shown_ok : {T E : Type 0} (honest : Bool) (held : List ℕ) (r : Result T E) (P : T → Type 0) → IfOk r P → IfOk r (λ t. OfShown honest held (λ h. P t))
shown_ok honest held r P p = ok_map r P (λ t. OfShown honest held (λ h. P t)) (λ t q. whatever_shown honest held (P t) q) p

-- what holds at the value of a call that succeeded
pub at_ok : {T E : Type 0} (r : Result T E) (t : T) (P : T → Type 0) → r ≡ Ok t → IfOk r P → P t
at_ok r t P is p = let Q : Result _ _ → Type 0 = λ x. IfOk x P in subst Q is p
