-- What a reading takes after bytes that were taken before, from part to part.
use Rattle.std.proofs.Common.{◌≡◌, ℕ, Bool, true, false, cond, ◌==◌, List, [], ◌∷◌, ◌++◌, Result, Ok, Err, refl, sym, ap, subst, ◌∙◌, append_assoc}
use Rattle.std.proofs.lemmas.Bool.{eqb-true}
use Rattle.gl_base.specs.Steps.{◌>>=◌}
use Rattle.gl_base.specs.Cut.{Unread}
use Rattle.gl_base.specs.declared.fault.CodeFault.{CodeFault}
use Rattle.gl_base.proofs.ByteLists.{AreBytes}
use Rattle.gl_base.proofs.Steps.{bind_ok, ok_injective}
use Rattle.gl_base.proofs.ParsedBytes.{IsEncoded}
use Rattle.gl_requests.specs.Parsing.{as_value}

-- With these bytes in front, what a reading reads is encoded by all of them. What is left are
-- bytes.
pub record After {Z : Type 0} (prefix : List ℕ) (bytes : Z → List ℕ) (is : Z → Bool) (old : Unread) (z : Z) (new : Unread) : Type 0 where
  pub parts : prefix ++ old.bytes ≡ bytes z ++ new.bytes
  pub left : AreBytes new.bytes
  pub limits : is z ≡ true

abbrev pub IsAfter : {Z : Type 0} → List ℕ → (Unread → Result (Z × Unread) CodeFault) → (Z → List ℕ) → (Z → Bool) → Type 0
IsAfter {Z} prefix reading bytes is = (old new : Unread) (z : Z) → AreBytes old.bytes → reading old ≡ Ok (z, new) → After prefix bytes is old z new

-- a part, and what goes on from it
pub field_after : {X Z : Type 0} → (prefix : List ℕ) (first : Unread → Result (X × Unread) CodeFault) (first_bytes : X → List ℕ) (is_first : X → Bool)
    → IsEncoded first first_bytes is_first
    → (next : X × Unread → Result (Z × Unread) CodeFault) (bytes : Z → List ℕ) (is : Z → Bool)
    → ((x : X) → is_first x ≡ true → IsAfter (prefix ++ first_bytes x) (λ unread. next (x, unread)) bytes is)
    → IsAfter prefix (λ unread. first unread >>= next) bytes is
field_after {X = X} {Z = Z} prefix first first_bytes is_first encoded next bytes is each old new z all e =
    let x = bind_ok {A = X × Unread} {B = Z × Unread} {E = CodeFault} (first old) next (z, new) e in
    let there = encoded old x.0.1 x.0.0 all x.1 in
    let rest = each x.0.0 there.limits x.0.1 new z there.left x.2 in
    let regrouped : prefix ++ old.bytes ≡ (prefix ++ first_bytes x.0.0) ++ x.0.1.bytes =
    ap (λ (ys : List ℕ). prefix ++ ys) there.parts ∙ sym (append_assoc prefix (first_bytes x.0.0) x.0.1.bytes) in
    record { parts = regrouped ∙ rest.parts; left = rest.left; limits = rest.limits }

-- a value that is made of what was read
pub made_after : {Z : Type 0} → (prefix : List ℕ) (z : Z) (bytes : Z → List ℕ) (is : Z → Bool) → prefix ≡ bytes z → is z ≡ true
    → IsAfter prefix (λ unread. Ok (z, unread)) bytes is
made_after {Z = Z} prefix z bytes is encoded limits old new read all e =
    let same : ◌≡◌ {A = Z × Unread} (z, old) (read, new) = ok_injective {A = Z × Unread} {E = CodeFault} (z, old) (read, new) e in
    subst (λ (y : Z × Unread). After prefix bytes is old y.0 y.1) {x = (z, old)} same
    (record { parts = ap (λ (ys : List ℕ). ys ++ old.bytes) encoded; left = all; limits = limits })

-- with nothing in front
pub from_after : {Z : Type 0} → (reading : Unread → Result (Z × Unread) CodeFault) (bytes : Z → List ℕ) (is : Z → Bool) → IsAfter [] reading bytes is → IsEncoded reading bytes is
from_after reading bytes is after old new z all e =
    let there = after old new z all e in
    record { parts = there.parts; left = there.left; limits = there.limits }

-- a part that ends the value
pub last_after : {X : Type 0} → (prefix : List ℕ) (reading : Unread → Result (X × Unread) CodeFault) (bytes : X → List ℕ) (is : X → Bool)
    → IsEncoded reading bytes is
    → (all_bytes : X → List ℕ) (is_all : X → Bool)
    → ((x : X) → is x ≡ true → (prefix ++ bytes x ≡ all_bytes x) × (is_all x ≡ true))
    → IsAfter prefix reading all_bytes is_all
last_after prefix reading bytes is encoded all_bytes is_all each old new x all e =
    let there = encoded old new x all e in
    let made = each x there.limits in
    record {
      parts =
          ap (λ (ys : List ℕ). prefix ++ ys) there.parts
          ∙ sym (append_assoc prefix (bytes x) new.bytes)
          ∙ ap (λ (ys : List ℕ). ys ++ new.bytes) made.0;
      left = there.left;
      limits = made.1;
    }

-- and is made into it
pub value_after : {X Z : Type 0} → (prefix : List ℕ) (reading : Unread → Result (X × Unread) CodeFault) (bytes : X → List ℕ) (is : X → Bool)
    → IsEncoded reading bytes is
    → (make : X → Z) (all_bytes : Z → List ℕ) (is_all : Z → Bool)
    → ((x : X) → is x ≡ true → (prefix ++ bytes x ≡ all_bytes (make x)) × (is_all (make x) ≡ true))
    → IsAfter prefix (λ unread. as_value make (reading unread)) all_bytes is_all
value_after {X = X} {Z = Z} prefix reading bytes is encoded make all_bytes is_all each =
    field_after prefix reading bytes is encoded (λ (x : X × Unread). Ok (make x.0, x.1)) all_bytes is_all
    (λ x limits. made_after (prefix ++ bytes x) (make x) all_bytes is_all (each x limits).0 (each x limits).1)

-- ---- choices

pub cond_after : {Z : Type 0} → (b : Bool) (prefix : List ℕ) (first second : Unread → Result (Z × Unread) CodeFault) (bytes : Z → List ℕ) (is : Z → Bool)
    → (b ≡ true → IsAfter prefix first bytes is) → (b ≡ false → IsAfter prefix second bytes is)
    → IsAfter prefix (λ unread. cond b (first unread) (second unread)) bytes is
cond_after true prefix first second bytes is one other = one refl
cond_after false prefix first second bytes is one other = other refl

-- a fault reads nothing
pub fault_after : {Z : Type 0} → (prefix : List ℕ) (fault : CodeFault) (bytes : Z → List ℕ) (is : Z → Bool) → IsAfter {Z = Z} prefix (λ unread. Err fault) bytes is
fault_after prefix fault bytes is old new z all e = absurd (cc)

-- one of the values of a number
pub tag_after : {Z : Type 0} → (n k : ℕ) (prefix : ℕ → List ℕ) (first second : Unread → Result (Z × Unread) CodeFault) (bytes : Z → List ℕ) (is : ℕ → Z → Bool)
    → IsAfter (prefix k) first bytes (is k) → ((n == k) ≡ false → IsAfter (prefix n) second bytes (is n))
    → IsAfter (prefix n) (λ unread. cond (n == k) (first unread) (second unread)) bytes (is n)
tag_after n k prefix first second bytes is one other =
    cond_after (n == k) (prefix n) first second bytes (is n)
    (λ same. subst (λ (m : ℕ). IsAfter (prefix m) first bytes (is m)) (sym (eqb-true n k same)) one) other

-- one of the kinds of a value, after the byte that is its number
pub kind_after : {X Z : Type 0} → (n k : ℕ) (reading : Unread → Result (X × Unread) CodeFault) (bytes : X → List ℕ) (is : X → Bool)
    → IsEncoded reading bytes is
    → (make : X → Z) (all_bytes : Z → List ℕ) (is_all : Z → Bool)
    → ((x : X) → is x ≡ true → (k ∷ bytes x ≡ all_bytes (make x)) × (is_all (make x) ≡ true))
    → (second : Unread → Result (Z × Unread) CodeFault) → ((n == k) ≡ false → IsAfter (n ∷ []) second all_bytes is_all)
    → IsAfter (n ∷ []) (λ unread. cond (n == k) (as_value make (reading unread)) (second unread)) all_bytes is_all
kind_after {X = X} {Z = Z} n k reading bytes is encoded make all_bytes is_all each second other =
    tag_after n k (λ (m : ℕ). m ∷ []) (λ unread. as_value make (reading unread)) second all_bytes (λ (m : ℕ). is_all)
    (value_after (k ∷ []) reading bytes is encoded make all_bytes is_all each) other
