-- Readings of values of several kinds, each after its tag: what they took from the start of bytes,
-- and what they give where an encoding lies.
use Rattle.std.proofs.Common.{◌≡◌, ◌⊎◌, inl, inr, ℕ, ◌+◌, ◌==◌, Bool, true, false, cond, ◌&&◌, List, [], ◌++◌, length, Result, Ok, Err, IfOk, refl, sym, ap, ◌∙◌, subst, append-nil, arith}
use Rattle.std.proofs.lemmas.Bool.{eqb-true}
use Rattle.gl_base.specs.Steps.{◌>>=◌}
use Rattle.gl_base.specs.Cut.{Unread}
use Rattle.gl_base.specs.Code.{unread_of, ended, whole}
use Rattle.gl_base.specs.Answers.{Answers}
use Rattle.gl_base.specs.declared.fault.CodeFault.{CodeFault}
use Rattle.gl_base.specs.declared.or_no_memory.OrNoMemory.{OrNoMemory}
use Rattle.gl_base.proofs.Steps.{bind_ok, ok_injective}
use Rattle.gl_base.proofs.ByteLists.{AreBytes}
use Rattle.gl_base.proofs.RowLaws.{Took}
use Rattle.gl_entry.proofs.Parts.{took_then, Lies}
use Rattle.gl_entry.proofs.ContentLaws.{ended_ok}

-- What a reading reads is encoded so, within its limits.
abbrev pub Takes : {X E : Type 0} → (X → List ℕ) → (X → Bool) → (Unread → Result (X × Unread) E) → Type 0
Takes {X} bytes is reading = (old : Unread) (read : X × Unread) → AreBytes old.bytes → reading old ≡ Ok read → Took (bytes read.0) (is read.0) old read.1

-- And it is of the kind of a tag.
abbrev pub TakesAt : {X E : Type 0} → (X → ℕ) → (X → List ℕ) → (X → Bool) → ℕ → (Unread → Result (X × Unread) E) → Type 0
TakesAt {X} tag_of bytes is tag reading = (old : Unread) (read : X × Unread) → AreBytes old.bytes → reading old ≡ Ok read → (tag_of read.0 ≡ tag) × Took (bytes read.0) (is read.0) old read.1

-- What is encoded so is read, whatever stands after it.
abbrev pub Finds : {X E : Type 0} → (X → List ℕ) → (X → Bool) → (Unread → Result (X × Unread) E) → Type 0
Finds {X} bytes is reading = (x : X) (old new : Unread) → is x ≡ true → Lies (bytes x) old new → reading old ≡ Ok (x, new)

retook : (xs ys : List ℕ) (p q : Bool) (old new : Unread) → ys ≡ xs → q ≡ p → Took xs p old new → Took ys q old new
retook xs ys p q old new e f took = record {
  bytes = took.bytes ∙ ap (λ (zs : List ℕ). zs ++ new.bytes) (sym e);
  place = took.place ∙ ap (λ (zs : List ℕ). old.at + length zs) (sym e);
  valid = f ∙ took.valid;
  rest = took.rest;
}

-- ---- a value of one field, of two, and of none

pub one_takes : {X Y E : Type 0} → (tag_of : X → ℕ) (bytes : X → List ℕ) (is : X → Bool) (tag : ℕ) (field_bytes : Y → List ℕ) (is_field : Y → Bool) (field_at : Unread → Result (Y × Unread) E) (make : Y → X)
    → Takes field_bytes is_field field_at → ((y : Y) → tag_of (make y) ≡ tag) → ((y : Y) → bytes (make y) ≡ field_bytes y) → ((y : Y) → is (make y) ≡ is_field y)
    → TakesAt tag_of bytes is tag (λ unread. field_at unread >>= λ y. Ok (make y.0, y.1))
one_takes {X} {Y} {E} tag_of bytes is tag field_bytes is_field field_at make takes tags encodes valid old read all e =
    let y = bind_ok {E = E} (field_at old) (λ y. Ok (make y.0, y.1)) read e in
    let gave : X × Unread = (make y.0.0, y.0.1) in
    let same : gave ≡ read = ok_injective {E = E} gave read y.2 in
    let took = retook (field_bytes y.0.0) (bytes (make y.0.0)) (is_field y.0.0) (is (make y.0.0)) old y.0.1 (encodes y.0.0) (valid y.0.0) (takes old y.0 all y.1) in
    subst (λ (r : X × Unread). (tag_of r.0 ≡ tag) × Took (bytes r.0) (is r.0) old r.1) same (tags y.0.0, took)

pub two_take : {X A B E : Type 0} → (tag_of : X → ℕ) (bytes : X → List ℕ) (is : X → Bool) (tag : ℕ)
    (first_bytes : A → List ℕ) (is_first : A → Bool) (first_at : Unread → Result (A × Unread) E) (second_bytes : B → List ℕ) (is_second : B → Bool) (second_at : Unread → Result (B × Unread) E) (make : A → B → X)
    → Takes first_bytes is_first first_at → Takes second_bytes is_second second_at
    → ((a : A) (b : B) → tag_of (make a b) ≡ tag) → ((a : A) (b : B) → bytes (make a b) ≡ first_bytes a ++ second_bytes b) → ((a : A) (b : B) → is (make a b) ≡ (is_first a && is_second b))
    → TakesAt tag_of bytes is tag (λ unread. first_at unread >>= λ a. second_at a.1 >>= λ b. Ok (make a.0 b.0, b.1))
two_take {X} {A} {B} {E} tag_of bytes is tag first_bytes is_first first_at second_bytes is_second second_at make first second tags encodes valid old read all e =
    let a = bind_ok {E = E} (first_at old) (λ (a : A × Unread). second_at a.1 >>= λ b. Ok (make a.0 b.0, b.1)) read e in
    let b = bind_ok {E = E} (second_at a.0.1) (λ b. Ok (make a.0.0 b.0, b.1)) read a.2 in
    let gave : X × Unread = (make a.0.0 b.0.0, b.0.1) in
    let same : gave ≡ read = ok_injective {E = E} gave read b.2 in
    let took_a = first old a.0 all a.1 in
    let took_b = second a.0.1 b.0 took_a.rest b.1 in
    let both = took_then (first_bytes a.0.0) (second_bytes b.0.0) (is_first a.0.0) (is_second b.0.0) old a.0.1 b.0.1 took_a took_b in
    let took = retook (first_bytes a.0.0 ++ second_bytes b.0.0) (bytes (make a.0.0 b.0.0)) (is_first a.0.0 && is_second b.0.0) (is (make a.0.0 b.0.0)) old b.0.1 (encodes a.0.0 b.0.0) (valid a.0.0 b.0.0) both in
    subst (λ (r : X × Unread). (tag_of r.0 ≡ tag) × Took (bytes r.0) (is r.0) old r.1) same (tags a.0.0 b.0.0, took)

pub none_takes : {X E : Type 0} → (tag_of : X → ℕ) (bytes : X → List ℕ) (is : X → Bool) (x : X) → bytes x ≡ [] → is x ≡ true → TakesAt {X = X} {E = E} tag_of bytes is (tag_of x) (λ unread. Ok (x, unread))
none_takes {X} {E} tag_of bytes is x encodes valid old read all e =
    let gave : X × Unread = (x, old) in
    let same : gave ≡ read = ok_injective {E = E} gave read e in
    let nothing : Took [] true old old = record { bytes = refl; place = omega arith; valid = refl; rest = all } in
    subst (λ (r : X × Unread). (tag_of r.0 ≡ tag_of x) × Took (bytes r.0) (is r.0) old r.1) same (refl, retook [] (bytes x) true (is x) old old encodes valid nothing)

-- ---- one tag or another

chosen : {A : Type 0} (b : Bool) (x y z : A) → cond b x y ≡ z → ((b ≡ true) × (x ≡ z)) ⊎ ((b ≡ false) × (y ≡ z))
chosen true x y z e = inl (refl, e)
chosen false x y z e = inr (refl, e)

pub or_tag : {X E : Type 0} → (tag_of : X → ℕ) (bytes : X → List ℕ) (is : X → Bool) (tag k : ℕ) (there others : Unread → Result (X × Unread) E)
    → TakesAt tag_of bytes is k there → ((tag == k) ≡ false → TakesAt tag_of bytes is tag others) → TakesAt tag_of bytes is tag (λ unread. cond (tag == k) (there unread) (others unread))
or_tag {X} {E} tag_of bytes is tag k there others is_there are_others old read all e =
    elim (chosen {A = Result (X × Unread) E} (tag == k) (there old) (others old) (Ok read) e) [
      | inl it ↦ let got = is_there old read all it.1 in (got.0 ∙ sym (eqb-true tag k it.0), got.1)
      | inr other ↦ are_others other.0 old read all other.1
    ]

-- ---- a value that is all of the bytes

pub whole_takes : {X : Type 0} → (bytes : X → List ℕ) (is : X → Bool) (reading : Unread → Result (X × Unread) CodeFault) → Takes bytes is reading
    → (all : List ℕ) (x : X) → AreBytes all → whole reading all ≡ Ok x → (is x ≡ true) × (all ≡ bytes x)
whole_takes {X} bytes is reading takes all x each e =
    let there = bind_ok {A = X × Unread} {E = CodeFault} (reading (unread_of all)) ended x e in
    let end = ended_ok there.0 x there.2 in
    let took = takes (unread_of all) there.0 each there.1 in
    let parts : all ≡ bytes there.0.0 = took.bytes ∙ ap (λ (xs : List ℕ). bytes there.0.0 ++ xs) end.1 ∙ append-nil (bytes there.0.0) in
    (ap is (sym end.0) ∙ took.valid, parts ∙ ap bytes end.0)

pub whole_finds : {X : Type 0} → (bytes : X → List ℕ) (is : X → Bool) (reading : Unread → Result (X × Unread) CodeFault) → Finds bytes is reading
    → (x : X) → is x ≡ true → whole reading (bytes x) ≡ Ok x
whole_finds bytes is reading finds x valid =
    let old : Unread = unread_of (bytes x) in
    let new : Unread = record { at = length (bytes x); bytes = [] } in
    let there : Lies (bytes x) old new = record { bytes = sym (append-nil (bytes x)); place = omega arith } in
    let read = finds x old new valid there in
    rw read refl

-- What a call gives that reads.
pub found : {X E : Type 0} → (r : Result X (OrNoMemory E)) (reading : Result X E) (P : X → Type 0) → Answers (λ x. x) r reading → ((x : X) → reading ≡ Ok x → P x) → IfOk r P
found (Ok x) reading P given each = each x given
found (Err e) reading P given each = tt
