-- What a reading takes from the start of bytes, and what it gives where an encoding stands there.
use Rattle.std.proofs.Common.{◌≡◌, ℕ, Bool, true, false, cond, ◌==◌, List, [], ◌++◌, length, Result, Ok, Err, IfOk, ◌⊎◌, inl, inr, refl, sym, ap, subst, ◌∙◌, append_assoc}
use Rattle.std.proofs.lemmas.Bool.{eqb-true}
use Rattle.std.proofs.lemmas.List.{append-nil, nil_from_length}
use Rattle.gl_base.specs.Cut.{Unread}
use Rattle.gl_base.specs.Code.{unread_of, ended, whole}
use Rattle.gl_base.specs.declared.fault.CodeFault.{CodeFault}
use Rattle.gl_base.specs.declared.fault.CodeFault.TheVariants.{Trailing}
use Rattle.gl_base.specs.Answers.{Answers}
use Rattle.gl_base.specs.declared.or_no_memory.OrNoMemory.{OrNoMemory}
use Rattle.gl_base.proofs.Steps.{bind_ok, ok_injective}
use Rattle.gl_base.proofs.ByteLists.{AreBytes, AreBytes-suffix}
use Rattle.gl_base.proofs.RowLaws.{Took}

-- A value was read from the start of bytes that encode it, and is within its limits. What is left
-- are bytes.
pub record Encoded {X : Type 0} (bytes : X → List ℕ) (is : X → Bool) (old : Unread) (x : X) (new : Unread) : Type 0 where
  pub parts : old.bytes ≡ bytes x ++ new.bytes
  pub left : AreBytes new.bytes
  pub limits : is x ≡ true

-- What a reading reads is encoded so.
abbrev pub IsEncoded : {X : Type 0} → (Unread → Result (X × Unread) CodeFault) → (X → List ℕ) → (X → Bool) → Type 0
IsEncoded {X} reading bytes is = (old new : Unread) (x : X) → AreBytes old.bytes → reading old ≡ Ok (x, new) → Encoded bytes is old x new

-- A value is read, and what stands after it is left.
pub record Gets {X : Type 0} (reading : Result (X × Unread) CodeFault) (x : X) (rest : List ℕ) : Type 0 where
  pub place : ℕ
  pub read : reading ≡ Ok (x, record { at = place; bytes = rest })

-- What is encoded so is read, whatever stands after it.
abbrev pub IsRead : {X : Type 0} → (Unread → Result (X × Unread) CodeFault) → (X → List ℕ) → (X → Bool) → Type 0
IsRead {X} reading bytes is = (at : ℕ) (x : X) (rest : List ℕ) → is x ≡ true → Gets (reading (record { at = at; bytes = bytes x ++ rest })) x rest

-- Two parts that were taken, one after the other.
pub both_parts : (all x after_x y rest : List ℕ) → all ≡ x ++ after_x → after_x ≡ y ++ rest → all ≡ (x ++ y) ++ rest
both_parts all x after_x y rest first second = first ∙ ap (λ (ys : List ℕ). x ++ ys) second ∙ sym (append_assoc x y rest)

pub bytes_left : (all x rest : List ℕ) → AreBytes all → all ≡ x ++ rest → AreBytes rest
bytes_left all x rest bytes parts = AreBytes-suffix x rest (subst AreBytes parts bytes)

pub taken : {X : Type 0} → (bytes : X → List ℕ) (is : X → Bool) (old new : Unread) (x : X) → Took (bytes x) (is x) old new → Encoded bytes is old x new
taken bytes is old new x took = record { parts = took.bytes; left = took.rest; limits = took.valid }

-- what one of two choices gave
pub chosen : {A : Type 0} → (b : Bool) (x y z : A) → cond b x y ≡ z → ((b ≡ true) × (x ≡ z)) ⊎ ((b ≡ false) × (y ≡ z))
chosen true x y z e = inl (refl, e)
chosen false x y z e = inr (refl, e)

-- ---- a value that is all of the bytes

none_left : {X : Type 0} → (read : X × Unread) (x : X) → ended read ≡ Ok x → (read.1.bytes ≡ []) × (read.0 ≡ x)
none_left {X = X} read x e =
    elim (chosen {A = Result X CodeFault} (length read.1.bytes == 0) (Ok read.0) (Err (Trailing read.1.at)) (Ok x) e) [
      | inl all ↦ (nil_from_length read.1.bytes (eqb-true (length read.1.bytes) 0 all.0), ok_injective {A = X} {E = CodeFault} read.0 x all.1)
      | inr some ↦ cc
    ]

pub whole-encoded : {X : Type 0} → (reading : Unread → Result (X × Unread) CodeFault) (bytes : X → List ℕ) (is : X → Bool) → IsEncoded reading bytes is
    → (all : List ℕ) (x : X) → AreBytes all → whole reading all ≡ Ok x → (is x ≡ true) × (all ≡ bytes x)
whole-encoded {X = X} reading bytes is encoded all x are_bytes e =
    let read = bind_ok {A = X × Unread} {B = X} {E = CodeFault} (reading (unread_of all)) ended x e in
    let end = none_left read.0 x read.2 in
    let there = encoded (unread_of all) read.0.1 read.0.0 are_bytes read.1 in
    let parts : all ≡ bytes read.0.0 = there.parts ∙ ap (λ (rest : List ℕ). bytes read.0.0 ++ rest) end.0 ∙ append-nil (bytes read.0.0) in
    subst (λ (y : X). (is y ≡ true) × (all ≡ bytes y)) {x = read.0.0} end.1 (there.limits, parts)

pub whole-read : {X : Type 0} → (reading : Unread → Result (X × Unread) CodeFault) (bytes : X → List ℕ) (is : X → Bool) → IsRead reading bytes is
    → (x : X) → is x ≡ true → whole reading (bytes x) ≡ Ok x
whole-read reading bytes is read x limits =
    let there = read 0 x [] limits in
    ap (whole reading) (sym (append-nil (bytes x))) ∙ rw there.read refl

-- ---- what a call gives that decodes

pub decoded : {X : Type 0} → (r : Result X (OrNoMemory CodeFault)) (reading : Result X CodeFault) (P : X → Type 0) → Answers (λ x. x) r reading → ((x : X) → reading ≡ Ok x → P x) → IfOk r P
decoded (Ok x) reading P given each = each x given
decoded (Err e) reading P given each = tt
