-- Numbers and strings read as fields.
use Rattle.std.proofs.Common.{◌≡◌, ℕ, ◌+◌, ◌≤◌, nat_lt, cond, length-drop, ◌-◌, List, length, take, drop, Ok, Err, refl, sym, ap, ◌∙◌, arith}
use Rattle.std.proofs.lemmas.Bool.Decides.{nat_tests}
use Rattle.std.proofs.lemmas.List.{length-take-le}
use Rattle.gl_base.specs.LittleEndian.{from_little_endian}
use Rattle.gl_base.specs.declared.fault.CutFault.{CutFault}
use Rattle.gl_base.specs.declared.fault.CutFault.TheVariants.{Short, TooLong}
use Rattle.gl_base.specs.Cut.{Unread, end_of, bytes_at, number_at, string_at}
use Rattle.gl_base.proofs.Steps.{cond_ok, bind_ok, ok_injective}

-- The bytes that are read are the front of those that are there, and the others are left.
pub record Taken (count : ℕ) (unread new : Unread) (xs : List ℕ) : Type 0 where
  pub enough : count ≤ length unread.bytes
  pub prefix : xs ≡ take count unread.bytes
  pub place : new.at ≡ unread.at + count
  pub back : new.bytes ≡ drop count unread.bytes

pub bytes_at_ok : (count : ℕ) (unread new : Unread) (xs : List ℕ) → bytes_at count unread ≡ Ok (xs, new) → Taken count unread new xs
unfolding bytes_at
bytes_at_ok count unread new xs e =
    let next : Unread = record { at = unread.at + count; bytes = drop count unread.bytes } in
    let there : List ℕ × Unread = (take count unread.bytes, next) in
    let taken = cond_ok {A = List ℕ × Unread} {E = CutFault} (nat_lt (length unread.bytes) count) (Short (end_of unread)) (Ok there) (xs, new) e in
    let pair : there ≡ (xs, new) = ok_injective {E = CutFault} there (xs, new) taken.1 in
    record {
      enough = grind (arith, nat_tests, taken.0);
      prefix = sym (ap (λ (p : List ℕ × Unread). p.0) pair);
      place = sym (ap (λ (p : List ℕ × Unread). p.1.at) pair);
      back = sym (ap (λ (p : List ℕ × Unread). p.1.bytes) pair);
    }

pub bytes_at_length : (count : ℕ) (unread new : Unread) (xs : List ℕ) → bytes_at count unread ≡ Ok (xs, new) → length xs ≡ count
bytes_at_length count unread new xs e =
    let taken = bytes_at_ok count unread new xs e in
    ap length taken.prefix ∙ length-take-le count unread.bytes taken.enough

pub number_from : (size n : ℕ) (unread new : Unread) (xs : List ℕ) → bytes_at size unread ≡ Ok (xs, new) → n ≡ from_little_endian xs → number_at size unread ≡ Ok (n, new)
unfolding number_at
number_from size n unread new xs e f = rw (e, f) refl

pub number_fault : (size : ℕ) (unread : Unread) (fault : CutFault) → bytes_at size unread ≡ Err fault → number_at size unread ≡ Err fault
unfolding number_at
number_fault size unread fault e = rw e refl

-- A number is what its bytes encode.
pub record NumberTaken (size n : ℕ) (unread new : Unread) : Type 0 where
  pub bytes : List ℕ
  pub taken : Taken size unread new bytes
  pub value : n ≡ from_little_endian bytes

pub number_at_ok : (size n : ℕ) (unread new : Unread) → number_at size unread ≡ Ok (n, new) → NumberTaken size n unread new
unfolding number_at
number_at_ok size n unread new e =
    let there = bind_ok {A = List ℕ × Unread} {B = ℕ × Unread} {E = CutFault} (bytes_at size unread) (λ (field : List ℕ × Unread). Ok (from_little_endian field.0, field.1)) (n, new) e in
    let pair : ◌≡◌ {A = ℕ × Unread} (from_little_endian there.0.0, there.0.1) (n, new) = ok_injective {A = ℕ × Unread} {E = CutFault} (from_little_endian there.0.0, there.0.1) (n, new) there.2 in
    let left : there.0.1 ≡ new = ap (λ (p : ℕ × Unread). p.1) pair in
    let field : Unread → List ℕ × Unread = λ u. (there.0.0, u) in
    let read : bytes_at size unread ≡ Ok (field new) = there.1 ∙ ap (λ (u : Unread). Ok (field u)) left in
    record {
      bytes = there.0.0;
      taken = bytes_at_ok size unread new there.0.0 read;
      value = sym (ap (λ (p : ℕ × Unread). p.0) pair);
    }

-- A string stands after its length, which is within the limit.
pub record StringTaken (size limit : ℕ) (unread new : Unread) (xs : List ℕ) : Type 0 where
  pub count : ℕ
  pub suffix : Unread
  pub len : number_at size unread ≡ Ok (count, suffix)
  pub within : count ≤ limit
  pub bytes : bytes_at count suffix ≡ Ok (xs, new)

pub string_at_ok : (size limit : ℕ) (unread new : Unread) (xs : List ℕ) → string_at size limit unread ≡ Ok (xs, new) → StringTaken size limit unread new xs
unfolding string_at
string_at_ok size limit unread new xs e =
    let there = bind_ok {A = ℕ × Unread} {B = List ℕ × Unread} {E = CutFault} (number_at size unread)
    (λ (len : ℕ × Unread). cond (nat_lt limit len.0) (Err (TooLong unread.at len.0)) (bytes_at len.0 len.1)) (xs, new) e in
    let taken = cond_ok {A = List ℕ × Unread} {E = CutFault} (nat_lt limit there.0.0) (TooLong unread.at there.0.0) (bytes_at there.0.0 there.0.1) (xs, new) there.2 in
    record {
      count = there.0.0;
      suffix = there.0.1;
      len = there.1;
      within = grind (arith, nat_tests, taken.0);
      bytes = taken.1;
    }

-- It fits into the bytes that are there.
pub string_at_fits : (size limit : ℕ) (unread new : Unread) (xs : List ℕ) → string_at size limit unread ≡ Ok (xs, new) → size + length xs ≤ length unread.bytes
string_at_fits size limit unread new xs e =
    let string = string_at_ok size limit unread new xs e in
    let len = number_at_ok size string.count unread string.suffix string.len in
    let bytes = bytes_at_ok string.count string.suffix new xs string.bytes in
    let same = bytes_at_length string.count string.suffix new xs string.bytes in
    let left : length string.suffix.bytes ≡ length unread.bytes - size = ap length len.taken.back ∙ length-drop size unread.bytes in
    omega (arith, bytes.enough, len.taken.enough, same, left)
