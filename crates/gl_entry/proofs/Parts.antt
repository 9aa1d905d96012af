-- Parts of bytes, one after the other: what a reading took of them, and what lies there to be read.
use Rattle.std.proofs.Common.{◌≡◌, ℕ, ◌+◌, ◌^◌, ◌<◌, ◌≤◌, nat_lt, ◌==◌, Bool, true, ◌&&◌, List, ◌++◌, length, take, Result, Ok, refl, sym, ap, ◌∙◌, subst, append_assoc, length-append, arith}
use Rattle.std.proofs.lemmas.Bool.{and_from}
use Rattle.std.proofs.lemmas.Bool.Decides.{nat_tests}
use Rattle.std.proofs.lemmas.List.{length-take-le}
use Rattle.gl_base.specs.Cut.{Unread, bytes_at, number_at, string_at}
use Rattle.gl_base.specs.Bytes.{are_bytes, are_sized}
use Rattle.gl_base.specs.Field.{with_u32_length}
use Rattle.gl_base.specs.LittleEndian.{little_endian}
use Rattle.gl_base.proofs.ByteLists.{AreBytes}
use Rattle.gl_base.proofs.Fields.{bytes_at-encoded, bytes_at-append, number_encoded, number_at-encoded}
use Rattle.gl_base.proofs.LittleEndianLaws.{length-little_endian, from_little_endian-lt}
use Rattle.gl_base.proofs.Numbers.{bytes_at_ok, bytes_at_length, number_at_ok}
use Rattle.gl_base.proofs.ByteLists.{are_bytes-true, AreBytes-prefix, AreBytes-suffix, AreBytes-take}
use Rattle.gl_base.proofs.RowLaws.{Took, string-took, string-reads}

-- ---- what was read

-- A reading that took one encoding and then another took both.
pub took_then : (a b : List ℕ) (p q : Bool) (old mid new : Unread) → Took a p old mid → Took b q mid new → Took (a ++ b) (p && q) old new
took_then a b p q old mid new first second = record {
  bytes = first.bytes ∙ ap (λ (xs : List ℕ). a ++ xs) second.bytes ∙ sym (append_assoc a b new.bytes);
  place = omega (arith, first.place, second.place, length-append a b);
  valid = and_from p q first.valid second.valid;
  rest = second.rest;
}

pub number-took : (size n : ℕ) (old new : Unread) → AreBytes old.bytes → number_at size old ≡ Ok (n, new) → Took (little_endian size n) (nat_lt n (256 ^ size)) old new
number-took size n old new all e =
    let number = number_at_ok size n old new e in
    let prefix : AreBytes (take size old.bytes) = AreBytes-take size old.bytes all in
    let long : length number.bytes ≡ size = ap length number.taken.prefix ∙ length-take-le size old.bytes number.taken.enough in
    let small = from_little_endian-lt number.bytes (subst AreBytes (sym number.taken.prefix) prefix) in
    let bound : 256 ^ length number.bytes ≡ 256 ^ size = ap (λ (k : ℕ). 256 ^ k) long in
    let below : n < 256 ^ size = omega (arith, number.value, small, bound) in
    let bytes = number_encoded size n old new prefix e in
    record {
      bytes = bytes;
      place = number.taken.place ∙ ap (λ (m : ℕ). old.at + m) (sym (length-little_endian size n));
      valid = grind (arith, nat_tests);
      rest = AreBytes-suffix (little_endian size n) new.bytes (subst AreBytes bytes all);
    }

pub bytes-took : (count : ℕ) (xs : List ℕ) (old new : Unread) → AreBytes old.bytes → bytes_at count old ≡ Ok (xs, new) → Took xs (are_sized count xs) old new
bytes-took count xs old new all e =
    let long = bytes_at_length count old new xs e in
    let bytes = bytes_at-encoded count old new xs e in
    let both : AreBytes (xs ++ new.bytes) = subst AreBytes bytes all in
    let sized : (length xs == count) ≡ true = grind (arith, nat_tests, long) in
    record {
      bytes = bytes;
      place = (bytes_at_ok count old new xs e).place ∙ ap (λ (m : ℕ). old.at + m) (sym long);
      valid = and_from (length xs == count) (are_bytes xs) sized (are_bytes-true xs (AreBytes-prefix xs new.bytes both));
      rest = AreBytes-suffix xs new.bytes both;
    }

-- Bytes after their length, which is within a limit.
pub record TookSized (limit : ℕ) (xs : List ℕ) (old new : Unread) : Type 0 where
  pub took : Took (with_u32_length xs) (are_bytes xs) old new
  pub within : length xs ≤ limit
  pub each : AreBytes xs

pub sized-took : (limit : ℕ) (xs : List ℕ) (old new : Unread) → AreBytes old.bytes → string_at 4 limit old ≡ Ok (xs, new) → TookSized limit xs old new
sized-took limit xs old new all e =
    let string = string-took 4 limit old new xs all e in
    record {
      took = record { bytes = string.bytes; place = string.place; valid = are_bytes-true xs string.each; rest = string.rest };
      within = string.within;
      each = string.each;
    }

-- ---- what is to be read

-- An encoding lies at the start of the bytes that are to be read, and others after it.
pub record Lies (encoding : List ℕ) (old new : Unread) : Type 0 where
  pub bytes : old.bytes ≡ encoding ++ new.bytes
  pub place : new.at ≡ old.at + length encoding

-- Two encodings lie one after the other.
pub record LieBoth (a b : List ℕ) (old new : Unread) : Type 0 where
  pub mid : Unread
  pub first : Lies a old mid
  pub second : Lies b mid new

pub lie_both : (a b : List ℕ) (old new : Unread) → Lies (a ++ b) old new → LieBoth a b old new
lie_both a b old new there = record {
  mid = record { at = old.at + length a; bytes = b ++ new.bytes };
  first = record { bytes = there.bytes ∙ append_assoc a b new.bytes; place = refl };
  second = record { bytes = refl; place = omega (arith, there.place, length-append a b) };
}

-- What reads at the start of its encoding reads where that lies.
pub reads_there : {X E : Type 0} → (reading : Unread → Result (X × Unread) E) (x : X) (encoding : List ℕ) (old new : Unread) → Lies encoding old new →
    reading (record { at = old.at; bytes = encoding ++ new.bytes }) ≡ Ok (x, record { at = old.at + length encoding; bytes = new.bytes }) → reading old ≡ Ok (x, new)
reads_there {X} {E} reading x encoding old new there e =
    ap (λ (bytes : List ℕ). reading (record { at = old.at; bytes = bytes })) there.bytes
    ∙ e ∙ ap (λ (at : ℕ). Ok (x, record { at = at; bytes = new.bytes })) (sym there.place)

pub number-reads : (size n : ℕ) (old new : Unread) → Lies (little_endian size n) old new → n < 256 ^ size → number_at size old ≡ Ok (n, new)
number-reads size n old new there small =
    reads_there (number_at size) n (little_endian size n) old new there
    (number_at-encoded size old.at n new.bytes small ∙ ap (λ (m : ℕ). Ok (n, record { at = old.at + m; bytes = new.bytes })) (sym (length-little_endian size n)))

pub bytes-reads : (count : ℕ) (xs : List ℕ) (old new : Unread) → Lies xs old new → length xs ≡ count → bytes_at count old ≡ Ok (xs, new)
bytes-reads count xs old new there long =
    subst (λ (k : ℕ). bytes_at k old ≡ Ok (xs, new)) long (reads_there (bytes_at (length xs)) xs xs old new there (bytes_at-append old.at xs new.bytes))

pub sized-reads : (limit : ℕ) (xs : List ℕ) (old new : Unread) → Lies (with_u32_length xs) old new → length xs ≤ limit → length xs < 256 ^ 4 → string_at 4 limit old ≡ Ok (xs, new)
sized-reads limit xs old new there within small =
    reads_there (string_at 4 limit) xs (with_u32_length xs) old new there (string-reads 4 limit old.at xs new.bytes within small)
