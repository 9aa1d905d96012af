-- The fields of a request: what is read is encoded so, and what is encoded so is read.
use Rattle.std.proofs.Common.{◌≡◌, ℕ, ◌+◌, ◌^◌, ◌<◌, ◌≤◌, ◌%◌, Bool, true, false, ◌&&◌, ◌==◌, nat_le, nat_lt, List, [], ◌∷◌, ◌++◌, length, Result, Ok, Err, refl, sym, ap, subst, ◌∙◌, append_assoc, arith}
use Rattle.std.specs.List.{list_all, flat_map}
use Rattle.std.proofs.lemmas.Bool.{and_parts, and_from, eqb-true}
use Rattle.std.proofs.lemmas.Bool.Decides.{nat_tests}
use Rattle.gl_base.specs.LittleEndian.{little_endian}
use Rattle.gl_base.specs.Bytes.{is_byte, are_bytes, mebibyte, are_sized, is_digest}
use Rattle.gl_base.specs.Field.{with_u32_length}
use Rattle.gl_base.specs.Steps.{◌>>=◌}
use Rattle.gl_base.specs.Cut.{Unread, bytes_at, number_at, string_at}
use Rattle.gl_base.specs.Code.{field, flag_byte, flag_in, flag_at}
use Rattle.gl_base.specs.declared.fault.CodeFault.{CodeFault}
use Rattle.gl_base.specs.declared.fault.CodeFault.TheVariants as faults
use Rattle.gl_base.proofs.ByteLists.{AreBytes, are_bytes-true, AreBytes-prefix}
use Rattle.gl_base.proofs.Fields.{bytes_at-append, bytes_at-encoded, number_at-encoded, tag_read}
use Rattle.gl_base.proofs.Numbers.{bytes_at_length}
use Rattle.gl_base.proofs.RowLaws.{field_ok, flag-took, string-took, string-reads}
use Rattle.gl_base.proofs.Steps.{bind_ok}
use Rattle.gl_base.proofs.ParsedBytes.{IsEncoded, IsRead, bytes_left}
use Rattle.gl_base.proofs.Repeated.{many-encoded, many-read}
use Rattle.gl_requests.specs.Encoding.{counted_bytes}
use Rattle.gl_requests.specs.Ranges.{is_signature_field, are_counted, is_member_number}
use Rattle.gl_requests.specs.Parsing.{repeated_at, counted_at, signature_at, digest_at, member_number_in, member_number_at}
use Rattle.gl_requests.proofs.Sizes.{sized_length}
use Rattle.gl_requests.proofs.Repeats.{repeats}
use Rattle.gl_requests.proofs.Remainders.{IsAfter, field_after, made_after, from_after, last_after, cond_after, fault_after, tag_after}

-- ---- one byte

abbrev pub byte_at : Unread → Result (ℕ × Unread) CodeFault
byte_at unread = field (number_at 1 unread)

abbrev pub one_byte : ℕ → List ℕ
one_byte n = n ∷ []

pub byte-encoded : IsEncoded byte_at one_byte is_byte
byte-encoded old new n all e =
    let took = flag-took n old new all (field_ok (number_at 1 old) (n, new) e) in
    let each = AreBytes-prefix (n ∷ []) new.bytes (subst AreBytes took.bytes all) in
    let small : n < 256 = each 0 in
    record { parts = took.bytes; left = took.rest; limits = grind (arith, nat_tests) }

pub byte-read : IsRead byte_at one_byte is_byte
byte-read at n rest is = record { place = at + 1; read = ap field (tag_read at n rest) }

-- a byte, and what goes on from it and from its place
pub tagged-encoded : {Z : Type 0} → (next : ℕ → ℕ × Unread → Result (Z × Unread) CodeFault) (bytes : Z → List ℕ) (is : Z → Bool)
    → ((place n : ℕ) → is_byte n ≡ true → IsAfter (one_byte n) (λ unread. next place (n, unread)) bytes is)
    → IsEncoded (λ unread. byte_at unread >>= next unread.at) bytes is
tagged-encoded {Z = Z} next bytes is each old new z all e =
    let n = bind_ok {A = ℕ × Unread} {B = Z × Unread} {E = CodeFault} (byte_at old) (next old.at) (z, new) e in
    let first = byte-encoded old n.0.1 n.0.0 all n.1 in
    let after = each old.at n.0.0 first.limits n.0.1 new z first.left n.2 in
    record { parts = first.parts ∙ after.parts; left = after.left; limits = after.limits }

-- ---- so many bytes

abbrev pub sized_at : ℕ → Unread → Result (List ℕ × Unread) CodeFault
sized_at size unread = field (bytes_at size unread)

abbrev pub themselves : List ℕ → List ℕ
themselves xs = xs

are_sized-true : (size : ℕ) (xs : List ℕ) → length xs ≡ size → are_bytes xs ≡ true → are_sized size xs ≡ true
are_sized-true size xs long all = rw (long, all) (grind (arith, nat_tests))

pub sized-encoded : (size : ℕ) → IsEncoded (sized_at size) themselves (are_sized size)
sized-encoded size old new xs all e =
    let read = field_ok (bytes_at size old) (xs, new) e in
    let parts = bytes_at-encoded size old new xs read in
    let each = AreBytes-prefix xs new.bytes (subst AreBytes parts all) in
    record {
      parts = parts;
      left = bytes_left old.bytes xs new.bytes all parts;
      limits = are_sized-true size xs (bytes_at_length size old new xs read) (are_bytes-true xs each);
    }

pub sized-read : (size : ℕ) → IsRead (sized_at size) themselves (are_sized size)
sized-read size at xs rest is =
    let long = sized_length size xs is in
    record {
      place = at + length xs;
      read = subst (λ (n : ℕ). sized_at n (record { at = at; bytes = xs ++ rest }) ≡ Ok (xs, record { at = at + length xs; bytes = rest })) long (ap field (bytes_at-append at xs rest));
    }

pub digest-encoded : IsEncoded digest_at themselves is_digest
unfolding digest_at
digest-encoded = sized-encoded 32

pub digest-read : IsRead digest_at themselves is_digest
unfolding digest_at
digest-read = sized-read 32

-- ---- an endorsement or a signature

pub signature-encoded : IsEncoded signature_at with_u32_length is_signature_field
unfolding signature_at
signature-encoded old new xs all e =
    let took = string-took 4 mebibyte old new xs all (field_ok (string_at 4 mebibyte old) (xs, new) e) in
    let within = took.within in
    let few : nat_le (length xs) mebibyte ≡ true = grind (arith, nat_tests) in
    record { parts = took.bytes; left = took.rest; limits = and_from (are_bytes xs) (nat_le (length xs) mebibyte) (are_bytes-true xs took.each) few }

pub signature-read : IsRead signature_at with_u32_length is_signature_field
unfolding signature_at
signature-read at xs rest is =
    let both = and_parts (are_bytes xs) (nat_le (length xs) mebibyte) is in
    let within : length xs ≤ mebibyte = grind (arith, nat_tests, both.1) in
    record { place = at + length (with_u32_length xs); read = ap field (string-reads 4 mebibyte at xs rest within (omega (arith, within))) }

-- ---- the number of a member

pub member_number-encoded : IsEncoded member_number_at one_byte is_member_number
unfolding member_number_at
member_number-encoded = tagged-encoded member_number_in one_byte is_member_number
    (λ place n byte. cond_after (n == 0) (one_byte n) (λ unread. Err (faults.Value place)) (λ unread. Ok (n, unread)) one_byte is_member_number
    (λ none. fault_after (one_byte n) (faults.Value place) one_byte is_member_number)
    (λ some. made_after (one_byte n) n one_byte is_member_number refl
    (let least : nat_le 1 n ≡ true = grind (arith, nat_tests, some) in and_from (nat_le 1 n) (is_byte n) least byte)))

pub member_number-read : IsRead member_number_at one_byte is_member_number
unfolding member_number_at
member_number-read at n rest is =
    let both = and_parts (nat_le 1 n) (is_byte n) is in
    let nonzero : (n == 0) ≡ false = grind (arith, nat_tests, both.0) in
    record { place = at + 1; read = rw (tag_read at n rest, nonzero) refl }

-- ---- yes or no

abbrev pub flag_bytes : Bool → List ℕ
flag_bytes flag = flag_byte flag ∷ []

abbrev pub any_flag : Bool → Bool
any_flag flag = true

pub flag-encoded : IsEncoded flag_at flag_bytes any_flag
unfolding flag_at
flag-encoded = tagged-encoded flag_in flag_bytes any_flag
    (λ place n byte. tag_after n 0 one_byte (λ unread. Ok (false, unread)) _ flag_bytes (λ k. any_flag)
    (made_after (one_byte 0) false flag_bytes any_flag refl refl)
    (λ some. tag_after n 1 one_byte (λ unread. Ok (true, unread)) _ flag_bytes (λ k. any_flag)
    (made_after (one_byte 1) true flag_bytes any_flag refl refl)
    (λ other. fault_after (one_byte n) (faults.Value place) flag_bytes any_flag)))

pub flag-read : IsRead flag_at flag_bytes any_flag
unfolding flag_at
flag-read at false rest is = record { place = at + 1; read = rw (tag_read at 0 rest) refl }
flag-read at true rest is = record { place = at + 1; read = rw (tag_read at 1 rest) refl }

-- ---- so many parts

abbrev pub are_many : {X : Type 0} → (X → Bool) → ℕ → List X → Bool
are_many is n xs = (length xs == n) && list_all is xs

pub repeated-encoded : {X : Type 0} → (one : Unread → Result (X × Unread) CodeFault) (bytes : X → List ℕ) (is : X → Bool)
    → IsEncoded one bytes is → (n : ℕ) → IsEncoded (repeated_at one n) (flat_map bytes) (are_many is n)
repeated-encoded one bytes is encoded n old new xs all e =
    let there = many-encoded (repeats one) bytes is encoded n old new xs all e in
    let long = there.1 in
    let count : (length xs == n) ≡ true = rw long (grind (arith, nat_tests)) in
    record { parts = there.0.parts; left = there.0.left; limits = and_from (length xs == n) (list_all is xs) count there.0.limits }

-- ---- as many as a byte counts

pub count_byte : (n : ℕ) → is_byte n ≡ true → little_endian 1 n ≡ n ∷ []
unfolding little_endian
count_byte n byte =
    let small : n < 256 = grind (arith, nat_tests, byte) in
    let same : n % 256 ≡ n = omega arith in
    ap (λ (m : ℕ). m ∷ []) same

-- so many parts after the byte of their number are counted parts
pub counted-made : {X : Type 0} → (bytes : X → List ℕ) (n : ℕ) (xs : List X) → is_byte n ≡ true → length xs ≡ n → n ∷ flat_map bytes xs ≡ counted_bytes bytes xs
counted-made bytes n xs byte long =
    ap (λ (ys : List ℕ). ys ++ flat_map bytes xs) (sym (count_byte n byte) ∙ ap (little_endian 1) (sym long))

counted-all : {X : Type 0} → (bytes : X → List ℕ) (is : X → Bool) (n : ℕ) (xs : List X) → is_byte n ≡ true → are_many is n xs ≡ true
    → (n ∷ flat_map bytes xs ≡ counted_bytes bytes xs) × (are_counted is xs ≡ true)
counted-all bytes is n xs byte many =
    let both = and_parts (length xs == n) (list_all is xs) many in
    let long = eqb-true (length xs) n both.0 in
    let few : nat_lt (length xs) 256 ≡ true = subst (λ (k : ℕ). is_byte k ≡ true) (sym long) byte in
    (counted-made bytes n xs byte long, and_from (nat_lt (length xs) 256) (list_all is xs) few both.1)

pub counted-encoded : {X : Type 0} → (one : Unread → Result (X × Unread) CodeFault) (bytes : X → List ℕ) (is : X → Bool)
    → IsEncoded one bytes is → IsEncoded (counted_at one) (counted_bytes bytes) (are_counted is)
unfolding counted_at
counted-encoded {X = X} one bytes is encoded = from_after (counted_at one) (counted_bytes bytes) (are_counted is)
    (field_after [] byte_at one_byte is_byte byte-encoded (λ (count : ℕ × Unread). repeated_at one count.0 count.1) (counted_bytes bytes) (are_counted is)
    (λ n byte. last_after (one_byte n) (repeated_at one n) (flat_map bytes) (are_many is n) (repeated-encoded one bytes is encoded n) (counted_bytes bytes) (are_counted is)
    (λ xs many. counted-all bytes is n xs byte many)))

-- the count of a list, and the parts after it
pub counted-gets : {X : Type 0} → (bytes : X → List ℕ) (at : ℕ) (xs : List X) (rest : List ℕ) → is_byte (length xs) ≡ true
    → byte_at (record { at = at; bytes = counted_bytes bytes xs ++ rest }) ≡ Ok (length xs, record { at = at + 1; bytes = flat_map bytes xs ++ rest })
counted-gets bytes at xs rest few =
    let small : length xs < 256 ^ 1 = grind (arith, nat_tests, few) in
    ap (λ (ys : List ℕ). byte_at (record { at = at; bytes = ys })) (append_assoc (little_endian 1 (length xs)) (flat_map bytes xs) rest)
    ∙ ap field (number_at-encoded 1 at (length xs) (flat_map bytes xs ++ rest) small)

pub counted-read : {X : Type 0} → (one : Unread → Result (X × Unread) CodeFault) (bytes : X → List ℕ) (is : X → Bool)
    → IsRead one bytes is → IsRead (counted_at one) (counted_bytes bytes) (are_counted is)
unfolding counted_at
counted-read one bytes is read at xs rest limits =
    let both = and_parts (nat_lt (length xs) 256) (list_all is xs) limits in
    let others = many-read (repeats one) bytes is read (at + 1) xs rest both.1 in
    record { place = others.place; read = rw (counted-gets bytes at xs rest both.0, others.read) refl }
