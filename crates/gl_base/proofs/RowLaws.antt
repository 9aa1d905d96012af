-- What is encoded as a map, a key, a value or an optional value reads back, and what reads is
-- encoded so.
use Rattle.std.proofs.Common.{◌≡◌, ℕ, ◌+◌, ◌^◌, ◌<◌, ◌≤◌, ◌==◌, ◌%◌, nat_le, ◌&&◌, Bool, true, false, cond, List, [], ◌∷◌, ◌++◌, length, take, Option, None, Some, Result, Ok, Err, IfOk, IsOkAnd, refl, sym, ap, ◌∙◌, subst, append_assoc, length-append, arith}
use Rattle.std.specs.Char.{is_ascii_graphic}
use Rattle.std.specs.List.{list_all}
use Rattle.std.proofs.lemmas.Bool.{and_parts}
use Rattle.std.proofs.lemmas.Bool.Decides.{nat_tests}
use Rattle.std.proofs.lemmas.List.{length-take-le}
use Rattle.gl_base.specs.Code.{field, flag_byte, flag_at}
use Rattle.gl_base.specs.Cut.{Unread, Gives, number_at, string_at, text_at}
use Rattle.gl_base.specs.Bytes.{are_bytes}
use Rattle.gl_base.specs.LittleEndian.{little_endian, from_little_endian}
use Rattle.gl_base.specs.Steps.{◌>>=◌}
use Rattle.gl_base.specs.declared.fault.CutFault.{CutFault}
use Rattle.gl_base.specs.declared.fault.CodeFault.{CodeFault}
use Rattle.gl_base.specs.declared.fault.CodeFault.TheVariants as faults
use Rattle.gl_base.proofs.Fields.{number_at-encoded, string_at-encoded, text_at-encoded, text_at_ok, number_encoded, string_encoded}
use Rattle.gl_base.proofs.LittleEndianLaws.{length-little_endian, from_little_endian-lt}
use Rattle.gl_base.proofs.Numbers.{number_at_ok, string_at_ok, bytes_at_ok, bytes_at_length}
use Rattle.gl_base.proofs.Steps.{cond_ok, bind_ok, ok_injective}
use Rattle.gl_base.specs.Row.{map_name_bytes, key_bytes, value_bytes, optional_value_bytes, map_name_at, key_at, value_at, optional_value_at, some_bytes, optional_after, map_name_limit, key_limit, is_map_name_field, is_key_field, is_value_field, is_optional_value_field}
use Rattle.gl_base.proofs.ByteLists.{AreBytes, are_bytes-true, AreBytes-prefix, AreBytes-suffix, AreBytes-take}
use Rattle.gl_base.proofs.Names.{none_hidden, string_at_within, map_name-text, key-valid, value-valid}

-- A reading took an encoding from the start of bytes, found it valid, and left the rest, which are
-- bytes too.
pub record Took (encoding : List ℕ) (is_valid : Bool) (old new : Unread) : Type 0 where
  pub bytes : old.bytes ≡ encoding ++ new.bytes
  pub place : new.at ≡ old.at + length encoding
  pub valid : is_valid ≡ true
  pub rest : AreBytes new.bytes

-- ---- steps

pub field_ok : {X : Type 0} (r : Result X CutFault) (x : X) → field r ≡ Ok x → r ≡ Ok x
field_ok (Ok y) x e = let same : y ≡ x = ok_injective {E = CodeFault} y x e in ap (λ z. Ok z) same
field_ok (Err fault) x e = absurd (cc)

some_bytes_ok : (place : ℕ) (read there : List ℕ × Unread) → some_bytes place read ≡ Ok there → ((length read.0 == 0) ≡ false) × (read ≡ there)
some_bytes_ok place read there e =
    let both = cond_ok {A = List ℕ × Unread} {E = CodeFault} (length read.0 == 0) (faults.Value place) (Ok read) there e in
    (both.0, ok_injective {A = List ℕ × Unread} {E = CodeFault} read there both.1)

some_at_ok : (place : ℕ) (r : Result (List ℕ × Unread) CutFault) (xs : List ℕ) (new : Unread) → (field r >>= some_bytes place) ≡ Ok (xs, new) →
    (r ≡ Ok (xs, new)) × (1 ≤ length xs)
some_at_ok place r xs new e =
    let there = bind_ok {A = List ℕ × Unread} {B = List ℕ × Unread} {E = CodeFault} (field r) (some_bytes place) (xs, new) e in
    let some = some_bytes_ok place there.0 (xs, new) there.2 in
    let same : length there.0.0 ≡ length xs = ap (λ (p : List ℕ × Unread). length p.0) some.1 in
    (field_ok {X = List ℕ × Unread} r (xs, new) (there.1 ∙ ap (λ p. Ok p) some.1), grind (arith, nat_tests, some.0, same))

some_at : (place : ℕ) (r : Result (List ℕ × Unread) CutFault) (xs : List ℕ) (new : Unread) → r ≡ Ok (xs, new) → 1 ≤ length xs →
    (field r >>= some_bytes place) ≡ Ok (xs, new)
some_at place r xs new e some =
    let test : (length xs == 0) ≡ false = grind (arith, nat_tests) in
    rw (e, test) refl

-- ---- bytes after a length

-- the encoding of bytes after a length of some bytes
encoded : ℕ → List ℕ → List ℕ
encoded size xs = little_endian size (length xs) ++ xs

pub length-encoded : (size : ℕ) (xs : List ℕ) → length (little_endian size (length xs) ++ xs) ≡ size + length xs
length-encoded size xs = length-append (little_endian size (length xs)) xs ∙ ap (λ n. n + length xs) (length-little_endian size (length xs))

-- a string took its encoding, and its bytes are bytes
pub record TookString (size limit : ℕ) (xs : List ℕ) (old new : Unread) : Type 0 where
  pub bytes : old.bytes ≡ (little_endian size (length xs) ++ xs) ++ new.bytes
  pub place : new.at ≡ old.at + length (little_endian size (length xs) ++ xs)
  pub within : length xs ≤ limit
  pub each : AreBytes xs
  pub rest : AreBytes new.bytes

string_place : (size limit : ℕ) (old new : Unread) (xs : List ℕ) → string_at size limit old ≡ Ok (xs, new) → new.at ≡ old.at + (size + length xs)
string_place size limit old new xs e =
    let string = string_at_ok size limit old new xs e in
    let len = number_at_ok size string.count old string.suffix string.len in
    let bytes = bytes_at_ok string.count string.suffix new xs string.bytes in
    let long = bytes_at_length string.count string.suffix new xs string.bytes in
    omega (arith, len.taken.place, bytes.place, long)

pub string-took : (size limit : ℕ) (old new : Unread) (xs : List ℕ) → AreBytes old.bytes → string_at size limit old ≡ Ok (xs, new) → TookString size limit xs old new
string-took size limit old new xs all e =
    let bytes : old.bytes ≡ (little_endian size (length xs) ++ xs) ++ new.bytes =
    string_encoded size limit old new xs (AreBytes-take size old.bytes all) e ∙ sym (append_assoc (little_endian size (length xs)) xs new.bytes) in
    let both : AreBytes ((little_endian size (length xs) ++ xs) ++ new.bytes) = subst AreBytes bytes all in
    record {
      bytes = bytes;
      place = string_place size limit old new xs e ∙ ap (λ n. old.at + n) (sym (length-encoded size xs));
      within = string_at_within size limit old new xs e;
      each = AreBytes-suffix (little_endian size (length xs)) xs (AreBytes-prefix (little_endian size (length xs) ++ xs) new.bytes both);
      rest = AreBytes-suffix (little_endian size (length xs) ++ xs) new.bytes both;
    }

-- where the bytes after an encoding begin
suffix : (at size : ℕ) (xs rest : List ℕ) → ◌≡◌ {A = Unread} (record { at = at + size + length xs; bytes = rest }) (record { at = at + length (little_endian size (length xs) ++ xs); bytes = rest })
suffix at size xs rest =
    let place : at + size + length xs ≡ at + length (little_endian size (length xs) ++ xs) = omega (arith, length-encoded size xs) in
    ap (λ (n : ℕ). record { at = n; bytes = rest }) place

pub string-reads : (size limit at : ℕ) (xs rest : List ℕ) → length xs ≤ limit → length xs < 256 ^ size →
    string_at size limit (record { at = at; bytes = (little_endian size (length xs) ++ xs) ++ rest }) ≡ Ok (xs, record { at = at + length (little_endian size (length xs) ++ xs); bytes = rest })
string-reads size limit at xs rest within small =
    ap (λ (bytes : List ℕ). string_at size limit (record { at = at; bytes = bytes })) (append_assoc (little_endian size (length xs)) xs rest)
    ∙ string_at-encoded size limit at xs rest within small
    ∙ ap (λ (u : Unread). Ok (xs, u)) (suffix at size xs rest)

text-reads : (limit at : ℕ) (xs rest : List ℕ) → length xs ≤ limit → length xs < 256 → list_all is_ascii_graphic xs ≡ true →
    text_at limit (record { at = at; bytes = (little_endian 1 (length xs) ++ xs) ++ rest }) ≡ Ok (xs, record { at = at + length (little_endian 1 (length xs) ++ xs); bytes = rest })
text-reads limit at xs rest within small names =
    ap (λ (bytes : List ℕ). text_at limit (record { at = at; bytes = bytes })) (append_assoc (little_endian 1 (length xs)) xs rest)
    ∙ text_at-encoded limit at xs rest within small (none_hidden xs names)
    ∙ ap (λ (u : Unread). Ok (xs, u)) (suffix at 1 xs rest)

-- ---- a map's name

pub map_name-encoded : (old new : Unread) (map : List ℕ) → AreBytes old.bytes → map_name_at old ≡ Ok (map, new) → Took (map_name_bytes map) (is_map_name_field map) old new
unfolding map_name_at
map_name-encoded old new map all e =
    let read = some_at_ok old.at (text_at map_name_limit old) map new e in
    let took = string-took 1 map_name_limit old new map all (text_at_ok map_name_limit old new map read.0).0 in
    record { bytes = took.bytes; place = took.place; valid = map_name-text old new map read.0 read.1; rest = took.rest }

pub map_name-reads : (at : ℕ) (map rest : List ℕ) → is_map_name_field map ≡ true →
    map_name_at (record { at = at; bytes = map_name_bytes map ++ rest }) ≡ Ok (map, record { at = at + length (map_name_bytes map); bytes = rest })
unfolding map_name_at
map_name-reads at map rest is =
    let limits = and_parts (nat_le 1 (length map) && nat_le (length map) map_name_limit) (list_all is_ascii_graphic map) is in
    let some : 1 ≤ length map = grind (arith, nat_tests, limits.0) in
    let within : length map ≤ map_name_limit = grind (arith, nat_tests, limits.0) in
    some_at at (text_at map_name_limit (record { at = at; bytes = map_name_bytes map ++ rest })) map (record { at = at + length (map_name_bytes map); bytes = rest })
    (text-reads map_name_limit at map rest within (omega (arith, within)) limits.1) some

-- ---- a key

pub key-encoded : (old new : Unread) (key : List ℕ) → AreBytes old.bytes → key_at old ≡ Ok (key, new) → Took (key_bytes key) (is_key_field key) old new
unfolding key_at
key-encoded old new key all e =
    let read = some_at_ok old.at (string_at 2 key_limit old) key new e in
    let took = string-took 2 key_limit old new key all read.0 in
    record { bytes = took.bytes; place = took.place; valid = key-valid key (are_bytes-true key took.each) read.1 took.within; rest = took.rest }

pub key-reads : (at : ℕ) (key rest : List ℕ) → is_key_field key ≡ true →
    key_at (record { at = at; bytes = key_bytes key ++ rest }) ≡ Ok (key, record { at = at + length (key_bytes key); bytes = rest })
unfolding key_at
key-reads at key rest is =
    let limits = and_parts (nat_le 1 (length key) && nat_le (length key) key_limit) (are_bytes key) is in
    let some : 1 ≤ length key = grind (arith, nat_tests, limits.0) in
    let within : length key ≤ key_limit = grind (arith, nat_tests, limits.0) in
    some_at at (string_at 2 key_limit (record { at = at; bytes = key_bytes key ++ rest })) key (record { at = at + length (key_bytes key); bytes = rest })
    (string-reads 2 key_limit at key rest within (omega (arith, within))) some

-- ---- a value

pub value-encoded : (limit : ℕ) (old new : Unread) (value : List ℕ) → AreBytes old.bytes → value_at limit old ≡ Ok (value, new) → Took (value_bytes value) (is_value_field limit value) old new
unfolding value_at
value-encoded limit old new value all e =
    let took = string-took 4 limit old new value all (field_ok (string_at 4 limit old) (value, new) e) in
    record { bytes = took.bytes; place = took.place; valid = value-valid limit value (are_bytes-true value took.each) took.within; rest = took.rest }

pub value-reads : (limit at : ℕ) (value rest : List ℕ) → limit < 2 ^ 32 → is_value_field limit value ≡ true →
    value_at limit (record { at = at; bytes = value_bytes value ++ rest }) ≡ Ok (value, record { at = at + length (value_bytes value); bytes = rest })
unfolding value_at
value-reads limit at value rest small is =
    let limits = and_parts (nat_le (length value) limit) (are_bytes value) is in
    let within : length value ≤ limit = grind (arith, nat_tests, limits.0) in
    rw (string-reads 4 limit at value rest within (omega (arith, within, small))) refl

-- ---- an optional value

one_byte : (n : ℕ) → n < 256 → little_endian 1 n ≡ n ∷ []
unfolding little_endian
one_byte n small = let same : n % 256 ≡ n = omega arith in ap (λ m. m ∷ []) same

flag_reads : (at flag : ℕ) (rest : List ℕ) → flag < 256 →
    number_at 1 (record { at = at; bytes = flag ∷ rest }) ≡ Ok (flag, record { at = at + 1; bytes = rest })
flag_reads at flag rest small =
    ap (λ (bytes : List ℕ). number_at 1 (record { at = at; bytes = bytes ++ rest })) (sym (one_byte flag small)) ∙ number_at-encoded 1 at flag rest small

pub optional_value-reads : (limit at : ℕ) (value : Option (List ℕ)) (rest : List ℕ) → limit < 2 ^ 32 → is_optional_value_field limit value ≡ true →
    optional_value_at limit (record { at = at; bytes = optional_value_bytes value ++ rest }) ≡ Ok (value, record { at = at + length (optional_value_bytes value); bytes = rest })
unfolding optional_value_at
optional_value-reads limit at None rest small is = rw (flag_reads at 0 rest (omega arith)) refl
optional_value-reads limit at (Some value) rest small is =
    let place : at + 1 + length (value_bytes value) ≡ at + length (optional_value_bytes (Some value)) = omega arith in
    rw (flag_reads at 1 (value_bytes value ++ rest) (omega arith), value-reads limit (at + 1) value rest small is)
    (ap (λ (n : ℕ). Ok (Some value, record { at = n; bytes = rest })) place)

-- a flag is a byte, the next one
pub record TookFlag (flag : ℕ) (old new : Unread) : Type 0 where
  pub bytes : old.bytes ≡ flag ∷ new.bytes
  pub place : new.at ≡ old.at + 1
  pub rest : AreBytes new.bytes

pub flag-took : (flag : ℕ) (old new : Unread) → AreBytes old.bytes → number_at 1 old ≡ Ok (flag, new) → TookFlag flag old new
flag-took flag old new all e =
    let number = number_at_ok 1 flag old new e in
    let prefix : AreBytes (take 1 old.bytes) = AreBytes-take 1 old.bytes all in
    let long : length number.bytes ≡ 1 = ap length number.taken.prefix ∙ length-take-le 1 old.bytes number.taken.enough in
    let small : from_little_endian number.bytes < 256 ^ length number.bytes = from_little_endian-lt number.bytes (subst AreBytes (sym number.taken.prefix) prefix) in
    let below : from_little_endian number.bytes < 256 = subst (λ (n : ℕ). from_little_endian number.bytes < 256 ^ n) long small in
    let bytes : old.bytes ≡ flag ∷ new.bytes =
    number_encoded 1 flag old new prefix e ∙ ap (λ (xs : List ℕ). xs ++ new.bytes) (one_byte flag (omega (arith, number.value, below))) in
    record { bytes = bytes; place = number.taken.place; rest = AreBytes-suffix (flag ∷ []) new.bytes (subst AreBytes bytes all) }

took_value : (limit : ℕ) (old suffix new : Unread) (value : List ℕ) → TookFlag 1 old suffix → Took (value_bytes value) (is_value_field limit value) suffix new →
    Took (optional_value_bytes (Some value)) (is_optional_value_field limit (Some value)) old new
took_value limit old suffix new value flag took = record {
  bytes = flag.bytes ∙ ap (λ (xs : List ℕ). 1 ∷ xs) took.bytes;
  place = omega (arith, flag.place, took.place);
  valid = took.valid;
  rest = took.rest;
}

TookOptional : ℕ → Unread → Option (List ℕ) × Unread → Type 0
TookOptional limit old read = Took (optional_value_bytes read.0) (is_optional_value_field limit read.0) old read.1

optional_by : (limit : ℕ) (none some : Bool) (flag : ℕ) (old suffix : Unread) (read : Option (List ℕ) × Unread) → (flag == 0) ≡ none → (flag == 1) ≡ some → TookFlag flag old suffix →
    cond none (Ok (None, suffix)) (cond some (value_at limit suffix >>= λ value. Ok (Some value.0, value.1)) (Err (faults.Value old.at))) ≡ Ok read →
    Took (optional_value_bytes read.0) (is_optional_value_field limit read.0) old read.1
unfolding TookOptional
optional_by limit true some flag old suffix read z o took e =
    let zero : flag ≡ 0 = grind (arith, nat_tests) in
    let pair : ◌≡◌ {A = Option (List ℕ) × Unread} (None, suffix) read = ok_injective {A = Option (List ℕ) × Unread} {E = CodeFault} (None, suffix) read e in
    let nothing : TookOptional limit old (None, suffix) = record { bytes = took.bytes ∙ ap (λ (n : ℕ). n ∷ suffix.bytes) zero; place = took.place; valid = refl; rest = took.rest } in
    subst (TookOptional limit old) pair nothing
optional_by limit false true flag old suffix read z o took e =
    let one : flag ≡ 1 = grind (arith, nat_tests) in
    let there = bind_ok {A = List ℕ × Unread} {B = Option (List ℕ) × Unread} {E = CodeFault} (value_at limit suffix) (λ value. Ok (Some value.0, value.1)) read e in
    let pair : ◌≡◌ {A = Option (List ℕ) × Unread} (Some there.0.0, there.0.1) read = ok_injective {A = Option (List ℕ) × Unread} {E = CodeFault} (Some there.0.0, there.0.1) read there.2 in
    let value = value-encoded limit suffix there.0.1 there.0.0 took.rest there.1 in
    let something : TookOptional limit old (Some there.0.0, there.0.1) = took_value limit old suffix there.0.1 there.0.0 (subst (λ (n : ℕ). TookFlag n old suffix) one took) value in
    subst (TookOptional limit old) pair something
optional_by limit false false flag old suffix read z o took e = absurd (cc)

pub optional_value-encoded : (limit : ℕ) (old new : Unread) (value : Option (List ℕ)) → AreBytes old.bytes → optional_value_at limit old ≡ Ok (value, new) →
    Took (optional_value_bytes value) (is_optional_value_field limit value) old new
unfolding optional_value_at
optional_value-encoded limit old new value all e =
    let there = bind_ok {A = ℕ × Unread} {B = Option (List ℕ) × Unread} {E = CodeFault} (field (number_at 1 old)) (optional_after limit old.at) (value, new) e in
    let flag = flag-took there.0.0 old there.0.1 all (field_ok {X = ℕ × Unread} (number_at 1 old) there.0 there.1) in
    optional_by limit (there.0.0 == 0) (there.0.0 == 1) there.0.0 old there.0.1 (value, new) refl refl flag there.2

-- ---- what a read of a map's name, a key or a value answers

pub gives-ok : {X Y F : Type 0} → (view : X → Y) (old new : Unread) (r : Result X F) (reading : Result (Y × Unread) F) (P : Y → Type 0)
    → Gives view r old new reading → ((y : Y) → reading ≡ Ok (y, new) → P y) → IfOk r (λ x. P (view x))
gives-ok view old new (Ok x) reading P given each = each (view x) given
gives-ok view old new (Err fault) reading P given each = tt

pub gives-only : {X Y F : Type 0} → (view : X → Y) (old new next : Unread) (r : Result X F) (reading : Result (Y × Unread) F) (y : Y)
    → Gives view r old new reading → reading ≡ Ok (y, next) → IsOkAnd r (λ x. view x ≡ y)
gives-only {X} {Y} {F} view old new next (Ok x) reading y g e =
    let pair : ◌≡◌ {A = Y × Unread} (view x, new) (y, next) = ok_injective {A = Y × Unread} {E = F} _ _ (sym g ∙ e) in
    ap (λ (p : Y × Unread). p.0) pair
gives-only view old new next (Err fault) reading y g e = let refused = g.0 in cc

-- where bytes encode it, it is read
pub there : {Y F : Type 0} → (reading : Unread → Result (Y × Unread) F) (old : Unread) (encoding rest : List ℕ) (read : Result (Y × Unread) F)
    → old.bytes ≡ encoding ++ rest → reading (record { at = old.at; bytes = encoding ++ rest }) ≡ read → reading old ≡ read
there reading old encoding rest read e given = ap (λ (bytes : List ℕ). reading (record { at = old.at; bytes = bytes })) e ∙ given

pub map_name-only : {X : Type 0} → (view : X → List ℕ) (old new : Unread) (r : Result X CodeFault) → Gives view r old new (map_name_at old)
    → (xs rest : List ℕ) → is_map_name_field xs ≡ true → old.bytes ≡ map_name_bytes xs ++ rest → IsOkAnd r (λ x. view x ≡ xs)
map_name-only view old new r g xs rest is e =
    gives-only view old new _ r (map_name_at old) xs g
    (there map_name_at old (map_name_bytes xs) rest _ e (map_name-reads old.at xs rest is))

pub key-only : {X : Type 0} → (view : X → List ℕ) (old new : Unread) (r : Result X CodeFault) → Gives view r old new (key_at old)
    → (xs rest : List ℕ) → is_key_field xs ≡ true → old.bytes ≡ key_bytes xs ++ rest → IsOkAnd r (λ x. view x ≡ xs)
key-only view old new r g xs rest is e =
    gives-only view old new _ r (key_at old) xs g (there key_at old (key_bytes xs) rest _ e (key-reads old.at xs rest is))

pub value-only : {X : Type 0} → (limit : ℕ) (view : X → List ℕ) (old new : Unread) (r : Result X CodeFault) → limit < 2 ^ 32
    → Gives view r old new (value_at limit old)
    → (xs rest : List ℕ) → is_value_field limit xs ≡ true → old.bytes ≡ value_bytes xs ++ rest → IsOkAnd r (λ x. view x ≡ xs)
value-only limit view old new r small g xs rest is e =
    gives-only view old new _ r (value_at limit old) xs g
    (there (value_at limit) old (value_bytes xs) rest _ e (value-reads limit old.at xs rest small is))

pub optional_value-only : {X : Type 0} → (limit : ℕ) (view : X → Option (List ℕ)) (old new : Unread) (r : Result X CodeFault) → limit < 2 ^ 32
    → Gives view r old new (optional_value_at limit old)
    → (v : Option (List ℕ)) (rest : List ℕ) → is_optional_value_field limit v ≡ true → old.bytes ≡ optional_value_bytes v ++ rest
    → IsOkAnd r (λ x. view x ≡ v)
optional_value-only limit view old new r small g v rest is e =
    gives-only view old new _ r (optional_value_at limit old) v g
    (there (optional_value_at limit) old (optional_value_bytes v) rest _ e (optional_value-reads limit old.at v rest small is))

-- ---- a byte that says no or yes

pub flag-reads : (at : ℕ) (b : Bool) (rest : List ℕ) →
    flag_at (record { at = at; bytes = flag_byte b ∷ rest }) ≡ Ok (b, record { at = at + 1; bytes = rest })
unfolding flag_at
flag-reads at false rest = rw (flag_reads at 0 rest (omega arith)) refl
flag-reads at true rest = rw (flag_reads at 1 rest (omega arith)) refl

pub flag-only : {X : Type 0} → (view : X → Bool) (old new : Unread) (r : Result X CodeFault) → Gives view r old new (flag_at old)
    → (b : Bool) (rest : List ℕ) → old.bytes ≡ flag_byte b ∷ rest → IsOkAnd r (λ x. view x ≡ b)
flag-only view old new r g b rest e =
    gives-only view old new _ r (flag_at old) b g (ap (λ (bytes : List ℕ). flag_at (record { at = old.at; bytes = bytes })) e ∙ flag-reads old.at b rest)
