-- The fields of operations and answers: what is read is encoded so, and what is encoded so is read.
use Rattle.std.proofs.Common.{Option, None, Some, ◌≡◌, ℕ, suc, ◌+◌, ◌^◌, ◌<◌, false, nat_lt, List, ◌∷◌, length, Ok, refl, sym, ap, subst, ◌∙◌, add-zero, arith}
use Rattle.std.proofs.lemmas.Bool.{lt-ltb}
use Rattle.std.proofs.lemmas.Bool.Decides.{nat_tests}
use Rattle.std.proofs.lemmas.List.{length-take-le}
use Rattle.gl_base.specs.LittleEndian.{little_endian, from_little_endian}
use Rattle.gl_base.specs.Cut.{bytes_at, number_at}
use Rattle.gl_base.specs.Code.{field}
use Rattle.gl_base.proofs.LittleEndianLaws.{from_little_endian-lt}
use Rattle.gl_base.proofs.Numbers.{number_at_ok}
use Rattle.gl_base.proofs.Fields.{number_at-encoded, number_encoded}
use Rattle.gl_vmaps.specs.Name.{is_map_name, is_key, is_value}
use Rattle.gl_vmaps.specs.Writes.{is_written_value}
use Rattle.gl_base.specs.Row.{is_optional_value_field, map_name_bytes, key_bytes, value_bytes, optional_value_bytes, map_name_at, key_at, value_at, optional_value_at}
use Rattle.gl_vmaps.specs.Name.{value_limit}
use Rattle.gl_base.proofs.ByteLists.{AreBytes, AreBytes-take}
use Rattle.gl_base.proofs.RowLaws as laws
use Rattle.gl_tx.specs.Request.{is_u64}
use Rattle.gl_base.proofs.ParsedBytes.{IsEncoded, IsRead, taken, bytes_left}

pub map-encoded : IsEncoded map_name_at map_name_bytes is_map_name
map-encoded old new map all e = taken map_name_bytes is_map_name old new map (laws.map_name-encoded old new map all e)

pub map-read : IsRead map_name_at map_name_bytes is_map_name
map-read at map rest is = record { place = at + length (map_name_bytes map); read = laws.map_name-reads at map rest is }

pub key-encoded : IsEncoded key_at key_bytes is_key
key-encoded old new key all e = taken key_bytes is_key old new key (laws.key-encoded old new key all e)

pub key-read : IsRead key_at key_bytes is_key
key-read at key rest is = record { place = at + length (key_bytes key); read = laws.key-reads at key rest is }

pub value-encoded : IsEncoded (value_at value_limit) value_bytes is_value
value-encoded old new value all e = taken value_bytes is_value old new value (laws.value-encoded value_limit old new value all e)

pub value-read : IsRead (value_at value_limit) value_bytes is_value
value-read at value rest is =
    record { place = at + length (value_bytes value); read = laws.value-reads value_limit at value rest (omega arith) is }

-- The two crates have one meaning of a value that may be absent.
written_value-same : (value : Option (List ℕ)) → is_optional_value_field value_limit value ≡ is_written_value value
written_value-same None = refl
written_value-same (Some value) = refl

pub optional-encoded : IsEncoded (optional_value_at value_limit) optional_value_bytes is_written_value
optional-encoded old new value all e =
    let took = laws.optional_value-encoded value_limit old new value all e in
    record { parts = took.bytes; left = took.rest; limits = sym (written_value-same value) ∙ took.valid }

pub optional-read : IsRead (optional_value_at value_limit) optional_value_bytes is_written_value
optional-read at value rest is =
    record {
      place = at + length (optional_value_bytes value);
      read = laws.optional_value-reads value_limit at value rest (omega arith) (written_value-same value ∙ is);
    }

pub u64-encoded : IsEncoded (λ unread. field (number_at 8 unread)) (little_endian 8) is_u64
u64-encoded old new n all e =
    let read = laws.field_ok (number_at 8 old) (n, new) e in
    let parts = number_encoded 8 n old new (AreBytes-take 8 old.bytes all) read in
    let number = number_at_ok 8 n old new read in
    let prefix : AreBytes number.bytes = subst AreBytes (sym number.taken.prefix) (AreBytes-take 8 old.bytes all) in
    let long : length number.bytes ≡ 8 = ap length number.taken.prefix ∙ length-take-le 8 old.bytes number.taken.enough in
    let below : from_little_endian number.bytes < 256 ^ 8 = subst (λ (k : ℕ). from_little_endian number.bytes < 256 ^ k) long (from_little_endian-lt number.bytes prefix) in
    let small : n < 2 ^ 64 = omega (arith, below, number.value) in
    record { parts = parts; left = bytes_left old.bytes (little_endian 8 n) new.bytes all parts; limits = lt-ltb n (2 ^ 64) small }

pub u64-read : IsRead (λ unread. field (number_at 8 unread)) (little_endian 8) is_u64
u64-read at n rest is =
    let small : n < 2 ^ 64 = grind (arith, nat_tests) in
    record { place = at + 8; read = ap field (number_at-encoded 8 at n rest small) }
