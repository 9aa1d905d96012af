-- What an operation is encoded as reads back, and what reads is encoded so.
use Rattle.std.proofs.Common.{◌≡◌, ℕ, ◌+◌, Bool, true, cond, ◌&&◌, ◌==◌, List, ◌∷◌, ◌++◌, Result, Ok, refl, sym, ap, subst, ◌∙◌, append_assoc, inl, inr}
use Rattle.std.proofs.lemmas.Bool.{and_parts, and_from, eqb-true}
use Rattle.gl_base.specs.LittleEndian.{little_endian}
use Rattle.gl_base.specs.Steps.{◌>>=◌}
use Rattle.gl_base.specs.Cut.{Unread, number_at}
use Rattle.gl_base.specs.Code.{field}
use Rattle.gl_base.specs.declared.fault.CodeFault.{CodeFault}
use Rattle.gl_base.proofs.Steps.{bind_ok, ok_injective}
use Rattle.gl_vmaps.specs.Name.{is_map_name, is_key, is_value}
use Rattle.gl_vmaps.specs.Writes.{is_written_value}
use Rattle.gl_base.specs.Row.{map_name_bytes, key_bytes, value_bytes, optional_value_bytes, map_name_at, key_at, value_at, optional_value_at}
use Rattle.gl_vmaps.specs.Name.{value_limit}
use Rattle.gl_base.proofs.RowLaws.{field_ok, flag-took}
use Rattle.gl_base.proofs.ByteLists.{AreBytes}
use Rattle.gl_tx.specs.Request.{is_u64, is_row, is_operation, operation_bytes}
use Rattle.gl_tx.specs.Parsing.{row_at, get_at, has_at, put_at, remove_at, add_at, check_at, follow_at, size_at, operation_after, operation_at, operations_at}
use Rattle.gl_tx.specs.declared.request.Operation.{Operation}
use Rattle.gl_tx.specs.declared.request.Operation.TheVariants.{Get, Has, Put, Remove, Add, Check, Follow, Size}
use Rattle.gl_base.proofs.ParsedBytes.{Encoded, IsEncoded, Gets, IsRead, both_parts, bytes_left, chosen}
use Rattle.gl_base.proofs.Repeated.{Repeats}
use Rattle.gl_tx.proofs.Fields.{u64-encoded, u64-read, map-encoded, map-read, key-encoded, key-read, value-encoded, value-read, optional-encoded, optional-read}
use Rattle.gl_base.proofs.Fields.{tag_read}

pub operations_repeat : Repeats operation_at operations_at
unfolding operations_at
operations_repeat = record { none = λ unread. refl; more = λ n unread. refl }

-- ---- a map and a key

abbrev row_bytes : List ℕ × List ℕ → List ℕ
row_bytes row = map_name_bytes row.0 ++ key_bytes row.1

abbrev is_such_row : List ℕ × List ℕ → Bool
is_such_row row = is_row row.0 row.1

abbrev with_map : List ℕ → List ℕ × Unread → Result ((List ℕ × List ℕ) × Unread) CodeFault
with_map map key = Ok ((map, key.0), key.1)

row-encoded : IsEncoded row_at row_bytes is_such_row
unfolding row_at
row-encoded old new row all e =
    let map = bind_ok {A = List ℕ × Unread} {B = (List ℕ × List ℕ) × Unread} {E = CodeFault} (map_name_at old)
    (λ (map : List ℕ × Unread). key_at map.1 >>= with_map map.0) (row, new) e in
    let key = bind_ok {A = List ℕ × Unread} {B = (List ℕ × List ℕ) × Unread} {E = CodeFault} (key_at map.0.1) (with_map map.0.0) (row, new) map.2 in
    let first = map-encoded old map.0.1 map.0.0 all map.1 in
    let second = key-encoded map.0.1 key.0.1 key.0.0 first.left key.1 in
    let parts = both_parts old.bytes (map_name_bytes map.0.0) map.0.1.bytes (key_bytes key.0.0) key.0.1.bytes first.parts second.parts in
    let limits = and_from (is_map_name map.0.0) (is_key key.0.0) first.limits second.limits in
    let same : ◌≡◌ {A = (List ℕ × List ℕ) × Unread} ((map.0.0, key.0.0), key.0.1) (row, new) =
    ok_injective {A = (List ℕ × List ℕ) × Unread} {E = CodeFault} ((map.0.0, key.0.0), key.0.1) (row, new) key.2 in
    subst (λ (y : (List ℕ × List ℕ) × Unread). Encoded row_bytes is_such_row old y.0 y.1) {x = ((map.0.0, key.0.0), key.0.1)} same
    (record { parts = parts; left = second.left; limits = limits })

row-read : IsRead row_at row_bytes is_such_row
unfolding row_at
row-read at row rest is =
    let both = and_parts (is_map_name row.0) (is_key row.1) is in
    let map = map-read at row.0 (key_bytes row.1 ++ rest) both.0 in
    let key = key-read map.place row.1 rest both.1 in
    let regrouped = append_assoc (map_name_bytes row.0) (key_bytes row.1) rest in
    record {
      place = key.place;
      read = ap (λ (ys : List ℕ). row_at (record { at = at; bytes = ys })) regrouped ∙ rw (map.read, key.read) refl;
    }

-- ---- what stands after a tag

-- What is read after a tag is encoded with the tag before it.
abbrev IsAfter : ℕ → (Unread → Result (Operation × Unread) CodeFault) → Type 0
IsAfter tag reading = (old new : Unread) (o : Operation) → AreBytes old.bytes → reading old ≡ Ok (o, new)
    → (tag ∷ old.bytes ≡ operation_bytes o ++ new.bytes) × (is_operation o ≡ true)

-- A row alone makes an operation, or a row and one more field.
abbrev made_of_row : (List ℕ → List ℕ → Operation) → (List ℕ × List ℕ) × Unread → Result (Operation × Unread) CodeFault
made_of_row make row = Ok (make row.0.0 row.0.1, row.1)

abbrev made_of : {Y : Type 0} → (List ℕ → List ℕ → Y → Operation) → List ℕ × List ℕ → Y × Unread → Result (Operation × Unread) CodeFault
made_of make row y = Ok (make row.0 row.1 y.0, y.1)

abbrev row_and : {Y : Type 0} → (Unread → Result (Y × Unread) CodeFault) → (List ℕ → List ℕ → Y → Operation) → Unread → Result (Operation × Unread) CodeFault
row_and field_at make unread = row_at unread >>= λ row. field_at row.1 >>= made_of make row.0

row_after : (tag : ℕ) (make : List ℕ → List ℕ → Operation)
    → ((map key : List ℕ) → operation_bytes (make map key) ≡ (tag ∷ map_name_bytes map) ++ key_bytes key)
    → ((map key : List ℕ) → is_operation (make map key) ≡ is_row map key)
    → IsAfter tag (λ unread. row_at unread >>= made_of_row make)
row_after tag make bytes is old new o all e =
    let row = bind_ok {A = (List ℕ × List ℕ) × Unread} {B = Operation × Unread} {E = CodeFault} (row_at old) (made_of_row make) (o, new) e in
    let encoded = row-encoded old row.0.1 row.0.0 all row.1 in
    let parts : tag ∷ old.bytes ≡ operation_bytes (make row.0.0.0 row.0.0.1) ++ row.0.1.bytes =
    rw (bytes row.0.0.0 row.0.0.1) (ap (λ (ys : List ℕ). tag ∷ ys) encoded.parts) in
    let limits : is_operation (make row.0.0.0 row.0.0.1) ≡ true = is row.0.0.0 row.0.0.1 ∙ encoded.limits in
    let same : ◌≡◌ {A = Operation × Unread} (make row.0.0.0 row.0.0.1, row.0.1) (o, new) =
    ok_injective {A = Operation × Unread} {E = CodeFault} (make row.0.0.0 row.0.0.1, row.0.1) (o, new) row.2 in
    subst (λ (y : Operation × Unread). (tag ∷ old.bytes ≡ operation_bytes y.0 ++ y.1.bytes) × (is_operation y.0 ≡ true)) {x = (make row.0.0.0 row.0.0.1, row.0.1)} same
    (parts, limits)

row_and_after : {Y : Type 0} → (tag : ℕ) (field_at : Unread → Result (Y × Unread) CodeFault) (field_bytes : Y → List ℕ) (is_field : Y → Bool) (make : List ℕ → List ℕ → Y → Operation)
    → IsEncoded field_at field_bytes is_field
    → ((map key : List ℕ) (y : Y) → operation_bytes (make map key y) ≡ (tag ∷ map_name_bytes map) ++ key_bytes key ++ field_bytes y)
    → ((map key : List ℕ) (y : Y) → is_operation (make map key y) ≡ (is_row map key && is_field y))
    → IsAfter tag (row_and field_at make)
row_and_after {Y = Y} tag field_at field_bytes is_field make field-encoded bytes is old new o all e =
    let row = bind_ok {A = (List ℕ × List ℕ) × Unread} {B = Operation × Unread} {E = CodeFault} (row_at old)
    (λ (row : (List ℕ × List ℕ) × Unread). field_at row.1 >>= made_of make row.0) (o, new) e in
    let last = bind_ok {A = Y × Unread} {B = Operation × Unread} {E = CodeFault} (field_at row.0.1) (made_of make row.0.0) (o, new) row.2 in
    let first = row-encoded old row.0.1 row.0.0 all row.1 in
    let second = field-encoded row.0.1 last.0.1 last.0.0 first.left last.1 in
    let made : Operation = make row.0.0.0 row.0.0.1 last.0.0 in
    let together = both_parts old.bytes (row_bytes row.0.0) row.0.1.bytes (field_bytes last.0.0) last.0.1.bytes first.parts second.parts in
    let parts : tag ∷ old.bytes ≡ operation_bytes (make row.0.0.0 row.0.0.1 last.0.0) ++ last.0.1.bytes =
    rw (bytes row.0.0.0 row.0.0.1 last.0.0) (ap (λ (ys : List ℕ). tag ∷ ys) together) in
    let limits : is_operation (make row.0.0.0 row.0.0.1 last.0.0) ≡ true =
    is row.0.0.0 row.0.0.1 last.0.0 ∙ and_from (is_row row.0.0.0 row.0.0.1) (is_field last.0.0) first.limits second.limits in
    let same : ◌≡◌ {A = Operation × Unread} (make row.0.0.0 row.0.0.1 last.0.0, last.0.1) (o, new) =
    ok_injective {A = Operation × Unread} {E = CodeFault} (make row.0.0.0 row.0.0.1 last.0.0, last.0.1) (o, new) last.2 in
    subst (λ (y : Operation × Unread). (tag ∷ old.bytes ≡ operation_bytes y.0 ++ y.1.bytes) × (is_operation y.0 ≡ true)) {x = (make row.0.0.0 row.0.0.1 last.0.0, last.0.1)} same
    (parts, limits)

get_after : IsAfter 1 get_at
unfolding get_at
get_after = row_after 1 Get (λ map key. refl) (λ map key. refl)

has_after : IsAfter 2 has_at
unfolding has_at
has_after = row_after 2 Has (λ map key. refl) (λ map key. refl)

put_after : IsAfter 3 put_at
unfolding put_at
put_after = row_and_after 3 (value_at value_limit) value_bytes is_value Put value-encoded (λ map key value. refl) (λ map key value. refl)

remove_after : IsAfter 4 remove_at
unfolding remove_at
remove_after = row_after 4 Remove (λ map key. refl) (λ map key. refl)

add_after : IsAfter 5 add_at
unfolding add_at
add_after = row_and_after 5 (λ unread. field (number_at 8 unread)) (little_endian 8) is_u64 Add u64-encoded (λ map key amount. refl) (λ map key amount. refl)

check_after : IsAfter 6 check_at
unfolding check_at
check_after = row_and_after 6 (optional_value_at value_limit) optional_value_bytes is_written_value Check optional-encoded (λ map key expected. refl) (λ map key expected. refl)

follow_after : IsAfter 7 follow_at
unfolding follow_at
follow_after = row_and_after 7 map_name_at map_name_bytes is_map_name Follow map-encoded (λ map key target. refl) (λ map key target. refl)

abbrev made_of_map : List ℕ × Unread → Result (Operation × Unread) CodeFault
made_of_map map = Ok (Size map.0, map.1)

size_after : IsAfter 8 size_at
unfolding size_at
size_after old new o all e =
    let map = bind_ok {A = List ℕ × Unread} {B = Operation × Unread} {E = CodeFault} (map_name_at old) made_of_map (o, new) e in
    let encoded = map-encoded old map.0.1 map.0.0 all map.1 in
    let same : ◌≡◌ {A = Operation × Unread} (Size map.0.0, map.0.1) (o, new) = ok_injective {A = Operation × Unread} {E = CodeFault} (Size map.0.0, map.0.1) (o, new) map.2 in
    subst (λ (y : Operation × Unread). (8 ∷ old.bytes ≡ operation_bytes y.0 ++ y.1.bytes) × (is_operation y.0 ≡ true)) {x = (Size map.0.0, map.0.1)} same
    (ap (λ (ys : List ℕ). 8 ∷ ys) encoded.parts, encoded.limits)

-- One more tag.
or_tag : (tag k : ℕ) (there others : Unread → Result (Operation × Unread) CodeFault) → IsAfter k there → IsAfter tag others
    → IsAfter tag (λ unread. cond (tag == k) (there unread) (others unread))
or_tag tag k there others is others_are old new o all e =
    elim (chosen {A = Result (Operation × Unread) CodeFault} (tag == k) (there old) (others old) (Ok (o, new)) e) [
      | inl it ↦ subst (λ (t : ℕ). (t ∷ old.bytes ≡ operation_bytes o ++ new.bytes) × (is_operation o ≡ true)) (sym (eqb-true tag k it.0)) (is old new o all it.1)
      | inr other ↦ others_are old new o all other.1
    ]

after_tag : (place tag : ℕ) → IsAfter tag (λ unread. operation_after place (tag, unread))
after_tag place tag =
    or_tag tag 1 _ _ get_after (or_tag tag 2 _ _ has_after (or_tag tag 3 _ _ put_after (or_tag tag 4 _ _ remove_after
    (or_tag tag 5 _ _ add_after (or_tag tag 6 _ _ check_after (or_tag tag 7 _ _ follow_after (or_tag tag 8 _ _ size_after
    (λ old new o all e. cc))))))))

pub operation-encoded : IsEncoded operation_at operation_bytes is_operation
unfolding operation_at
operation-encoded old new o all e =
    let tag = bind_ok {A = ℕ × Unread} {B = Operation × Unread} {E = CodeFault} (field (number_at 1 old)) (operation_after old.at) (o, new) e in
    let flag = flag-took tag.0.0 old tag.0.1 all (field_ok (number_at 1 old) tag.0 tag.1) in
    let after = after_tag old.at tag.0.0 tag.0.1 new o flag.rest tag.2 in
    let parts : old.bytes ≡ operation_bytes o ++ new.bytes = flag.bytes ∙ after.0 in
    record { parts = parts; left = bytes_left old.bytes (operation_bytes o) new.bytes all parts; limits = after.1 }

-- ---- what is encoded so is read

row_and_read : {Y : Type 0} → (field_at : Unread → Result (Y × Unread) CodeFault) (field_bytes : Y → List ℕ) (is_field : Y → Bool) (make : List ℕ → List ℕ → Y → Operation)
    → IsRead field_at field_bytes is_field
    → (at : ℕ) (map key : List ℕ) (y : Y) (rest : List ℕ) → (is_row map key && is_field y) ≡ true
    → Gets (row_and field_at make (record { at = at; bytes = (row_bytes (map, key) ++ field_bytes y) ++ rest })) (make map key y) rest
row_and_read {Y = Y} field_at field_bytes is_field make field-read at map key y rest is =
    let both = and_parts (is_row map key) (is_field y) is in
    let row = row-read at (map, key) (field_bytes y ++ rest) both.0 in
    let last = field-read row.place y rest both.1 in
    let regrouped = append_assoc (row_bytes (map, key)) (field_bytes y) rest in
    record {
      place = last.place;
      read = ap (λ (ys : List ℕ). row_and field_at make (record { at = at; bytes = ys })) regrouped ∙ rw (row.read, last.read) refl;
    }

pub operation-read : IsRead operation_at operation_bytes is_operation
unfolding operation_at get_at has_at put_at remove_at add_at check_at follow_at size_at
operation-read at (Get map key) rest is =
    let row = row-read (at + 1) (map, key) rest is in
    record { place = row.place; read = rw (tag_read at 1 (row_bytes (map, key) ++ rest), row.read) refl }
operation-read at (Has map key) rest is =
    let row = row-read (at + 1) (map, key) rest is in
    record { place = row.place; read = rw (tag_read at 2 (row_bytes (map, key) ++ rest), row.read) refl }
operation-read at (Put map key value) rest is =
    let all = row_and_read (value_at value_limit) value_bytes is_value Put value-read (at + 1) map key value rest is in
    record { place = all.place; read = rw (tag_read at 3 ((row_bytes (map, key) ++ value_bytes value) ++ rest)) all.read }
operation-read at (Remove map key) rest is =
    let row = row-read (at + 1) (map, key) rest is in
    record { place = row.place; read = rw (tag_read at 4 (row_bytes (map, key) ++ rest), row.read) refl }
operation-read at (Add map key amount) rest is =
    let all = row_and_read (λ unread. field (number_at 8 unread)) (little_endian 8) is_u64 Add u64-read (at + 1) map key amount rest is in
    record { place = all.place; read = rw (tag_read at 5 ((row_bytes (map, key) ++ little_endian 8 amount) ++ rest)) all.read }
operation-read at (Check map key expected) rest is =
    let all = row_and_read (optional_value_at value_limit) optional_value_bytes is_written_value Check optional-read (at + 1) map key expected rest is in
    record { place = all.place; read = rw (tag_read at 6 ((row_bytes (map, key) ++ optional_value_bytes expected) ++ rest)) all.read }
operation-read at (Follow map key target) rest is =
    let all = row_and_read map_name_at map_name_bytes is_map_name Follow map-read (at + 1) map key target rest is in
    record { place = all.place; read = rw (tag_read at 7 ((row_bytes (map, key) ++ map_name_bytes target) ++ rest)) all.read }
operation-read at (Size map) rest is =
    let name = map-read (at + 1) map rest is in
    record { place = name.place; read = rw (tag_read at 8 (map_name_bytes map ++ rest), name.read) refl }
