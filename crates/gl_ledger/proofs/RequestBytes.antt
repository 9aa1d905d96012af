-- A request that bytes encode is encoded by bytes.
use Rattle.std.proofs.Common.{◌≡◌, ℕ, nat_le, List, [], ◌∷◌, ◌++◌, length, Option, Some, None, true, ◌&&◌, refl, arith}
use Rattle.std.specs.List.{list_all, flat_map}
use Rattle.std.proofs.lemmas.Bool.{and_parts, and_from}
use Rattle.std.proofs.lemmas.Bool.Decides.{nat_tests}
use Rattle.gl_base.specs.LittleEndian.{little_endian}
use Rattle.gl_base.specs.Bytes.{is_byte, are_bytes}
use Rattle.std.specs.Char.{is_ascii_graphic}
use Rattle.gl_vmaps.specs.Name.{is_map_name, is_key, is_value}
use Rattle.gl_base.specs.Row.{map_name_bytes, key_bytes, value_bytes, optional_value_bytes}
use Rattle.gl_vmaps.specs.Writes.{is_written_value}
use Rattle.gl_tx.specs.Request.{is_row, is_u64, is_operation, is_count, is_request, operation_bytes, request_bytes}
use Rattle.gl_tx.specs.declared.request.Operation.{Operation}
use Rattle.gl_tx.specs.declared.request.Operation.TheVariants.{Get, Has, Put, Remove, Add, Check, Follow, Size}
use Rattle.gl_gov_rules.proofs.Digests.{bytes-append, number_bytes}

name_bytes : (xs : List ℕ) → list_all is_ascii_graphic xs ≡ true → are_bytes xs ≡ true
name_bytes [] all = refl
name_bytes (x ∷ xs) all =
    let both = and_parts (is_ascii_graphic x) (list_all is_ascii_graphic xs) all in
    let low = and_parts (nat_le 33 x) (nat_le x 126) both.0 in
    let few = low.1 in
    let byte : is_byte x ≡ true = grind (arith, nat_tests) in
    and_from (is_byte x) (are_bytes xs) byte (name_bytes xs both.1)

map_fits : (map : List ℕ) → is_map_name map ≡ true → are_bytes (map_name_bytes map) ≡ true
map_fits map h = bytes-append (little_endian 1 (length map)) map (number_bytes 1 (length map)) (name_bytes map (and_parts (nat_le 1 (length map) && nat_le (length map) 128) (list_all is_ascii_graphic map) h).1)

key_fits : (key : List ℕ) → is_key key ≡ true → are_bytes (key_bytes key) ≡ true
key_fits key h = bytes-append (little_endian 2 (length key)) key (number_bytes 2 (length key)) (and_parts (nat_le 1 (length key) && nat_le (length key) 1024) (are_bytes key) h).1

value_fits : (value : List ℕ) → is_value value ≡ true → are_bytes (value_bytes value) ≡ true
value_fits value h = bytes-append (little_endian 4 (length value)) value (number_bytes 4 (length value)) (and_parts (nat_le (length value) 65536) (are_bytes value) h).1

optional_fits : (value : Option (List ℕ)) → is_written_value value ≡ true → are_bytes (optional_value_bytes value) ≡ true
optional_fits None h = refl
optional_fits (Some value) h = value_fits value h

row_bytes : (tag : ℕ) (map key : List ℕ) → is_byte tag ≡ true → is_row map key ≡ true → are_bytes ((tag ∷ map_name_bytes map) ++ key_bytes key) ≡ true
row_bytes tag map key t h =
    let both = and_parts (is_map_name map) (is_key key) h in
    bytes-append (tag ∷ map_name_bytes map) (key_bytes key) (and_from (is_byte tag) (are_bytes (map_name_bytes map)) t (map_fits map both.0)) (key_fits key both.1)

operation_fits : (o : Operation) → is_operation o ≡ true → are_bytes (operation_bytes o) ≡ true
operation_fits (Get map key) h = row_bytes 1 map key refl h
operation_fits (Has map key) h = row_bytes 2 map key refl h
operation_fits (Put map key value) h = let p = and_parts (is_row map key) (is_value value) h in bytes-append ((3 ∷ map_name_bytes map) ++ key_bytes key) (value_bytes value) (row_bytes 3 map key refl p.0) (value_fits value p.1)
operation_fits (Remove map key) h = row_bytes 4 map key refl h
operation_fits (Add map key amount) h = let p = and_parts (is_row map key) (is_u64 amount) h in bytes-append ((5 ∷ map_name_bytes map) ++ key_bytes key) (little_endian 8 amount) (row_bytes 5 map key refl p.0) (number_bytes 8 amount)
operation_fits (Check map key expected) h = let p = and_parts (is_row map key) (is_written_value expected) h in bytes-append ((6 ∷ map_name_bytes map) ++ key_bytes key) (optional_value_bytes expected) (row_bytes 6 map key refl p.0) (optional_fits expected p.1)
operation_fits (Follow map key target) h = let p = and_parts (is_row map key) (is_map_name target) h in bytes-append ((7 ∷ map_name_bytes map) ++ key_bytes key) (map_name_bytes target) (row_bytes 7 map key refl p.0) (map_fits target p.1)
operation_fits (Size map) h = and_from (is_byte 8) (are_bytes (map_name_bytes map)) refl (map_fits map h)

operations_fit : (os : List Operation) → list_all is_operation os ≡ true → are_bytes (flat_map operation_bytes os) ≡ true
operations_fit [] all = refl
operations_fit (o ∷ os) all =
    let both = and_parts (is_operation o) (list_all is_operation os) all in
    bytes-append (operation_bytes o) (flat_map operation_bytes os) (operation_fits o both.0) (operations_fit os both.1)

pub request_are_bytes : (q : List Operation) → is_request q ≡ true → are_bytes (request_bytes q) ≡ true
request_are_bytes q fits =
    bytes-append (little_endian 2 (length q)) (flat_map operation_bytes q) (number_bytes 2 (length q))
    (operations_fit q (and_parts (is_count (length q)) (list_all is_operation q) fits).1)
