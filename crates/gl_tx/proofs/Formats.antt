-- Requests and replies: what is encoded so is read, what is read is encoded so, and how long the
-- encoding is.
use Rattle.std.proofs.Common.{◌≡◌, ℕ, ◌+◌, ◌^◌, ◌<◌, ◌≤◌, true, ◌&&◌, nat_le, List, ◌++◌, length, Option, None, Some, Ok, length-append, arith}
use Rattle.std.specs.List.{list_all}
use Rattle.std.proofs.lemmas.Bool.{and_parts, leb-true}
use Rattle.gl_base.specs.LittleEndian.{little_endian}
use Rattle.std.specs.Char.{is_ascii_graphic}
use Rattle.gl_base.proofs.LittleEndianLaws.{length-little_endian}
use Rattle.gl_vmaps.specs.Name.{are_bytes, is_map_name, is_key, is_value}
use Rattle.gl_vmaps.specs.Writes.{is_written_value}
use Rattle.gl_base.specs.Row.{map_name_bytes, key_bytes, value_bytes, optional_value_bytes}
use Rattle.gl_base.proofs.ByteLists.{AreBytes}
use Rattle.gl_tx.specs.Request.{is_row, is_u64, is_operation, is_request, is_answer, is_reply, operation_bytes, request_bytes, answer_bytes, reply_bytes}
use Rattle.gl_tx.specs.Parsing.{request_at, request_of, reply_at, reply_of}
use Rattle.gl_tx.specs.declared.request.Operation.{Operation}
use Rattle.gl_tx.specs.declared.request.Operation.TheVariants.{Get, Has, Put, Remove, Add, Check, Follow, Size}
use Rattle.gl_tx.specs.declared.request.Answer.{Answer}
use Rattle.gl_tx.specs.declared.request.Answer.TheVariants as answers
use Rattle.gl_base.proofs.ParsedBytes.{IsEncoded, IsRead, whole-encoded, whole-read}
use Rattle.gl_tx.proofs.Counted.{counted-encoded, counted-read, length-counted_bytes-le}
use Rattle.gl_tx.proofs.Operations.{operations_repeat, operation-encoded, operation-read}
use Rattle.gl_tx.proofs.Replies.{answers_repeat, answer-encoded, answer-read}

-- ---- both ways

pub request_at-encoded : IsEncoded request_at request_bytes is_request
unfolding request_at
request_at-encoded = counted-encoded operations_repeat operation_bytes is_operation operation-encoded

request_at-read : IsRead request_at request_bytes is_request
unfolding request_at
request_at-read = counted-read operations_repeat operation_bytes is_operation operation-read

pub request-encoded : (bytes : List ℕ) (operations : List Operation) → AreBytes bytes → request_of bytes ≡ Ok operations → (is_request operations ≡ true) × (bytes ≡ request_bytes operations)
request-encoded = whole-encoded request_at request_bytes is_request request_at-encoded

pub request-read : (operations : List Operation) → is_request operations ≡ true → request_of (request_bytes operations) ≡ Ok operations
request-read = whole-read request_at request_bytes is_request request_at-read

pub reply_at-encoded : IsEncoded reply_at reply_bytes is_reply
unfolding reply_at
reply_at-encoded = counted-encoded answers_repeat answer_bytes is_answer answer-encoded

reply_at-read : IsRead reply_at reply_bytes is_reply
unfolding reply_at
reply_at-read = counted-read answers_repeat answer_bytes is_answer answer-read

pub reply-encoded : (bytes : List ℕ) (answers : List Answer) → AreBytes bytes → reply_of bytes ≡ Ok answers → (is_reply answers ≡ true) × (bytes ≡ reply_bytes answers)
reply-encoded = whole-encoded reply_at reply_bytes is_reply reply_at-encoded

pub reply-read : (answers : List Answer) → is_reply answers ≡ true → reply_of (reply_bytes answers) ≡ Ok answers
reply-read = whole-read reply_at reply_bytes is_reply reply_at-read

-- ---- lengths

map_name_bytes-le : (map : List ℕ) → is_map_name map ≡ true → length (map_name_bytes map) ≤ 129
map_name_bytes-le map is =
    let counts = and_parts (nat_le 1 (length map) && nat_le (length map) 128) (list_all is_ascii_graphic map) is in
    let within = leb-true (length map) 128 (and_parts (nat_le 1 (length map)) (nat_le (length map) 128) counts.0).1 in
    omega (arith, length-append (little_endian 1 (length map)) map, length-little_endian 1 (length map))

key_bytes-le : (key : List ℕ) → is_key key ≡ true → length (key_bytes key) ≤ 1026
key_bytes-le key is =
    let counts = and_parts (nat_le 1 (length key) && nat_le (length key) 1024) (are_bytes key) is in
    let within = leb-true (length key) 1024 (and_parts (nat_le 1 (length key)) (nat_le (length key) 1024) counts.0).1 in
    omega (arith, length-append (little_endian 2 (length key)) key, length-little_endian 2 (length key))

value_bytes-le : (value : List ℕ) → is_value value ≡ true → length (value_bytes value) ≤ 65540
value_bytes-le value is =
    let within = leb-true (length value) 65536 (and_parts (nat_le (length value) 65536) (are_bytes value) is).0 in
    omega (arith, length-append (little_endian 4 (length value)) value, length-little_endian 4 (length value))

optional_value_bytes-le : (value : Option (List ℕ)) → is_written_value value ≡ true → length (optional_value_bytes value) ≤ 65541
optional_value_bytes-le None is = omega arith
optional_value_bytes-le (Some value) is = omega (arith, value_bytes-le value is)

row_bytes-le : (map key : List ℕ) → is_row map key ≡ true → length (map_name_bytes map ++ key_bytes key) ≤ 1155
row_bytes-le map key is =
    let both = and_parts (is_map_name map) (is_key key) is in
    omega (arith, length-append (map_name_bytes map) (key_bytes key), map_name_bytes-le map both.0, key_bytes-le key both.1)

row_and_bytes-le : (map key field : List ℕ) (most : ℕ) → is_row map key ≡ true → length field ≤ most → length ((map_name_bytes map ++ key_bytes key) ++ field) ≤ 1155 + most
row_and_bytes-le map key field most is few =
    omega (arith, length-append (map_name_bytes map ++ key_bytes key) field, row_bytes-le map key is)

operation_bytes-le : (o : Operation) → is_operation o ≡ true → length (operation_bytes o) ≤ 66697
operation_bytes-le (Get map key) is = omega (arith, row_bytes-le map key is)
operation_bytes-le (Has map key) is = omega (arith, row_bytes-le map key is)
operation_bytes-le (Put map key value) is =
    let both = and_parts (is_row map key) (is_value value) is in
    omega (arith, row_and_bytes-le map key (value_bytes value) 65540 both.0 (value_bytes-le value both.1))
operation_bytes-le (Remove map key) is = omega (arith, row_bytes-le map key is)
operation_bytes-le (Add map key amount) is =
    let both = and_parts (is_row map key) (is_u64 amount) is in
    let eight : length (little_endian 8 amount) ≤ 8 = omega (arith, length-little_endian 8 amount) in
    omega (arith, row_and_bytes-le map key (little_endian 8 amount) 8 both.0 eight)
operation_bytes-le (Check map key expected) is =
    let both = and_parts (is_row map key) (is_written_value expected) is in
    omega (arith, row_and_bytes-le map key (optional_value_bytes expected) 65541 both.0 (optional_value_bytes-le expected both.1))
operation_bytes-le (Follow map key target) is =
    let both = and_parts (is_row map key) (is_map_name target) is in
    omega (arith, row_and_bytes-le map key (map_name_bytes target) 129 both.0 (map_name_bytes-le target both.1))
operation_bytes-le (Size map) is = omega (arith, map_name_bytes-le map is)

pub request_bytes-few : (operations : List Operation) → is_request operations ≡ true → length (request_bytes operations) < 2 ^ 32
request_bytes-few operations is =
    let most = length-counted_bytes-le operation_bytes is_operation 66697 operation_bytes-le operations is in
    omega (arith, most)

answer_bytes-le : (answer : Answer) → is_answer answer ≡ true → length (answer_bytes answer) ≤ 65541
answer_bytes-le answers.Done is = omega arith
answer_bytes-le answers.None is = omega arith
answer_bytes-le (answers.Value value) is = omega (arith, value_bytes-le value is)
answer_bytes-le answers.No is = omega arith
answer_bytes-le answers.Yes is = omega arith
answer_bytes-le (answers.Number number) is = omega (arith, length-little_endian 8 number)

pub reply_bytes-few : (answers : List Answer) → is_reply answers ≡ true → length (reply_bytes answers) < 2 ^ 32
reply_bytes-few answers is =
    let most = length-counted_bytes-le answer_bytes is_answer 65541 answer_bytes-le answers is in
    omega (arith, most)
