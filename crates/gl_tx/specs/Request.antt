-- What an application asks of the tables, and what it is answered: which lists of operations are
-- requests, which lists of answers are replies, and the bytes of both.
use Rattle.std.specs.Prelude.{ℕ, ◌^◌, List, [], ◌∷◌, ◌++◌, Bool, true, ◌&&◌, length, nat_le, nat_lt}
use Rattle.std.specs.List.{flat_map, list_all}
use Rattle.gl_base.specs.LittleEndian.{little_endian}
use Rattle.gl_base.specs.Row.{map_name_bytes, key_bytes, value_bytes, optional_value_bytes}
use Rattle.gl_vmaps.specs.Name.{is_map_name, is_key, is_value}
use Rattle.gl_vmaps.specs.Writes.{is_written_value}
use Rattle.gl_tx.specs.declared.request.Operation.{Operation}
use Rattle.gl_tx.specs.declared.request.Operation.TheVariants.{Get, Has, Put, Remove, Add, Check, Follow, Size}
use Rattle.gl_tx.specs.declared.request.Answer.{Answer}
use Rattle.gl_tx.specs.declared.request.Answer.TheVariants as answers

-- A number of 64 bits.
abbrev pub is_u64 : ℕ → Bool
is_u64 n = nat_lt n (2 ^ 64)

abbrev pub is_row : List ℕ → List ℕ → Bool
is_row map key = is_map_name map && is_key key

-- An operation within the limits of names, keys, values and numbers.
abbrev pub is_operation : Operation → Bool
is_operation (Get map key) = is_row map key
is_operation (Has map key) = is_row map key
is_operation (Put map key value) = is_row map key && is_value value
is_operation (Remove map key) = is_row map key
is_operation (Add map key amount) = is_row map key && is_u64 amount
is_operation (Check map key expected) = is_row map key && is_written_value expected
is_operation (Follow map key target) = is_row map key && is_map_name target
is_operation (Size map) = is_map_name map

-- A request has 1 to 64 operations, and a reply as many answers.
abbrev pub is_count : ℕ → Bool
is_count n = nat_le 1 n && nat_le n 64

abbrev pub is_request : List Operation → Bool
is_request operations = is_count (length operations) && list_all is_operation operations

abbrev pub is_answer : Answer → Bool
is_answer answers.Done = true
is_answer answers.None = true
is_answer (answers.Value value) = is_value value
is_answer answers.No = true
is_answer answers.Yes = true
is_answer (answers.Number number) = is_u64 number

abbrev pub is_reply : List Answer → Bool
is_reply answers = is_count (length answers) && list_all is_answer answers

-- The bytes of an operation: its tag, then its fields.
abbrev pub operation_bytes : Operation → List ℕ
operation_bytes (Get map key) = (1 ∷ map_name_bytes map) ++ key_bytes key
operation_bytes (Has map key) = (2 ∷ map_name_bytes map) ++ key_bytes key
operation_bytes (Put map key value) =
    (3 ∷ map_name_bytes map) ++ key_bytes key ++ value_bytes value
operation_bytes (Remove map key) = (4 ∷ map_name_bytes map) ++ key_bytes key
operation_bytes (Add map key amount) =
    (5 ∷ map_name_bytes map) ++ key_bytes key ++ little_endian 8 amount
operation_bytes (Check map key expected) =
    (6 ∷ map_name_bytes map) ++ key_bytes key ++ optional_value_bytes expected
operation_bytes (Follow map key target) =
    (7 ∷ map_name_bytes map) ++ key_bytes key ++ map_name_bytes target
operation_bytes (Size map) = 8 ∷ map_name_bytes map

-- The bytes of a request: its count of operations, then each of them.
abbrev pub request_bytes : List Operation → List ℕ
request_bytes operations =
    little_endian 2 (length operations) ++ flat_map operation_bytes operations

-- The bytes of an answer: its tag, then the value or the number.
abbrev pub answer_bytes : Answer → List ℕ
answer_bytes answers.Done = 0 ∷ []
answer_bytes answers.None = 1 ∷ []
answer_bytes (answers.Value value) = 2 ∷ value_bytes value
answer_bytes answers.No = 3 ∷ []
answer_bytes answers.Yes = 4 ∷ []
answer_bytes (answers.Number number) = 5 ∷ little_endian 8 number

-- The bytes of a reply: its count of answers, then each of them.
abbrev pub reply_bytes : List Answer → List ℕ
reply_bytes answers = little_endian 2 (length answers) ++ flat_map answer_bytes answers
