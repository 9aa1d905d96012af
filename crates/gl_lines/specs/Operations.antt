-- The operations of a request, as words.
use Rattle.std.specs.Prelude.{ℕ, zero, suc, List, [], ◌∷◌, ◌++◌, Option, None, Some, Result, Ok, Err, Bool, ◌||◌, codes, if◌then◌else◌}
use Rattle.gl_base.specs.Steps.{◌>>=◌}
use Rattle.gl_vmaps.specs.Name.{is_map_name, is_key, is_value}
use Rattle.gl_tx.specs.declared.request.Operation.{Operation}
use Rattle.gl_tx.specs.declared.request.Operation.TheVariants as operations
use Rattle.gl_lines.specs.declared.fault.LineFault.{LineFault}
use Rattle.gl_lines.specs.declared.fault.LineFault.TheVariants.{NoReading}
use Rattle.gl_lines.specs.Numbers.{amount_of}
use Rattle.gl_lines.specs.Words.{is, hex_bytes, value_bytes}

-- Names, keys and values

-- Bytes that pass a test.
abbrev pub only_if : (List ℕ → Bool) → List ℕ → Result (List ℕ) LineFault
only_if is_valid bytes = if is_valid bytes then Ok bytes else Err NoReading

abbrev pub map_of : List ℕ → Result (List ℕ) LineFault
map_of word = only_if is_map_name word

unfoldable pub key_of : List ℕ → Result (List ℕ) LineFault
key_of word = hex_bytes word >>= λ bytes. only_if is_key bytes

unfoldable pub value_of : List ℕ → Result (List ℕ) LineFault
value_of word = value_bytes word >>= λ bytes. only_if is_value bytes

-- A value, or a hyphen for none.
unfoldable pub expected_of : List ℕ → Result (Option (List ℕ)) LineFault
expected_of word =
    if is word (codes "-") then Ok None else (value_of word >>= λ value. Ok (Some value))

-- Operations

unfoldable pub row_of : List ℕ → List ℕ → Result (List ℕ × List ℕ) LineFault
row_of map key = map_of map >>= λ m. key_of key >>= λ k. Ok (m, k)

unfoldable pub put_of : List ℕ → List ℕ → List ℕ → Result Operation LineFault
put_of map key value =
    row_of map key >>= λ row. value_of value >>= λ v. Ok (operations.Put row.0 row.1 v)

unfoldable pub add_of : List ℕ → List ℕ → List ℕ → Result Operation LineFault
add_of map key amount =
    row_of map key >>= λ row. amount_of amount >>= λ n. Ok (operations.Add row.0 row.1 n)

unfoldable pub check_of : List ℕ → List ℕ → List ℕ → Result Operation LineFault
check_of map key expected =
    row_of map key >>= λ row. expected_of expected >>= λ e. Ok (operations.Check row.0 row.1 e)

unfoldable pub follow_of : List ℕ → List ℕ → List ℕ → Result Operation LineFault
follow_of map key target =
    row_of map key >>= λ row. map_of target >>= λ t. Ok (operations.Follow row.0 row.1 t)

-- How many words stand after the name of an operation.
abbrev pub arity : List ℕ → Option ℕ
arity name =
    if is name (codes "get") || is name (codes "has") || is name (codes "remove") then Some 2
    else (if is name (codes "put") || is name (codes "add") || is name (codes "check")
    || is name (codes "follow") then Some 3
    else (if is name (codes "size") then Some 1 else None))

abbrev pub operation_of_two : List ℕ → List ℕ × List ℕ → Result Operation LineFault
operation_of_two name row =
    if is name (codes "get") then Ok (operations.Get row.0 row.1)
    else (if is name (codes "has") then Ok (operations.Has row.0 row.1)
    else (if is name (codes "remove") then Ok (operations.Remove row.0 row.1) else Err NoReading))

abbrev pub operation_of_three : List ℕ → List ℕ → List ℕ → List ℕ → Result Operation LineFault
operation_of_three name map key last =
    if is name (codes "put") then put_of map key last
    else (if is name (codes "add") then add_of map key last
    else (if is name (codes "check") then check_of map key last
    else (if is name (codes "follow") then follow_of map key last else Err NoReading)))

abbrev pub size_of : List ℕ → List ℕ → Result Operation LineFault
size_of name map =
    if is name (codes "size") then (map_of map >>= λ m. Ok (operations.Size m)) else Err NoReading

-- The operation of a name and the words after it.
unfoldable pub operation_of : List (List ℕ) → Result Operation LineFault
operation_of (name ∷ map ∷ []) = size_of name map
operation_of (name ∷ map ∷ key ∷ []) = row_of map key >>= operation_of_two name
operation_of (name ∷ map ∷ key ∷ last ∷ []) = operation_of_three name map key last
operation_of words = Err NoReading

-- The words of an operation before those of others.
abbrev pub with_group : List (List ℕ) → Option (List (List (List ℕ))) →
    Option (List (List (List ℕ)))
with_group group None = None
with_group group (Some others) = Some (group ∷ others)

-- The words of operations, operation by operation: each has as many as its name asks for, and a
-- semicolon stands between two. So a map may be named by a semicolon. The first argument is the
-- operation's words so far, the second how many it still asks for.
abbrev pub groups : List (List ℕ) → Option ℕ → List (List ℕ) → Option (List (List (List ℕ)))
groups so_far None words = None
groups so_far (Some zero) [] = Some (so_far ∷ [])
groups so_far (Some (suc more)) [] = None
groups so_far (Some zero) (semicolon ∷ []) = None
groups so_far (Some zero) (semicolon ∷ name ∷ words) =
    if is semicolon (codes ";") then
    with_group so_far (groups (name ∷ []) (arity name) words)
    else None
groups so_far (Some (suc more)) (word ∷ words) = groups (so_far ++ word ∷ []) (Some more) words

abbrev pub groups_of : List (List ℕ) → Option (List (List (List ℕ)))
groups_of [] = None
groups_of (name ∷ words) = groups (name ∷ []) (arity name) words

unfoldable pub each_operation : List (List (List ℕ)) → Result (List Operation) LineFault
each_operation [] = Ok []
each_operation (words ∷ rest) =
    operation_of words >>= λ first. each_operation rest >>= λ others. Ok (first ∷ others)

abbrev pub operations_in : Option (List (List (List ℕ))) → Result (List Operation) LineFault
operations_in None = Err NoReading
operations_in (Some groups) = each_operation groups

unfoldable pub operations_of : List (List ℕ) → Result (List Operation) LineFault
operations_of words = operations_in (groups_of words)
