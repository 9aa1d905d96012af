-- Requests and replies read from bytes, and the first fault.
use Rattle.std.specs.Prelude.{ℕ, zero, suc, List, [], ◌∷◌, Result, Ok, Err, ◌==◌, if◌then◌else◌}
use Rattle.gl_base.specs.Steps.{◌>>=◌}
use Rattle.gl_base.specs.Cut.{Unread, number_at}
use Rattle.gl_base.specs.Code.{field, whole}
use Rattle.gl_base.specs.Row.{map_name_at, key_at, value_at, optional_value_at}
use Rattle.gl_base.specs.declared.fault.CodeFault.{CodeFault}
use Rattle.gl_base.specs.declared.fault.CodeFault.TheVariants as faults
use Rattle.gl_vmaps.specs.Name.{value_limit}
use Rattle.gl_tx.specs.Request.{is_count}
use Rattle.gl_tx.specs.declared.request.Operation.{Operation}
use Rattle.gl_tx.specs.declared.request.Operation.TheVariants.{Get, Has, Put, Remove, Add, Check, Follow, Size}
use Rattle.gl_tx.specs.declared.request.Answer.{Answer}
use Rattle.gl_tx.specs.declared.request.Answer.TheVariants as answers

-- A map and a key, which most operations begin with.
unfoldable pub row_at : Unread → Result ((List ℕ × List ℕ) × Unread) CodeFault
row_at unread = do
  map ← map_name_at unread
  key ← key_at map.1
  Ok ((map.0, key.0), key.1)

unfoldable pub get_at : Unread → Result (Operation × Unread) CodeFault
get_at unread = row_at unread >>= λ row. Ok (Get row.0.0 row.0.1, row.1)

unfoldable pub has_at : Unread → Result (Operation × Unread) CodeFault
has_at unread = row_at unread >>= λ row. Ok (Has row.0.0 row.0.1, row.1)

unfoldable pub put_at : Unread → Result (Operation × Unread) CodeFault
put_at unread = do
  row ← row_at unread
  value ← value_at value_limit row.1
  Ok (Put row.0.0 row.0.1 value.0, value.1)

unfoldable pub remove_at : Unread → Result (Operation × Unread) CodeFault
remove_at unread = row_at unread >>= λ row. Ok (Remove row.0.0 row.0.1, row.1)

unfoldable pub add_at : Unread → Result (Operation × Unread) CodeFault
add_at unread = do
  row ← row_at unread
  amount ← field (number_at 8 row.1)
  Ok (Add row.0.0 row.0.1 amount.0, amount.1)

unfoldable pub check_at : Unread → Result (Operation × Unread) CodeFault
check_at unread = do
  row ← row_at unread
  expected ← optional_value_at value_limit row.1
  Ok (Check row.0.0 row.0.1 expected.0, expected.1)

unfoldable pub follow_at : Unread → Result (Operation × Unread) CodeFault
follow_at unread = do
  row ← row_at unread
  target ← map_name_at row.1
  Ok (Follow row.0.0 row.0.1 target.0, target.1)

unfoldable pub size_at : Unread → Result (Operation × Unread) CodeFault
size_at unread = map_name_at unread >>= λ map. Ok (Size map.0, map.1)

-- What stands after a tag; the tag's place is told where it is none.
abbrev pub operation_after : ℕ → ℕ × Unread → Result (Operation × Unread) CodeFault
operation_after place tag =
    if tag.0 == 1 then get_at tag.1
    else (if tag.0 == 2 then has_at tag.1
    else (if tag.0 == 3 then put_at tag.1
    else (if tag.0 == 4 then remove_at tag.1
    else (if tag.0 == 5 then add_at tag.1
    else (if tag.0 == 6 then check_at tag.1
    else (if tag.0 == 7 then follow_at tag.1
    else (if tag.0 == 8 then size_at tag.1
    else Err (faults.Value place))))))))

unfoldable pub operation_at : Unread → Result (Operation × Unread) CodeFault
operation_at unread = field (number_at 1 unread) >>= operation_after unread.at

-- So many operations, one after the other.
unfoldable pub operations_at : ℕ → Unread → Result (List Operation × Unread) CodeFault
operations_at zero unread = Ok ([], unread)
operations_at (suc count) unread = do
  first ← operation_at unread
  rest ← operations_at count first.1
  Ok (first.0 ∷ rest.0, rest.1)

-- A count from 1 to 64; its place is told where it is another.
abbrev pub count_result : ℕ → ℕ × Unread → Result (ℕ × Unread) CodeFault
count_result place count = if is_count count.0 then Ok count else Err (faults.Value place)

unfoldable pub count_at : Unread → Result (ℕ × Unread) CodeFault
count_at unread = field (number_at 2 unread) >>= count_result unread.at

unfoldable pub request_at : Unread → Result (List Operation × Unread) CodeFault
request_at unread = count_at unread >>= λ count. operations_at count.0 count.1

-- The request that bytes encode, all of them, or the first fault.
abbrev pub request_of : List ℕ → Result (List Operation) CodeFault
request_of bytes = whole request_at bytes

abbrev pub value_answer_at : Unread → Result (Answer × Unread) CodeFault
value_answer_at unread =
    value_at value_limit unread >>= λ value. Ok (answers.Value value.0, value.1)

abbrev pub number_answer_at : Unread → Result (Answer × Unread) CodeFault
number_answer_at unread =
    field (number_at 8 unread) >>= λ number. Ok (answers.Number number.0, number.1)

abbrev pub answer_after : ℕ → ℕ × Unread → Result (Answer × Unread) CodeFault
answer_after place tag =
    if tag.0 == 0 then Ok (answers.Done, tag.1)
    else (if tag.0 == 1 then Ok (answers.None, tag.1)
    else (if tag.0 == 2 then value_answer_at tag.1
    else (if tag.0 == 3 then Ok (answers.No, tag.1)
    else (if tag.0 == 4 then Ok (answers.Yes, tag.1)
    else (if tag.0 == 5 then number_answer_at tag.1
    else Err (faults.Value place))))))

unfoldable pub answer_at : Unread → Result (Answer × Unread) CodeFault
answer_at unread = field (number_at 1 unread) >>= answer_after unread.at

unfoldable pub answers_at : ℕ → Unread → Result (List Answer × Unread) CodeFault
answers_at zero unread = Ok ([], unread)
answers_at (suc count) unread = do
  first ← answer_at unread
  rest ← answers_at count first.1
  Ok (first.0 ∷ rest.0, rest.1)

unfoldable pub reply_at : Unread → Result (List Answer × Unread) CodeFault
reply_at unread = count_at unread >>= λ count. answers_at count.0 count.1

-- The reply that bytes encode, all of them, or the first fault.
abbrev pub reply_of : List ℕ → Result (List Answer) CodeFault
reply_of bytes = whole reply_at bytes
