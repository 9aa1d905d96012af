-- What a request gives: its answers and its write set, or the first operation that fails, and why.
use Rattle.std.specs.Prelude.{ℕ, suc, ◌+◌, ◌^◌, List, [], ◌∷◌, Option, None, Some, Result, Ok, Err, Bool, true, false, not, ◌||◌, ◌==◌, length, nat_lt, if◌then◌else◌}
use Rattle.gl_base.specs.LittleEndian.{little_endian, from_little_endian}
use Rattle.gl_vmaps.specs.Name.{is_public, is_governance, is_internal, is_key}
use Rattle.gl_vmaps.specs.Tables.{Tables, same_bytes, same_value}
use Rattle.gl_vmaps.specs.Writes.{with_write}
use Rattle.gl_vmaps.specs.declared.write.Write.{Write}
use Rattle.gl_tx.specs.Sees.{Sees, sees_in, has_key, seen_after}
use Rattle.gl_tx.specs.declared.request.Operation.{Operation}
use Rattle.gl_tx.specs.declared.request.Operation.TheVariants.{Get, Has, Put, Remove, Add, Check, Follow, Size}
use Rattle.gl_tx.specs.declared.request.Answer.{Answer}
use Rattle.gl_tx.specs.declared.request.Answer.TheVariants as answers
use Rattle.gl_tx.specs.declared.abort.Cause.{Cause}
use Rattle.gl_tx.specs.declared.abort.Cause.TheVariants as causes
use Rattle.gl_tx.specs.declared.abort.Abort.{Abort}
use Rattle.gl_tx.specs.declared.performed.Performed.{Performed}
use Rattle.gl_tx.specs.declared.runs.Ran.{Ran}

-- An answer, and nothing written.
abbrev pub answer_only : Answer → Result Performed Cause
answer_only answer = Ok (record { answer = answer; write = None })

-- An answer, and a row set to a value or removed.
abbrev pub answer_and_write : Answer → List ℕ → List ℕ → Option (List ℕ) → Result Performed Cause
answer_and_write answer map key value = Ok (record {
  answer = answer;
  write = Some (record { map = map; key = key; value = value });
})

abbrev pub yes_or_no : Bool → Answer
yes_or_no true = answers.Yes
yes_or_no false = answers.No

abbrev pub value_or_none : Option (List ℕ) → Answer
value_or_none None = answers.None
value_or_none (Some value) = answers.Value value

-- The sum of a row's number and an amount, written in eight bytes, the lowest first. An absent row
-- counts as 0.
abbrev pub sum_result : List ℕ → List ℕ → ℕ → Result Performed Cause
sum_result map key sum =
    if nat_lt sum (2 ^ 64)
    then answer_and_write (answers.Number sum) map key (Some (little_endian 8 sum))
    else Err causes.Overflow

abbrev pub add_result : List ℕ → List ℕ → ℕ → Option (List ℕ) → Result Performed Cause
add_result map key amount None = sum_result map key amount
add_result map key amount (Some value) =
    if length value == 8 then sum_result map key (from_little_endian value + amount)
    else Err causes.NotNumber

abbrev pub check_result : Bool → Result Performed Cause
check_result true = answer_only answers.Done
check_result false = Err causes.Check

-- A value that is got as a key of another map. An absent value gives none, and one that is no key
-- fails.
abbrev pub follow_result : Sees → List ℕ → Option (List ℕ) → Result Performed Cause
follow_result sees target None = answer_only answers.None
follow_result sees target (Some key) =
    if is_key key then answer_only (value_or_none (sees.value target key)) else Err causes.BadKey

-- Why no request may name a map, if there is a reason: it isn't public, or it is a table of
-- governance or of the service itself.
abbrev pub bar_on_map : List ℕ → Option Cause
bar_on_map map =
    if not (is_public map) then Some causes.NotPublic
    else (if is_governance map || is_internal map then Some causes.Reserved else None)

-- Why an operation may not be: the reason of the first map that it names and no request may.
abbrev pub bar_on_either : Option Cause → Option Cause → Option Cause
bar_on_either None second = second
bar_on_either (Some cause) second = Some cause

abbrev pub bar_on : Operation → Option Cause
bar_on (Get map key) = bar_on_map map
bar_on (Has map key) = bar_on_map map
bar_on (Put map key value) = bar_on_map map
bar_on (Remove map key) = bar_on_map map
bar_on (Add map key amount) = bar_on_map map
bar_on (Check map key expected) = bar_on_map map
bar_on (Follow map key target) = bar_on_either (bar_on_map map) (bar_on_map target)
bar_on (Size map) = bar_on_map map

-- What one operation gives on what it sees, where it may be, or why it fails. A put writes also
-- where the value is equal, a removal also where nothing was there.
abbrev pub on_seen : Sees → Operation → Result Performed Cause
on_seen sees (Get map key) = answer_only (value_or_none (sees.value map key))
on_seen sees (Has map key) = answer_only (yes_or_no (has_key sees map key))
on_seen sees (Put map key value) = answer_and_write answers.Done map key (Some value)
on_seen sees (Remove map key) = answer_and_write (yes_or_no (has_key sees map key)) map key None
on_seen sees (Add map key amount) = add_result map key amount (sees.value map key)
on_seen sees (Check map key expected) = check_result (same_value expected (sees.value map key))
on_seen sees (Follow map key target) = follow_result sees target (sees.value map key)
on_seen sees (Size map) = answer_only (answers.Number (sees.size map))

abbrev pub unless_barred : Option Cause → Result Performed Cause → Result Performed Cause
unless_barred None done = done
unless_barred (Some cause) done = Err cause

-- What one operation gives, or why it fails.
abbrev pub perform_result : Operation → Sees → Result Performed Cause
perform_result operation sees = unless_barred (bar_on operation) (on_seen sees operation)

-- A write set with one more write, where there is one.
abbrev pub with_writes : List Write → Option Write → List Write
with_writes ws None = ws
with_writes ws (Some w) = with_write ws w

-- The answer of an operation before those of the operations after it, unless one of these fails.
abbrev pub with_answer : Answer → Result Ran Abort → Result Ran Abort
with_answer answer (Ok ran) = Ok (record ran { reply = answer ∷ ran.reply })
with_answer answer (Err abort) = Err abort

-- What a request gives from an operation on: why that operation fails, or its answer and what the
-- rest gives.
abbrev pub goes_on : ℕ → (Performed → Result Ran Abort) → Result Performed Cause → Result Ran Abort
goes_on number rest (Err cause) = Err (record { operation = number; cause = cause })
goes_on number rest (Ok done) = with_answer done.answer (rest done)

-- The operations from the one with this number on, in order, each after what earlier ones wrote.
abbrev pub run_from : ℕ → List Operation → Sees → List Write → Result Ran Abort
run_from number [] sees ws = Ok (record { reply = []; writes = ws })
run_from number (operation ∷ operations) sees ws =
    goes_on number (λ done. run_from (suc number) operations sees (with_writes ws done.write))
    (perform_result operation (seen_after sees ws))

-- What a request gives on what it sees: it is aborted by its first operation that fails, counted
-- from 1.
abbrev pub run_seeing : List Operation → Sees → Result Ran Abort
run_seeing operations sees = run_from 1 operations sees []

-- What a request gives on a finite map.
abbrev pub run : List Operation → Tables → Result Ran Abort
run operations tables = run_seeing operations (sees_in tables)
