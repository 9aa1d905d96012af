-- Reading operations one after another.
use Rattle.std.proofs.Common.{◌≡◌, ℕ, List, [], ◌∷◌, ◌++◌, Option, None, Some, Result, Ok, Err, refl, sym, ◌∙◌, ap, append_assoc, append-nil, length, ◌+◌}
use Rattle.gl_base.specs.Answers.{Fails}
use Rattle.gl_base.specs.Steps.{◌>>=◌}
use Rattle.gl_base.specs.declared.or_no_memory.OrNoMemory.{OrNoMemory}
use Rattle.gl_base.specs.declared.or_no_memory.OrNoMemory.TheVariants.{NoMemory, Fault}
use Rattle.gl_tx.specs.declared.request.Operation.{Operation}
use Rattle.gl_lines.specs.declared.fault.LineFault.{LineFault}
use Rattle.gl_lines.specs.declared.fault.LineFault.TheVariants.{NoReading}
use Rattle.gl_lines.specs.Operations.{groups_of, with_group, operation_of, operations_in, each_operation}
use Rattle.gl_lines.specs.Groups.{groups_after, group_before}

-- the operations that were read, and those to be read
abbrev pub with_operations : List Operation → Result (List Operation) LineFault → Result (List Operation) LineFault
with_operations prefix (Err fault) = Err fault
with_operations prefix (Ok operations) = Ok (prefix ++ operations)

pub with_no_operations : (r : Result (List Operation) LineFault) → with_operations [] r ≡ r
with_no_operations (Err fault) = refl
with_no_operations (Ok operations) = refl

-- an operation before others
abbrev pub before : Result Operation LineFault → Result (List Operation) LineFault → Result (List Operation) LineFault
before first others = first >>= λ operation. others >>= λ rest. Ok (operation ∷ rest)

before_none : (first : Result Operation LineFault) → before first (Err NoReading) ≡ Err NoReading
before_none (Err NoReading) = refl
before_none (Ok operation) = refl

one_more : (prefix : List Operation) (operation : Operation) (r : Result (List Operation) LineFault) →
    with_operations prefix (before (Ok operation) r) ≡ with_operations (prefix ++ operation ∷ []) r
one_more prefix operation (Err fault) = refl
one_more prefix operation (Ok operations) = ap Ok (sym (append_assoc prefix (operation ∷ []) operations))

each_before : (group : List (List ℕ)) (r : Option (List (List (List ℕ)))) →
    operations_in (with_group group r) ≡ before (operation_of group) (operations_in r)
unfolding each_operation
each_before group None = sym (before_none (operation_of group))
each_before group (Some others) = refl

-- the operations after a semicolon
abbrev pub operations_after : Option (List (List ℕ)) → Result (List Operation) LineFault
operations_after after = operations_in (groups_after after)

-- the first operation, and those after it
first_read : (words group : List (List ℕ)) (after : Option (List (List ℕ))) → groups_of words ≡ group_before group after →
    operations_after (Some words) ≡ before (operation_of group) (operations_after after)
first_read words group after e = ap operations_in e ∙ each_before group (groups_after after)

pub step : (R : Result (List Operation) LineFault) (prefix prefix' : List Operation) (words group : List (List ℕ)) (after : Option (List (List ℕ))) (operation : Operation) →
    groups_of words ≡ group_before group after → operation_of group ≡ Ok operation → prefix' ≡ prefix ++ operation ∷ [] →
    with_operations prefix (operations_after (Some words)) ≡ R → with_operations prefix' (operations_after after) ≡ R
step R prefix prefix' words group after operation e reads taken so_far =
    ap (λ (f : List Operation). with_operations f (operations_after after)) taken
    ∙ sym (one_more prefix operation (operations_after after))
    ∙ ap (λ (o : Result Operation LineFault). with_operations prefix (before o (operations_after after))) (sym reads)
    ∙ ap (with_operations prefix) (sym (first_read words group after e))
    ∙ so_far

pub stop_step : (stop : OrNoMemory LineFault) (R : Result (List Operation) LineFault) (prefix : List Operation) (words group : List (List ℕ)) (after : Option (List (List ℕ))) →
    groups_of words ≡ group_before group after → Fails stop (operation_of group) → with_operations prefix (operations_after (Some words)) ≡ R → Fails stop R
stop_step NoMemory R prefix words group after e stopped so_far = tt
stop_step (Fault fault) R prefix words group after e stopped so_far =
    sym so_far
    ∙ ap (with_operations prefix) (first_read words group after e)
    ∙ ap (λ (o : Result Operation LineFault). with_operations prefix (before o (operations_after after))) stopped

pub none_left : (R : Result (List Operation) LineFault) (prefix : List Operation) → with_operations prefix (operations_after None) ≡ R → R ≡ Ok prefix
unfolding each_operation
none_left R prefix so_far = sym so_far ∙ ap Ok (append-nil prefix)

-- how much is left
abbrev pub left_count : {A : Type 0} → Option (List A) → ℕ
left_count None = 0
left_count (Some words) = 1 + length words
