-- Reading one after the other, as a loop does.
use Rattle.std.proofs.Common.{◌≡◌, ℕ, suc, ◌-◌, ◌+◌, ◌≤◌, ◌<◌, List, [], ◌∷◌, ◌++◌, length, Option, Some, Result, Ok, Err, refl, sym, ap, ◌∙◌, append_assoc, length-append, arith}
use Rattle.std.specs.List.{slice_get}
use Rattle.std.proofs.lemmas.List.{append-nil}
use Rattle.std.proofs.lemmas.Option.{slice_get-get_or}
use Rattle.std.proofs.Math.Seq.{get_or-append_seam}
use Rattle.gl_base.specs.Steps.{◌>>=◌}
use Rattle.gl_base.specs.Cut.{Unread}
use Rattle.gl_base.specs.declared.fault.CodeFault.{CodeFault}
use Rattle.gl_base.specs.declared.or_no_memory.OrNoMemory.{OrNoMemory}
use Rattle.gl_base.specs.declared.or_no_memory.OrNoMemory.TheVariants as errors
use Rattle.gl_base.specs.Answers.{Fails}
use Rattle.gl_base.proofs.Repeated.{with_prefix}
use Rattle.gl_snapshot_body.specs.Parsing.{repeated_at}

-- the last of a list, if there is one
abbrev pub last_of : {X : Type 0} → List X → Option X
last_of xs = slice_get xs (length xs - 1)

last_of-push : {X : Type 0} (xs : List X) (x : X) → last_of (xs ++ x ∷ []) ≡ Some x
last_of-push {X} xs x =
    let long : length (xs ++ x ∷ []) ≡ length xs + 1 = length-append xs (x ∷ []) in
    let place : length (xs ++ x ∷ []) - 1 ≡ length xs = omega arith in
    let within : length xs < length (xs ++ x ∷ []) = omega arith in
    ap (slice_get (xs ++ x ∷ [])) place ∙ slice_get-get_or (xs ++ x ∷ []) (length xs) x within ∙ ap (λ (y : X). Some y) (get_or-append_seam xs x [] x)

-- How one is read after an earlier one.
abbrev pub Next : Type 0 → Type 0
Next X = Option X → Unread → Result (X × Unread) CodeFault

regroup : {X : Type 0} (prefix : List X) (x : X) (read : Result (List X × Unread) CodeFault)
    → with_prefix prefix (read >>= λ rest. Ok (x ∷ rest.0, rest.1)) ≡ with_prefix (prefix ++ x ∷ []) read
regroup {X} prefix x (Ok rest) = ap (λ (xs : List X). Ok (xs, rest.1)) (sym (append_assoc prefix (x ∷ []) rest.0))
regroup prefix x (Err fault) = refl

-- what was read before, and what is still read after its last
abbrev pub suffix : {X : Type 0} → Next X → List X → ℕ → ℕ → Unread → Result (List X × Unread) CodeFault
suffix one prefix count i unread = with_prefix prefix (repeated_at one (last_of prefix) (count - i) unread)

pub goes_on : {X : Type 0} (one : Next X) (prefix : List X) (count i : ℕ) (old new : Unread) (x : X) (total : Result (List X × Unread) CodeFault) → i < count → one (last_of prefix) old ≡ Ok (x, new)
    → suffix one prefix count i old ≡ total → suffix one (prefix ++ x ∷ []) count (i + 1) new ≡ total
unfolding repeated_at
goes_on {X} one prefix count i old new x total lt read so_far =
    let k : count - i ≡ suc (count - (i + 1)) = omega arith in
    let last : Some x ≡ last_of (prefix ++ x ∷ []) = sym (last_of-push prefix x) in
    let turn : suffix one prefix count i old ≡ suffix one (prefix ++ x ∷ []) count (i + 1) new =
    rw (k, read, last) (regroup prefix x (repeated_at one (last_of (prefix ++ x ∷ [])) (count - (i + 1)) new)) in
    sym turn ∙ so_far

pub ends : {X : Type 0} (one : Next X) (e : OrNoMemory CodeFault) (prefix : List X) (count i : ℕ) (old : Unread) (total : Result (List X × Unread) CodeFault) → i < count → Fails e (one (last_of prefix) old)
    → suffix one prefix count i old ≡ total → Fails e total
unfolding repeated_at
ends one errors.NoMemory prefix count i old total lt failed so_far = tt
ends one (errors.Fault fault) prefix count i old total lt failed so_far =
    let k : count - i ≡ suc (count - (i + 1)) = omega arith in
    let turn : suffix one prefix count i old ≡ Err fault = rw (k, failed) refl in
    sym so_far ∙ turn

pub is_done : {X : Type 0} (one : Next X) (prefix : List X) (count i : ℕ) (old : Unread) (total : Result (List X × Unread) CodeFault) → count ≤ i → suffix one prefix count i old ≡ total → total ≡ Ok (prefix, old)
unfolding repeated_at
is_done {X} one prefix count i old total le so_far =
    let k : count - i ≡ 0 = omega arith in
    let turn : suffix one prefix count i old ≡ Ok (prefix, old) = rw k (ap (λ (xs : List X). Ok (xs, old)) (append-nil prefix)) in
    sym so_far ∙ turn
