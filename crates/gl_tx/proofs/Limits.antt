-- What a run writes is in order and within the limits of names, keys and values.
use Rattle.std.proofs.Common.{◌≡◌, ℕ, suc, ◌+◌, ◌^◌, nat_lt, List, [], ◌∷◌, length, Option, Some, None, Result, Ok, Err, Bool, true, false, ◌&&◌, ◌==◌, refl, sym, ap, subst, if◌then◌else◌}
use Rattle.std.specs.List.{list_all}
use Rattle.std.proofs.lemmas.Bool.{and_parts, and_from}
use Rattle.gl_base.specs.LittleEndian.{from_little_endian, little_endian}
use Rattle.gl_vmaps.specs.Name.{is_key, is_value}
use Rattle.gl_vmaps.specs.Writes.{is_write, is_written_value, is_ordered}
use Rattle.gl_vmaps.specs.declared.write.Write.{Write}
use Rattle.gl_vmaps.proofs.WriteLaws.{within-with_write}
use Rattle.gl_tx.specs.Request.{is_row, is_u64, is_operation}
use Rattle.gl_tx.specs.Run.{answer_only, answer_and_write, yes_or_no, value_or_none, sum_result, add_result, check_result, follow_result, bar_on, unless_barred, on_seen, perform_result, with_writes, with_answer, goes_on, run_from}
use Rattle.gl_vmaps.specs.Tables.{same_value}
use Rattle.gl_tx.specs.Sees.{Sees, has_key, seen_after}
use Rattle.gl_tx.specs.declared.performed.Performed.{Performed}
use Rattle.gl_tx.specs.declared.runs.Ran.{Ran}
use Rattle.gl_tx.specs.declared.request.Operation.{Operation}
use Rattle.gl_tx.specs.declared.request.Operation.TheVariants.{Get, Has, Put, Remove, Add, Check, Follow, Size}
use Rattle.gl_tx.specs.declared.request.Answer.{Answer}
use Rattle.gl_tx.specs.declared.request.Answer.TheVariants as answers
use Rattle.gl_tx.specs.declared.abort.Cause.{Cause}
use Rattle.gl_tx.specs.declared.abort.Cause.TheVariants as causes
use Rattle.gl_tx.specs.declared.abort.Abort.{Abort}
use Rattle.gl_tx.proofs.Values.{is_value-number}

abbrev MayFit : Option Write → Type 0
MayFit None = Unit {0}
MayFit (Some w) = is_write w ≡ true

abbrev Fits : Result Performed Cause → Type 0
Fits (Err cause) = Unit {0}
Fits (Ok done) = MayFit done.write

writing : (a : Answer) (map key : List ℕ) (value : Option (List ℕ)) → is_row map key ≡ true → is_written_value value ≡ true → Fits (answer_and_write a map key value)
writing a map key value row fits = and_from (is_row map key) (is_written_value value) row fits

summing : (map key : List ℕ) (sum : ℕ) → is_row map key ≡ true → Fits (sum_result map key sum)
summing map key sum row = go (nat_lt sum (2 ^ 64))
  where
    go : (b : Bool) → Fits (if b then answer_and_write (answers.Number sum) map key (Some (little_endian 8 sum)) else Err causes.Overflow)
    go true = writing (answers.Number sum) map key (Some (little_endian 8 sum)) row (is_value-number sum)
    go false = tt

adding : (map key : List ℕ) (amount : ℕ) (o : Option (List ℕ)) → is_row map key ≡ true → Fits (add_result map key amount o)
adding map key amount None row = summing map key amount row
adding map key amount (Some value) row = go (length value == 8)
  where
    go : (b : Bool) → Fits (if b then sum_result map key (from_little_endian value + amount) else Err causes.NotNumber)
    go true = summing map key (from_little_endian value + amount) row
    go false = tt

checking : (b : Bool) → Fits (check_result b)
checking true = tt
checking false = tt

following : (s : Sees) (target : List ℕ) (o : Option (List ℕ)) → Fits (follow_result s target o)
following s target None = tt
following s target (Some key) = go (is_key key)
  where
    go : (b : Bool) → Fits (if b then answer_only (value_or_none (s.value target key)) else Err causes.BadKey)
    go true = tt
    go false = tt

on_seen_fits : (s : Sees) (o : Operation) → is_operation o ≡ true → Fits (on_seen s o)
on_seen_fits s (Get map key) h = tt
on_seen_fits s (Has map key) h = tt
on_seen_fits s (Put map key value) h = let p = and_parts (is_row map key) (is_value value) h in writing answers.Done map key (Some value) p.0 p.1
on_seen_fits s (Remove map key) h = writing (yes_or_no (has_key s map key)) map key None h refl
on_seen_fits s (Add map key amount) h = let p = and_parts (is_row map key) (is_u64 amount) h in adding map key amount (s.value map key) p.0
on_seen_fits s (Check map key expected) h = checking (same_value expected (s.value map key))
on_seen_fits s (Follow map key target) h = following s target (s.value map key)
on_seen_fits s (Size map) h = tt

perform_fits : (o : Operation) (s : Sees) → is_operation o ≡ true → Fits (perform_result o s)
perform_fits o s h = go (bar_on o)
  where
    go : (b : Option Cause) → Fits (unless_barred b (on_seen s o))
    go None = on_seen_fits s o h
    go (Some cause) = tt

-- writes in order, each within the limits
abbrev pub AreWithin : List Write → Type 0
AreWithin ws = (is_ordered ws && list_all is_write ws) ≡ true

with_writes_fit : (ws : List Write) (o : Option Write) → AreWithin ws → MayFit o → AreWithin (with_writes ws o)
with_writes_fit ws None all one = all
with_writes_fit ws (Some w) all one = within-with_write ws w all one

with_answer_ok : (a : Answer) (r : Result Ran Abort) (ran : Ran) → with_answer a r ≡ Ok ran → (inner : Ran) × (r ≡ Ok inner) × (ran.writes ≡ inner.writes)
with_answer_ok a (Ok inner) ran e = (inner, refl, ap (λ (x : Ran). x.writes) (let p : ran ≡ record inner { reply = a ∷ inner.reply } = cc in p))
with_answer_ok a (Err abort) ran e = absurd (cc)

-- a run that begins with a set within the limits ends with one
pub run_from-fits : (n : ℕ) (os : List Operation) (s : Sees) (ws : List Write) (ran : Ran) → list_all is_operation os ≡ true → AreWithin ws → run_from n os s ws ≡ Ok ran → AreWithin ran.writes
run_from-fits n [] s ws ran ops all e = subst (λ (x : Ran). AreWithin x.writes) (let p : record { reply = []; writes = ws } ≡ ran = cc in p) all
run_from-fits n (o ∷ os) s ws ran ops all e =
    let both = and_parts (is_operation o) (list_all is_operation os) ops in
    go (perform_result o (seen_after s ws)) (perform_fits o (seen_after s ws) both.0) e (λ done. run_from-fits (suc n) os s (with_writes ws done.write))
  where
    go : (r : Result Performed Cause) → Fits r →
        goes_on n (λ done. run_from (suc n) os s (with_writes ws done.write)) r ≡ Ok ran →
        ((done : Performed) (inner : Ran) → list_all is_operation os ≡ true → AreWithin (with_writes ws done.write) →
        run_from (suc n) os s (with_writes ws done.write) ≡ Ok inner → AreWithin inner.writes) → AreWithin ran.writes
    go (Err cause) f h again = absurd (cc)
    go (Ok done) f h again =
        let inner = with_answer_ok done.answer (run_from (suc n) os s (with_writes ws done.write)) ran h in
        subst (λ (xs : List Write). AreWithin xs) (sym inner.2)
        (again done inner.0 (and_parts (is_operation o) (list_all is_operation os) ops).1 (with_writes_fit ws done.write all f) inner.1)
