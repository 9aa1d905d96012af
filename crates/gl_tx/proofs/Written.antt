-- What a run writes: rows that its operations name, in maps that a request may name.
use Rattle.std.proofs.Common.{◌≡◌, ℕ, suc, ◌+◌, ◌^◌, nat_lt, List, [], ◌∷◌, Option, None, Some, Result, Ok, Err, Bool, true, false, not, ◌||◌, ◌==◌, refl, sym, ap, subst, cond, length}
use Rattle.std.specs.List.{AllByRecursion}
use Rattle.std.specs.declared.cmp.Ordering.{Ordering}
use Rattle.std.specs.declared.cmp.Ordering.TheVariants.{Less, Equal, Greater}
use Rattle.gl_base.specs.LittleEndian.{little_endian, from_little_endian}
use Rattle.gl_vmaps.specs.Name.{is_key, is_public, is_governance, is_internal}
use Rattle.gl_vmaps.specs.Writes.{write_order, put_before, with_write}
use Rattle.gl_vmaps.specs.declared.write.Write.{Write}
use Rattle.gl_tx.specs.Sees.{Sees, seen_after}
use Rattle.gl_tx.specs.Run.{answer_only, answer_and_write, value_or_none, sum_result, add_result, check_result, follow_result, bar_on_map, bar_on_either, bar_on, unless_barred, on_seen, perform_result, with_answer, goes_on, run_from, run_seeing, with_writes}
use Rattle.gl_vmaps.specs.Tables.{same_value}
use Rattle.gl_tx.specs.declared.performed.Performed.{Performed}
use Rattle.gl_tx.specs.declared.runs.Ran.{Ran}
use Rattle.gl_tx.specs.declared.abort.Abort.{Abort}
use Rattle.gl_tx.specs.declared.abort.Cause.{Cause}
use Rattle.gl_tx.specs.declared.abort.Cause.TheVariants as causes
use Rattle.gl_tx.specs.declared.request.Answer.{Answer}
use Rattle.gl_tx.specs.declared.request.Answer.TheVariants as answers
use Rattle.gl_tx.specs.declared.request.Operation.{Operation}
use Rattle.gl_tx.specs.declared.request.Operation.TheVariants.{Get, Has, Put, Remove, Add, Check, Follow, Size}

-- the row of a write: its map and its key
abbrev pub row_of : Write → List ℕ × List ℕ
row_of w = (w.map, w.key)

-- the row that an operation names, if it names one
abbrev pub own_row : Operation → Option (List ℕ × List ℕ)
own_row (Get map key) = Some (map, key)
own_row (Has map key) = Some (map, key)
own_row (Put map key value) = Some (map, key)
own_row (Remove map key) = Some (map, key)
own_row (Add map key amount) = Some (map, key)
own_row (Check map key expected) = Some (map, key)
own_row (Follow map key target) = Some (map, key)
own_row (Size map) = None

-- a write, if there is one, is to this row
abbrev pub IsTo : Option (List ℕ × List ℕ) → Option Write → Type 0
IsTo row None = Unit {0}
IsTo row (Some w) = row ≡ Some (row_of w)

abbrev pub WritesTo : Option (List ℕ × List ℕ) → Result Performed Cause → Type 0
WritesTo row (Err cause) = Unit {0}
WritesTo row (Ok done) = IsTo row done.write

own_sum : (map key : List ℕ) (sum : ℕ) → WritesTo (Some (map, key)) (sum_result map key sum)
own_sum map key sum = go (nat_lt sum (2 ^ 64))
  where
    go : (b : Bool) → WritesTo (Some (map, key)) (cond b (answer_and_write (answers.Number sum) map key (Some (little_endian 8 sum))) (Err causes.Overflow))
    go true = refl
    go false = tt

own_add : (map key : List ℕ) (amount : ℕ) (o : Option (List ℕ)) → WritesTo (Some (map, key)) (add_result map key amount o)
own_add map key amount None = own_sum map key amount
own_add map key amount (Some value) = go (length value == 8)
  where
    go : (b : Bool) → WritesTo (Some (map, key)) (cond b (sum_result map key (from_little_endian value + amount)) (Err causes.NotNumber))
    go true = own_sum map key (from_little_endian value + amount)
    go false = tt

own_check : (row : Option (List ℕ × List ℕ)) (b : Bool) → WritesTo row (check_result b)
own_check row true = tt
own_check row false = tt

own_follow : (row : Option (List ℕ × List ℕ)) (s : Sees) (target : List ℕ) (o : Option (List ℕ)) → WritesTo row (follow_result s target o)
own_follow row s target None = tt
own_follow row s target (Some key) = go (is_key key)
  where
    go : (b : Bool) → WritesTo row (cond b (answer_only (value_or_none (s.value target key))) (Err causes.BadKey))
    go true = tt
    go false = tt

on_seen-own : (s : Sees) (o : Operation) → WritesTo (own_row o) (on_seen s o)
on_seen-own s (Get map key) = tt
on_seen-own s (Has map key) = tt
on_seen-own s (Put map key value) = refl
on_seen-own s (Remove map key) = refl
on_seen-own s (Add map key amount) = own_add map key amount (s.value map key)
on_seen-own s (Check map key expected) = own_check (Some (map, key)) (same_value expected (s.value map key))
on_seen-own s (Follow map key target) = own_follow (Some (map, key)) s target (s.value map key)
on_seen-own s (Size map) = tt

-- an operation writes the row that it names, if it writes one
pub perform_result-own : (o : Operation) (s : Sees) → WritesTo (own_row o) (perform_result o s)
perform_result-own o s = go (bar_on o)
  where
    go : (b : Option Cause) → WritesTo (own_row o) (unless_barred b (on_seen s o))
    go None = on_seen-own s o
    go (Some cause) = tt

-- ---- and no request may write a map that none may name

-- a request may name the map of this write
abbrev pub MayName : Write → Type 0
MayName w = bar_on_map w.map ≡ None

-- the row, if there is one, is in such a map
abbrev MayHold : Option (List ℕ × List ℕ) → Type 0
MayHold None = Unit {0}
MayHold (Some row) = bar_on_map row.0 ≡ None

-- where an operation may be, its map may be named
may_name : (o : Operation) → bar_on o ≡ None → MayHold (own_row o)
may_name (Get map key) e = e
may_name (Has map key) e = e
may_name (Put map key value) e = e
may_name (Remove map key) e = e
may_name (Add map key amount) e = e
may_name (Check map key expected) e = e
may_name (Follow map key target) e = first (bar_on_map map) (bar_on_map target) e
  where
    first : (a b : Option Cause) → bar_on_either a b ≡ None → a ≡ None
    first None b is = refl
    first (Some cause) b is = absurd (cc)
may_name (Size map) e = tt

abbrev MayWrite : Option Write → Type 0
MayWrite None = Unit {0}
MayWrite (Some w) = MayName w

own_may : (row : Option (List ℕ × List ℕ)) (o : Option Write) → MayHold row → IsTo row o → MayWrite o
own_may row None may own = tt
own_may row (Some w) may own = subst MayHold own may

performed_may : (o : Operation) (s : Sees) (done : Performed) → perform_result o s ≡ Ok done → MayWrite done.write
performed_may o s done e = go (bar_on o) refl e
  where
    go : (b : Option Cause) → bar_on o ≡ b → unless_barred b (on_seen s o) ≡ Ok done → MayWrite done.write
    go None is h = own_may (own_row o) done.write (may_name o is) (subst (WritesTo (own_row o)) h (on_seen-own s o))
    go (Some cause) is h = absurd (cc)

put_before-may : (o : Ordering) (w x : Write) (xs rest : List Write) → MayName w → MayName x → AllByRecursion MayName xs → AllByRecursion MayName rest →
    AllByRecursion MayName (put_before o w x xs rest)
put_before-may Less w x xs rest a b c d = (a, (b, c))
put_before-may Equal w x xs rest a b c d = (a, c)
put_before-may Greater w x xs rest a b c d = (b, d)

with_write-may : (ws : List Write) (w : Write) → AllByRecursion MayName ws → MayName w → AllByRecursion MayName (with_write ws w)
with_write-may [] w all may = (may, tt)
with_write-may (x ∷ xs) w all may = put_before-may (write_order w x) w x xs (with_write xs w) may all.0 all.1 (with_write-may xs w all.1 may)

with_writes-may : (ws : List Write) (o : Option Write) → AllByRecursion MayName ws → MayWrite o → AllByRecursion MayName (with_writes ws o)
with_writes-may ws None all may = all
with_writes-may ws (Some w) all may = with_write-may ws w all may

with_answer-ok : (a : Answer) (r : Result Ran Abort) (ran : Ran) → with_answer a r ≡ Ok ran → (inner : Ran) × (r ≡ Ok inner) × (ran.writes ≡ inner.writes)
with_answer-ok a (Ok inner) ran e = (inner, refl, ap (λ (x : Ran). x.writes) (let p : ran ≡ record inner { reply = a ∷ inner.reply } = cc in p))
with_answer-ok a (Err abort) ran e = absurd (cc)

-- a run writes to maps alone that a request may name
pub run_from-may : (n : ℕ) (os : List Operation) (s : Sees) (ws : List Write) (ran : Ran) → AllByRecursion MayName ws → run_from n os s ws ≡ Ok ran → AllByRecursion MayName ran.writes
run_from-may n [] s ws ran all e = subst (λ (x : Ran). AllByRecursion MayName x.writes) (let p : record { reply = []; writes = ws } ≡ ran = cc in p) all
run_from-may n (o ∷ os) s ws ran all e = go (perform_result o (seen_after s ws)) refl e (λ done. run_from-may (suc n) os s (with_writes ws done.write))
  where
    go : (r : Result Performed Cause) → perform_result o (seen_after s ws) ≡ r →
        goes_on n (λ done. run_from (suc n) os s (with_writes ws done.write)) r ≡ Ok ran →
        ((done : Performed) (inner : Ran) → AllByRecursion MayName (with_writes ws done.write) →
        run_from (suc n) os s (with_writes ws done.write) ≡ Ok inner → AllByRecursion MayName inner.writes) →
        AllByRecursion MayName ran.writes
    go (Err cause) is h again = absurd (cc)
    go (Ok done) is h again =
        let inner = with_answer-ok done.answer (run_from (suc n) os s (with_writes ws done.write)) ran h in
        subst (λ (xs : List Write). AllByRecursion MayName xs) (sym inner.2)
        (again done inner.0 (with_writes-may ws done.write all (performed_may o (seen_after s ws) done is)) inner.1)

-- A run writes to maps alone that a request may name.
pub run_seeing-may : (os : List Operation) (s : Sees) (ran : Ran) → run_seeing os s ≡ Ok ran → AllByRecursion MayName ran.writes
run_seeing-may os s ran e = run_from-may 1 os s [] ran tt e

-- Such a map is public, and no table of governance or of the service itself.
pub MayName-outside : (map : List ℕ) → bar_on_map map ≡ None → (is_public map ≡ true) × (is_governance map ≡ false) × (is_internal map ≡ false)
MayName-outside map e = go (is_public map) (is_governance map) (is_internal map) refl refl refl e
  where
    go : (public governance internal : Bool) → is_public map ≡ public → is_governance map ≡ governance → is_internal map ≡ internal →
        cond (not public) (Some causes.NotPublic) (cond (governance || internal) (Some causes.Reserved) None) ≡ None →
        (is_public map ≡ true) × (is_governance map ≡ false) × (is_internal map ≡ false)
    go false governance internal a b c h = absurd (cc)
    go true true internal a b c h = absurd (cc)
    go true false true a b c h = absurd (cc)
    go true false false a b c h = (a, b, c)
