-- A run rests on nothing but what it asks for.
use Rattle.std.proofs.Common.{◌≡◌, ℕ, suc, ◌+◌, ◌-◌, List, [], ◌∷◌, ◌++◌, Option, None, Some, Result, Ok, Err, Bool, true, false, not, ◌&&◌, refl, sym, ap, ◌∙◌, cond, is_some}
use Rattle.std.specs.Option.{is_none}
use Rattle.std.specs.List.{list_all}
use Rattle.std.proofs.lemmas.Bool.{and_parts}
use Rattle.std.proofs.lemmas.List.Folds.{list_all-append}
use Rattle.std.proofs.lemmas.List.Sums.{sum_by-cons}
use Rattle.gl_vmaps.specs.Name.{is_key}
use Rattle.gl_vmaps.specs.Versions.{is_to_map}
use Rattle.gl_vmaps.specs.declared.write.Write.{Write}
use Rattle.gl_vmaps.specs.Growth.{gains, loses, gained, lost}
use Rattle.gl_vmaps.specs.LastWrite.{value_after}
use Rattle.gl_tx.specs.Sees.{Sees, write_to, seen_after}
use Rattle.gl_tx.specs.Run.{answer_only, answer_and_write, yes_or_no, value_or_none, add_result, check_result, follow_result, bar_on, unless_barred, on_seen, perform_result, with_answer, goes_on, run_from, with_writes}
use Rattle.gl_vmaps.specs.Tables.{same_value}
use Rattle.gl_attempt.specs.Asks.{row_asks, rows_written, key_asks, allowed_asks, asks_unless_barred, asks_of, asks_after, asks_from}
use Rattle.gl_tx.specs.declared.performed.Performed.{Performed}
use Rattle.gl_tx.specs.declared.abort.Cause.{Cause}
use Rattle.gl_tx.specs.declared.abort.Cause.TheVariants as causes
use Rattle.gl_tx.specs.declared.request.Answer.TheVariants as answers
use Rattle.gl_attempt.specs.declared.notes.Ask.{Ask}
use Rattle.gl_attempt.specs.declared.notes.Ask.TheVariants as asks
use Rattle.gl_tx.specs.declared.request.Operation.{Operation}
use Rattle.gl_tx.specs.declared.request.Operation.TheVariants.{Get, Has, Put, Remove, Add, Check, Follow, Size}

-- both have the same where this is asked for
abbrev pub IsSameAt : Sees → Sees → Ask → Type 0
IsSameAt s t (asks.Row map key) = s.value map key ≡ t.value map key
IsSameAt s t (asks.Map map) = s.size map ≡ t.size map

-- and wherever something that passes a test is asked for
abbrev pub AreAlike : (Ask → Bool) → Sees → Sees → Type 0
AreAlike known s t = (ask : Ask) → known ask ≡ true → IsSameAt s t ask

-- a row after a write set, where what is asked for it is known
pub value-alike : (known : Ask → Bool) (s t : Sees) (ws : List Write) (map key : List ℕ) → AreAlike known s t →
    list_all known (row_asks ws map key) ≡ true → (seen_after s ws).value map key ≡ (seen_after t ws).value map key
value-alike known s t ws map key alike is = go (write_to map key ws) is
  where
    go : (w : Option Write) → list_all known (cond (is_some w) [] (asks.Row map key ∷ [])) ≡ true →
        value_after w (s.value map key) ≡ value_after w (t.value map key)
    go None h = alike (asks.Row map key) (and_parts (known (asks.Row map key)) true h).0
    go (Some w) h = refl

-- the rows of a map that a write set writes were there in both, or in neither
gained-alike : (known : Ask → Bool) (s t : Sees) (ws : List Write) (map : List ℕ) → AreAlike known s t →
    list_all known (rows_written map ws) ≡ true → gained s.value map ws ≡ gained t.value map ws
gained-alike known s t [] map alike is = refl
gained-alike known s t (w ∷ ws) map alike is =
    sum_by-cons (λ (z : Write). cond (gains s.value map z) 1 0) w ws
    ∙ go (is_to_map map w) is (gained-alike known s t ws map alike)
    ∙ sym (sum_by-cons (λ (z : Write). cond (gains t.value map z) 1 0) w ws)
  where
    go : (b : Bool) → list_all known (cond b (asks.Row map w.key ∷ rows_written map ws) (rows_written map ws)) ≡ true →
        (list_all known (rows_written map ws) ≡ true → gained s.value map ws ≡ gained t.value map ws) →
        cond (b && is_some w.value && not (is_some (s.value map w.key))) 1 0 + gained s.value map ws
        ≡ cond (b && is_some w.value && not (is_some (t.value map w.key))) 1 0 + gained t.value map ws
    go true h again =
        let both = and_parts (known (asks.Row map w.key)) (list_all known (rows_written map ws)) h in
        ap (λ (v : Option (List ℕ)). cond (is_some w.value && not (is_some v)) 1 0 + gained s.value map ws) (alike (asks.Row map w.key) both.0)
        ∙ ap (λ (n : ℕ). cond (is_some w.value && not (is_some (t.value map w.key))) 1 0 + n) (again both.1)
    go false h again = ap (λ (n : ℕ). 0 + n) (again h)

lost-alike : (known : Ask → Bool) (s t : Sees) (ws : List Write) (map : List ℕ) → AreAlike known s t →
    list_all known (rows_written map ws) ≡ true → lost s.value map ws ≡ lost t.value map ws
lost-alike known s t [] map alike is = refl
lost-alike known s t (w ∷ ws) map alike is =
    sum_by-cons (λ (z : Write). cond (loses s.value map z) 1 0) w ws
    ∙ go (is_to_map map w) is (lost-alike known s t ws map alike)
    ∙ sym (sum_by-cons (λ (z : Write). cond (loses t.value map z) 1 0) w ws)
  where
    go : (b : Bool) → list_all known (cond b (asks.Row map w.key ∷ rows_written map ws) (rows_written map ws)) ≡ true →
        (list_all known (rows_written map ws) ≡ true → lost s.value map ws ≡ lost t.value map ws) →
        cond (b && is_none w.value && is_some (s.value map w.key)) 1 0 + lost s.value map ws
        ≡ cond (b && is_none w.value && is_some (t.value map w.key)) 1 0 + lost t.value map ws
    go true h again =
        let both = and_parts (known (asks.Row map w.key)) (list_all known (rows_written map ws)) h in
        ap (λ (v : Option (List ℕ)). cond (is_none w.value && is_some v) 1 0 + lost s.value map ws) (alike (asks.Row map w.key) both.0)
        ∙ ap (λ (n : ℕ). cond (is_none w.value && is_some (t.value map w.key)) 1 0 + n) (again both.1)
    go false h again = ap (λ (n : ℕ). 0 + n) (again h)

size-alike : (known : Ask → Bool) (s t : Sees) (ws : List Write) (map : List ℕ) → AreAlike known s t →
    list_all known (asks.Map map ∷ rows_written map ws) ≡ true → (seen_after s ws).size map ≡ (seen_after t ws).size map
size-alike known s t ws map alike is =
    let both = and_parts (known (asks.Map map)) (list_all known (rows_written map ws)) is in
    let before = alike (asks.Map map) both.0 in
    let more = gained-alike known s t ws map alike both.1 in
    let less = lost-alike known s t ws map alike both.1 in
    ap (λ (n : ℕ). n + gained s.value map ws - lost s.value map ws) before
    ∙ ap (λ (n : ℕ). t.size map + n - lost s.value map ws) more
    ∙ ap (λ (n : ℕ). t.size map + gained t.value map ws - n) less

-- a value that is followed, where the key that it is is known
follow-alike : (known : Ask → Bool) (s t : Sees) (ws : List Write) (target : List ℕ) (v : Option (List ℕ)) → AreAlike known s t →
    list_all known (key_asks ws target v) ≡ true → follow_result (seen_after s ws) target v ≡ follow_result (seen_after t ws) target v
follow-alike known s t ws target None alike is = refl
follow-alike known s t ws target (Some key) alike is = go (is_key key) is
  where
    go : (b : Bool) → list_all known (cond b (row_asks ws target key) []) ≡ true →
        cond b (answer_only (value_or_none ((seen_after s ws).value target key))) (Err causes.BadKey)
        ≡ cond b (answer_only (value_or_none ((seen_after t ws).value target key))) (Err causes.BadKey)
    go true h = ap (λ (o : Option (List ℕ)). answer_only (value_or_none o)) (value-alike known s t ws target key alike h)
    go false h = refl

follow_parts : (known : Ask → Bool) (s : Sees) (ws : List Write) (map key target : List ℕ) → list_all known (allowed_asks (Follow map key target) s ws) ≡ true →
    (list_all known (row_asks ws map key) ≡ true) × (list_all known (key_asks ws target ((seen_after s ws).value map key)) ≡ true)
follow_parts known s ws map key target is =
    and_parts (list_all known (row_asks ws map key)) (list_all known (key_asks ws target ((seen_after s ws).value map key)))
    (sym (list_all-append known (row_asks ws map key) (key_asks ws target ((seen_after s ws).value map key))) ∙ is)

on_seen-alike : (known : Ask → Bool) (s t : Sees) (ws : List Write) (o : Operation) → AreAlike known s t →
    list_all known (allowed_asks o s ws) ≡ true → on_seen (seen_after s ws) o ≡ on_seen (seen_after t ws) o
on_seen-alike known s t ws (Get map key) alike is = ap (λ (v : Option (List ℕ)). answer_only (value_or_none v)) (value-alike known s t ws map key alike is)
on_seen-alike known s t ws (Has map key) alike is = ap (λ (v : Option (List ℕ)). answer_only (yes_or_no (is_some v))) (value-alike known s t ws map key alike is)
on_seen-alike known s t ws (Put map key value) alike is = refl
on_seen-alike known s t ws (Remove map key) alike is =
    ap (λ (v : Option (List ℕ)). answer_and_write (yes_or_no (is_some v)) map key None) (value-alike known s t ws map key alike is)
on_seen-alike known s t ws (Add map key amount) alike is = ap (λ (v : Option (List ℕ)). add_result map key amount v) (value-alike known s t ws map key alike is)
on_seen-alike known s t ws (Check map key expected) alike is = ap (λ (v : Option (List ℕ)). check_result (same_value expected v)) (value-alike known s t ws map key alike is)
on_seen-alike known s t ws (Follow map key target) alike is =
    let parts = follow_parts known s ws map key target is in
    follow-alike known s t ws target ((seen_after s ws).value map key) alike parts.1
    ∙ ap (λ (v : Option (List ℕ)). follow_result (seen_after t ws) target v) (value-alike known s t ws map key alike parts.0)
on_seen-alike known s t ws (Size map) alike is = ap (λ (n : ℕ). answer_only (answers.Number n)) (size-alike known s t ws map alike is)

-- an operation gives the same on both, where all that it asks for is known
pub perform_result-alike : (known : Ask → Bool) (s t : Sees) (ws : List Write) (o : Operation) → AreAlike known s t →
    list_all known (asks_of o s ws) ≡ true → perform_result o (seen_after s ws) ≡ perform_result o (seen_after t ws)
perform_result-alike known s t ws o alike is = go (bar_on o) is
  where
    go : (b : Option Cause) → list_all known (asks_unless_barred b (allowed_asks o s ws)) ≡ true →
        unless_barred b (on_seen (seen_after s ws) o) ≡ unless_barred b (on_seen (seen_after t ws) o)
    go None h = on_seen-alike known s t ws o alike h
    go (Some cause) h = refl

allowed_asks-alike : (known : Ask → Bool) (s t : Sees) (ws : List Write) (o : Operation) → AreAlike known s t →
    list_all known (allowed_asks o s ws) ≡ true → allowed_asks o s ws ≡ allowed_asks o t ws
allowed_asks-alike known s t ws (Get map key) alike is = refl
allowed_asks-alike known s t ws (Has map key) alike is = refl
allowed_asks-alike known s t ws (Put map key value) alike is = refl
allowed_asks-alike known s t ws (Remove map key) alike is = refl
allowed_asks-alike known s t ws (Add map key amount) alike is = refl
allowed_asks-alike known s t ws (Check map key expected) alike is = refl
allowed_asks-alike known s t ws (Follow map key target) alike is =
    ap (λ (v : Option (List ℕ)). row_asks ws map key ++ key_asks ws target v)
    (value-alike known s t ws map key alike (follow_parts known s ws map key target is).0)
allowed_asks-alike known s t ws (Size map) alike is = refl

-- and asks for the same
pub asks_of-alike : (known : Ask → Bool) (s t : Sees) (ws : List Write) (o : Operation) → AreAlike known s t →
    list_all known (asks_of o s ws) ≡ true → asks_of o s ws ≡ asks_of o t ws
asks_of-alike known s t ws o alike is = go (bar_on o) is
  where
    go : (b : Option Cause) → list_all known (asks_unless_barred b (allowed_asks o s ws)) ≡ true →
        asks_unless_barred b (allowed_asks o s ws) ≡ asks_unless_barred b (allowed_asks o t ws)
    go None h = allowed_asks-alike known s t ws o alike h
    go (Some cause) h = refl

-- a run gives the same on both, where all that it asks for is known
pub run_from-alike : (known : Ask → Bool) (s t : Sees) (n : ℕ) (os : List Operation) (ws : List Write) → AreAlike known s t →
    list_all known (asks_from os s ws) ≡ true → run_from n os s ws ≡ run_from n os t ws
run_from-alike known s t n [] ws alike is = refl
run_from-alike known s t n (o ∷ os) ws alike is =
    let rest = asks_after (λ (done : Performed). asks_from os s (with_writes ws done.write)) (perform_result o (seen_after s ws)) in
    let both = and_parts (list_all known (asks_of o s ws)) (list_all known rest) (sym (list_all-append known (asks_of o s ws) rest) ∙ is) in
    go (perform_result o (seen_after s ws)) both.1
    (λ done. run_from-alike known s t (suc n) os (with_writes ws done.write) alike)
    ∙ ap (λ (r : Result Performed Cause). goes_on n (λ done. run_from (suc n) os t (with_writes ws done.write)) r) (perform_result-alike known s t ws o alike both.0)
  where
    go : (r : Result Performed Cause) → list_all known (asks_after (λ (done : Performed). asks_from os s (with_writes ws done.write)) r) ≡ true →
        ((done : Performed) → list_all known (asks_from os s (with_writes ws done.write)) ≡ true → run_from (suc n) os s (with_writes ws done.write) ≡ run_from (suc n) os t (with_writes ws done.write)) →
        goes_on n (λ done. run_from (suc n) os s (with_writes ws done.write)) r ≡ goes_on n (λ done. run_from (suc n) os t (with_writes ws done.write)) r
    go (Err cause) h again = refl
    go (Ok done) h again = ap (with_answer done.answer) (again done h)
