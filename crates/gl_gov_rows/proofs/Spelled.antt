-- What a row adds to those before it: by its value as it was read, and by what is asked of it.
use Rattle.std.proofs.Common.{◌≡◌, ℕ, Bool, true, false, cond, ◌&&◌, Option, Some, None, Result, Ok, Err, refl, sym, ap, ◌∙◌, subst}
use Rattle.std.specs.Option.{ok_or}
use Rattle.std.specs.Result.{result_ok}
use Rattle.gl_base.specs.Answers.{Answers, Fails}
use Rattle.gl_base.specs.declared.fault.CodeFault.{CodeFault}
use Rattle.gl_base.specs.declared.or_no_memory.OrNoMemory.{OrNoMemory}
use Rattle.gl_base.specs.declared.or_no_memory.OrNoMemory.TheVariants.{NoMemory, Fault}
use Rattle.gl_base.proofs.Steps.{ok_injective}
use Rattle.gl_gov_rules.specs.declared.row.GovernedRows.{GovernedRows}
use Rattle.gl_gov_rules.specs.GovernedRows.{put_where}
use Rattle.gl_gov_rows.specs.Reading.{at_index}

told : {X Y : Type 0} (view : X → Y) (index : ℕ) (read : Result X (OrNoMemory CodeFault)) (reading : Result Y CodeFault) → Answers view read reading
    → Answers view (at_index index read) (ok_or (result_ok reading) index)
told view index (Ok x) reading given = rw given refl
told view index (Err NoMemory) reading given = tt
told view index (Err (Fault fault)) reading given = rw given refl

not_there : {Y : Type 0} (ok : Bool) (is : Y → Bool) (put : Y → GovernedRows) (e : OrNoMemory ℕ) (index : ℕ) (o : Option Y) → Fails e (ok_or o index) → Fails e (ok_or (put_where ok is put o) index)
not_there ok is put NoMemory index None failed = tt
not_there ok is put (Fault fault) index None failed = let same : ◌≡◌ {A = OrNoMemory ℕ} (Fault index) (Fault fault) = cc in ap (λ f. fault_or f) same
  where
    fault_or : OrNoMemory ℕ → Result GovernedRows ℕ
    fault_or NoMemory = Err 0
    fault_or (Fault k) = Err k
not_there ok is put NoMemory index (Some y) failed = tt
not_there ok is put (Fault fault) index (Some y) failed = cc

there : {Y : Type 0} (o : Option Y) (y : Y) (index : ℕ) → ok_or o index ≡ Ok y → o ≡ Some y
there None y index e = cc
there (Some x) y index e = cc

-- What was read of a row, as it stands for a reading of its value.
pub record Read {X Y : Type 0} (view : X → Y) (index : ℕ) (reading : Result Y CodeFault) (result : Result X (OrNoMemory ℕ)) : Type 0 where
  pub read : Result X (OrNoMemory CodeFault)
  pub answers : Answers view read reading
  pub is : result ≡ at_index index read

reads : {X Y : Type 0} (view : X → Y) (index : ℕ) (reading : Result Y CodeFault) (result : Result X (OrNoMemory ℕ)) → Read view index reading result → Answers view result (ok_or (result_ok reading) index)
reads view index reading result h = subst (λ r. Answers view r (ok_or (result_ok reading) index)) (sym h.is) (told view index h.read reading h.answers)

-- it isn't read
pub unread : {X Y : Type 0} (view : X → Y) (index : ℕ) (reading : Result Y CodeFault) (result : Result X (OrNoMemory ℕ)) (ok : Bool) (is : Y → Bool) (put : Y → GovernedRows) (added : Option GovernedRows) (e : OrNoMemory ℕ)
    → Read view index reading result → added ≡ put_where ok is put (result_ok reading) → result ≡ Err e → Fails e (ok_or added index)
unread view index reading result ok is put added e h adds failed =
    let fails : Fails e (ok_or (result_ok reading) index) = subst (λ r. Answers view r (ok_or (result_ok reading) index)) failed (reads view index reading result h) in
    subst (λ o. Fails e (ok_or o index)) (sym adds) (not_there ok is put e index (result_ok reading) fails)

-- it is read, and what is asked of it doesn't hold, or holds
pub refused : {X Y : Type 0} (view : X → Y) (index : ℕ) (reading : Result Y CodeFault) (result : Result X (OrNoMemory ℕ)) (ok : Bool) (is : Y → Bool) (put : Y → GovernedRows) (added : Option GovernedRows) (x : X) (e : OrNoMemory ℕ) (holds : Bool)
    → Read view index reading result → added ≡ put_where ok is put (result_ok reading) → result ≡ Ok x → holds ≡ (ok && is (view x)) → ◌≡◌ {A = Result (Unit {0}) (OrNoMemory ℕ)} (cond holds (Ok tt) (Err (Fault index))) (Err e) → Fails e (ok_or added index)
refused view index reading result ok is put added x e true h adds given asked failed = cc
refused {Y = Y} view index reading result ok is put added x e false h adds given asked failed =
    let y = view x in
    let some : result_ok reading ≡ Some y = there (result_ok reading) y index (subst (λ r. Answers view r (ok_or (result_ok reading) index)) given (reads view index reading result h)) in
    let none : added ≡ None = adds ∙ ap (put_where ok is put) some ∙ ap (λ b. cond b (Some (put y)) None) (sym asked) in
    let same : Fault index ≡ e = cc in
    subst (λ f. Fails f (ok_or added index)) same (ap (λ o. ok_or o index) none)

pub adds : {X Y : Type 0} (view : X → Y) (index : ℕ) (reading : Result Y CodeFault) (result : Result X (OrNoMemory ℕ)) (ok : Bool) (is : Y → Bool) (put : Y → GovernedRows) (added : Option GovernedRows) (x : X) (holds : Bool)
    → Read view index reading result → added ≡ put_where ok is put (result_ok reading) → result ≡ Ok x → holds ≡ (ok && is (view x)) → ◌≡◌ {A = Result (Unit {0}) (OrNoMemory ℕ)} (cond holds (Ok tt) (Err (Fault index))) (Ok tt) → ok_or added index ≡ Ok (put (view x))
adds view index reading result ok is put added x false h given read asked passed = cc
adds view index reading result ok is put added x true h given read asked passed =
    let y = view x in
    let some : result_ok reading ≡ Some y = there (result_ok reading) y index (subst (λ r. Answers view r (ok_or (result_ok reading) index)) read (reads view index reading result h)) in
    let whole : added ≡ Some (put y) = given ∙ ap (put_where ok is put) some ∙ ap (λ b. cond b (Some (put y)) None) (sym asked) in
    ap (λ o. ok_or o index) whole

-- what is asked of the key alone
pub and_any : (ok : Bool) → ok ≡ (ok && true)
and_any true = refl
and_any false = refl

pub and_first : (ok is : Bool) → ok ≡ true → is ≡ (ok && is)
and_first true is holds = refl
and_first false is holds = cc

pub none_put : {Y : Type 0} (ok : Bool) (is : Y → Bool) (put : Y → GovernedRows) (o : Option Y) → ((y : Y) → o ≡ Some y → (ok && is y) ≡ false) → put_where ok is put o ≡ None
none_put ok is put None never = refl
none_put ok is put (Some y) never = ap (λ b. cond b (Some (put y)) None) (never y refl)

-- what is told was read
pub was_read : {X : Type 0} (index : ℕ) (read : Result X (OrNoMemory CodeFault)) (x : X) → at_index index read ≡ Ok x → read ≡ Ok x
was_read index (Ok y) x e = ap (λ z. Ok z) (ok_injective {E = OrNoMemory ℕ} y x e)
was_read index (Err NoMemory) x e = cc
was_read index (Err (Fault fault)) x e = cc
