-- Entries that are appended one after another, each tried.
use Rattle.std.proofs.Common.{◌≡◌, ℕ, zero, suc, ◌-◌, ◌≤◌, List, [], ◌∷◌, ◌++◌, length, take, Option, Some, None, Ok, Err, refl, ap, ap₂, ◌∙◌, arith}
use Rattle.gl_base.specs.Answers.{Fails}
use Rattle.gl_base.specs.declared.or_no_memory.OrNoMemory.{OrNoMemory}
use Rattle.gl_base.specs.declared.or_no_memory.OrNoMemory.TheVariants.{NoMemory, Fault}
use Rattle.gl_base.proofs.Lists.{take-push}
use Rattle.gl_entry.specs.declared.entry.Entry.{Entry}
use Rattle.gl_ledger.specs.LedgerBook.{by_rule}
use Rattle.gl_ledger.specs.declared.breach.Broken.{Broken}
use Rattle.gl_ledger.specs.declared.response.Rejection.{Rejection}
use Rattle.gl_ledger.specs.declared.response.Rejection.TheVariants.{ByRule}
use Rattle.gl_store_book.specs.BasedLedgers.{BasedLedger, base_of, broken_after, len_of, with_entries}
use Rattle.gl_store_book.specs.Taken.{RefusesFor, appended, unless_breaks}

-- one that breaks no rule is appended
pub appended_next : (l : BasedLedger) (e : Entry) (es : List Entry) → broken_after l e ≡ None → appended l (e ∷ es) ≡ appended (with_entries l (l.entries ++ e ∷ [])) es
unfolding appended
appended_next l e es h = ap (λ (o : Option Broken). unless_breaks o (appended (with_entries l (l.entries ++ e ∷ [])) es)) h

pub appended_none : (l : BasedLedger) → appended l [] ≡ Ok l
unfolding appended
appended_none l = refl

-- one that breaks a rule is refused for it
pub refused_next : (l : BasedLedger) (e : Entry) (es : List Entry) (r : OrNoMemory Rejection) → RefusesFor (broken_after l e) r → Fails r (appended l (e ∷ es))
unfolding appended
refused_next l e es NoMemory h = tt
refused_next l e es (Fault why) h = go (broken_after l e) h
  where
    go : (o : Option Broken) → by_rule o ≡ Some why → unless_breaks o (appended (with_entries l (l.entries ++ e ∷ [])) es) ≡ Err why
    go None is = absurd (cc)
    go (Some b) is = let k : ByRule b ≡ why = cc in ap Err k

-- what stood in front still does
few : {A : Type 0} (n : ℕ) (xs : List A) → length (take n xs) ≤ length xs
few zero xs = omega arith
few (suc n) [] = omega arith
few (suc n) (x ∷ xs) = let low = few n xs in omega (arith, low)

pub prefix_kept : (old now : List Entry) (e : Entry) → take (length old) now ≡ old → take (length old) (now ++ e ∷ []) ≡ old
prefix_kept old now e prefix =
    let low = few (length old) now in
    let same : length (take (length old) now) ≡ length old = ap (λ (es : List Entry). length es) prefix in
    take-push now e (length old) (omega (arith, low, same)) ∙ prefix

-- all that stood in front is the ledger as it was
pub cut_back : (old now cut : BasedLedger) → now.snapshot ≡ old.snapshot → take (length old.entries) now.entries ≡ old.entries → cut ≡ with_entries now (take (len_of old - base_of now) now.entries) → cut ≡ old
cut_back old now cut same prefix is =
    let base : base_of now ≡ base_of old = ap (λ (s : Option (List ℕ)). base_of (record { snapshot = s; entries = old.entries })) same in
    let all : len_of old - base_of now ≡ length old.entries = omega (arith, base) in
    is ∙ ap₂ (λ (s : Option (List ℕ)) (es : List Entry). record { snapshot = s; entries = es }) same (ap (λ (n : ℕ). take n now.entries) all ∙ prefix)
