-- The numbers of keys that are noted.
use Rattle.std.proofs.Common.{◌≡◌, ℕ, ◌^◌, ◌<◌, nat_lt, List, [], ◌∷◌, Some, Bool, true, false, cond, find, subst, arith}
use Rattle.std.specs.List.{list_all}
use Rattle.std.proofs.lemmas.Bool.{and_parts}
use Rattle.std.proofs.lemmas.Bool.Decides.{nat_tests}
use Rattle.gl_attempt.specs.Asks.{is_note}
use Rattle.gl_attempt.specs.declared.notes.Note.{Note}
use Rattle.gl_attempt.specs.declared.notes.Note.TheVariants as notes

found_note : (test : Note → Bool) (ns : List Note) (n : Note) → list_all is_note ns ≡ true → Some n ≡ find test ns → is_note n ≡ true
found_note test [] n all e = absurd (cc)
found_note test (x ∷ ns) n all e =
    let both = and_parts (is_note x) (list_all is_note ns) all in
    go (test x) e both.0 (found_note test ns n both.1)
  where
    go : (b : Bool) → Some n ≡ cond b (Some x) (find test ns) → is_note x ≡ true → (Some n ≡ find test ns → is_note n ≡ true) → is_note n ≡ true
    go true h here again = let same : x ≡ n = cc in subst (λ (m : Note). is_note m ≡ true) same here
    go false h here again = again h

-- a number of keys that is noted is below 2^63
pub size-noted : (test : Note → Bool) (ns : List Note) (n : Note) (of : List ℕ) (size : ℕ) → list_all is_note ns ≡ true → Some n ≡ find test ns → n ≡ notes.Map of size →
    size < 2 ^ 63
size-noted test ns n of size all e is =
    let fits : nat_lt size (2 ^ 63) ≡ true = subst (λ (m : Note). is_note m ≡ true) is (found_note test ns n all e) in
    grind (arith, nat_tests)
