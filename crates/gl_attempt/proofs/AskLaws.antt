-- The first ask that isn't noted, part by part.
use Rattle.std.proofs.Common.{◌≡◌, ℕ, suc, ◌+◌, ◌<◌, subst, add-one, length, drop, drop-cons, get_or, List, [], ◌∷◌, ◌++◌, Option, None, Some, Bool, true, false, not, ◌&&◌, ◌||◌, refl, sym, ap, ◌∙◌, cond, is_some}
use Rattle.std.specs.Option.{option_or}
use Rattle.std.proofs.lemmas.List.Folds.{find-append}
use Rattle.gl_vmaps.specs.Versions.{is_to_map}
use Rattle.gl_vmaps.specs.declared.write.Write.{Write}
use Rattle.gl_tx.specs.Sees.{Sees, write_to, seen_after}
use Rattle.gl_tx.specs.Run.{perform_result, with_writes}
use Rattle.gl_attempt.specs.Asks.{row_asks, rows_written, asks_of, asks_after, asks_from, is_noted, sees_by, first_unnoted}
use Rattle.gl_attempt.specs.declared.notes.Ask.{Ask}
use Rattle.gl_attempt.specs.declared.notes.Ask.TheVariants as asks
use Rattle.gl_attempt.specs.declared.notes.Note.{Note}
use Rattle.gl_tx.specs.declared.request.Operation.{Operation}

pub first_unnoted-append : (ns : List Note) (xs ys : List Ask) → first_unnoted ns (xs ++ ys) ≡ option_or (first_unnoted ns xs) (first_unnoted ns ys)
first_unnoted-append ns xs ys = find-append (λ (ask : Ask). not (is_noted ns ask)) xs ys

unless : (known : Bool) (ask : Ask) → cond (not known) (Some ask) None ≡ cond known None (Some ask)
unless true ask = refl
unless false ask = refl

pub first_unnoted-row : (ns : List Note) (ws : List Write) (map key : List ℕ) → first_unnoted ns (row_asks ws map key)
    ≡ cond (is_some (write_to map key ws) || is_noted ns (asks.Row map key)) None (Some (asks.Row map key))
first_unnoted-row ns ws map key = go (is_some (write_to map key ws))
  where
    go : (b : Bool) → first_unnoted ns (cond b [] (asks.Row map key ∷ []))
        ≡ cond (b || is_noted ns (asks.Row map key)) None (Some (asks.Row map key))
    go true = refl
    go false = unless (is_noted ns (asks.Row map key)) (asks.Row map key)

pub first_unnoted-written : (ns : List Note) (map : List ℕ) (w : Write) (ws : List Write) → first_unnoted ns (rows_written map (w ∷ ws))
    ≡ cond (is_to_map map w && not (is_noted ns (asks.Row map w.key))) (Some (asks.Row map w.key)) (first_unnoted ns (rows_written map ws))
first_unnoted-written ns map w ws = go (is_to_map map w)
  where
    go : (b : Bool) → first_unnoted ns (cond b (asks.Row map w.key ∷ rows_written map ws) (rows_written map ws))
        ≡ cond (b && not (is_noted ns (asks.Row map w.key))) (Some (asks.Row map w.key)) (first_unnoted ns (rows_written map ws))
    go true = refl
    go false = refl

-- what a run asks for first is what its first operation does, or else what the rest does
pub first_unnoted-from : (ns : List Note) (o : Operation) (os : List Operation) (s : Sees) (ws : List Write) → first_unnoted ns (asks_from (o ∷ os) s ws)
    ≡ option_or (first_unnoted ns (asks_of o s ws))
    (first_unnoted ns (asks_after (λ done. asks_from os s (with_writes ws done.write)) (perform_result o (seen_after s ws))))
first_unnoted-from ns o os s ws = first_unnoted-append ns (asks_of o s ws) (asks_after (λ done. asks_from os s (with_writes ws done.write)) (perform_result o (seen_after s ws)))

-- the row that is found is the first that isn't noted
pub written_found : (ns : List Note) (map : List ℕ) (ws : List Write) (i : ℕ) (w : Write) → i < length ws → w ≡ get_or ws i w →
    is_to_map map w ≡ true → is_noted ns (asks.Row map w.key) ≡ false → first_unnoted ns (rows_written map (drop i ws)) ≡ Some (asks.Row map w.key)
written_found ns map ws i w within is to new =
    let next : drop i ws ≡ w ∷ drop (suc i) ws = drop-cons ws i w within ∙ ap (λ (x : Write). x ∷ drop (suc i) ws) (sym is) in
    ap (λ (xs : List Write). first_unnoted ns (rows_written map xs)) next
    ∙ first_unnoted-written ns map w (drop (suc i) ws)
    ∙ ap (λ (b : Bool). cond (b && not (is_noted ns (asks.Row map w.key))) (Some (asks.Row map w.key)) (first_unnoted ns (rows_written map (drop (suc i) ws)))) to
    ∙ ap (λ (b : Bool). cond (not b) (Some (asks.Row map w.key)) (first_unnoted ns (rows_written map (drop (suc i) ws)))) new

next_operation : (ns : List Note) (os : List Operation) (i : ℕ) (o : Operation) (s : Sees) (ws : List Write) → i < length os → o ≡ get_or os i o →
    first_unnoted ns (asks_from (drop i os) s ws)
    ≡ option_or (first_unnoted ns (asks_of o s ws))
    (first_unnoted ns (asks_after (λ done. asks_from (drop (suc i) os) s (with_writes ws done.write)) (perform_result o (seen_after s ws))))
next_operation ns os i o s ws within is =
    ap (λ (ps : List Operation). first_unnoted ns (asks_from ps s ws)) (drop-cons os i o within ∙ ap (λ (x : Operation). x ∷ drop (suc i) os) (sym is))
    ∙ first_unnoted-from ns o (drop (suc i) os) s ws

-- what an operation asks for first is what the run does, where all before it is noted
pub next_found : (ns : List Note) (os : List Operation) (i : ℕ) (o : Operation) (s : Sees) (ws : List Write) (total : Option Ask) (ask : Ask) → i < length os → o ≡ get_or os i o →
    first_unnoted ns (asks_from (drop i os) s ws) ≡ total → Some ask ≡ first_unnoted ns (asks_of o s ws) → Some ask ≡ total
next_found ns os i o s ws total ask within is reported found =
    ap (λ (a : Option Ask). option_or a (first_unnoted ns (asks_after (λ done. asks_from (drop (suc i) os) s (with_writes ws done.write)) (perform_result o (seen_after s ws))))) found
    ∙ sym (next_operation ns os i o s ws within is) ∙ reported

-- and where all that it asks for is noted, the run asks for what is after it
pub next_after : (ns : List Note) (os : List Operation) (i : ℕ) (o : Operation) (s : Sees) (ws : List Write) (total : Option Ask) (more : List Ask) → i < length os → o ≡ get_or os i o →
    first_unnoted ns (asks_from (drop i os) s ws) ≡ total → None ≡ first_unnoted ns (asks_of o s ws) →
    asks_after (λ done. asks_from (drop (suc i) os) s (with_writes ws done.write)) (perform_result o (seen_after s ws)) ≡ more → first_unnoted ns more ≡ total
next_after ns os i o s ws total more within is reported none after_it =
    ap (first_unnoted ns) (sym after_it)
    ∙ ap (λ (a : Option Ask). option_or a (first_unnoted ns (asks_after (λ done. asks_from (drop (suc i) os) s (with_writes ws done.write)) (perform_result o (seen_after s ws))))) none
    ∙ sym (next_operation ns os i o s ws within is) ∙ reported

-- one operation further, whether the run goes on after it or not
pub next_step : (base reads : List Note) (os : List Operation) (i : ℕ) (o : Operation) (ws new : List Write) (total : Option Ask) (goes : Bool) → i < length os → o ≡ get_or os i o →
    base ≡ reads → first_unnoted reads (asks_from (drop i os) (sees_by reads) ws) ≡ total → None ≡ first_unnoted base (asks_of o (sees_by base) ws) →
    ((rest : List Operation) → asks_after (λ done. asks_from rest (sees_by base) (with_writes ws done.write)) (perform_result o (seen_after (sees_by base) ws))
    ≡ cond goes (asks_from rest (sees_by base) new) []) →
    first_unnoted reads (cond goes (asks_from (drop (i + 1) os) (sees_by reads) new) []) ≡ total
next_step base reads os i o ws new total goes within is same reported none after_it =
    let before : first_unnoted base (asks_from (drop i os) (sees_by base) ws) ≡ total =
    subst (λ (ns : List Note). first_unnoted ns (asks_from (drop i os) (sees_by ns) ws) ≡ total) (sym same) reported in
    let after : first_unnoted base (cond goes (asks_from (drop (suc i) os) (sees_by base) new) []) ≡ total =
    next_after base os i o (sees_by base) ws total (cond goes (asks_from (drop (suc i) os) (sees_by base) new) []) within is before none (after_it (drop (suc i) os)) in
    rw (add-one i) (subst (λ (ns : List Note). first_unnoted ns (cond goes (asks_from (drop (suc i) os) (sees_by ns) new) []) ≡ total) same after)
