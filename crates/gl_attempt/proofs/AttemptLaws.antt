-- An attempt that meets no conflict runs on what it noted.
use Rattle.std.proofs.Common.{◌≡◌, ℕ, ◌<◌, ◌≤◌, nat_lt, max, List, [], ◌∷◌, ◌++◌, Option, None, Some, Result, Ok, Err, IfOk, Bool, true, false, not, ◌&&◌, refl, sym, ap, ◌∙◌, subst, cond, find, is_some, arith}
use Rattle.std.specs.List.{list_all, AllByRecursion}
use Rattle.std.proofs.lemmas.Bool.{and_parts, and_from}
use Rattle.std.proofs.lemmas.Bool.Decides.{nat_tests}
use Rattle.std.specs.FinMap.{len}
use Rattle.gl_base.specs.Answers.{Answers}
use Rattle.gl_base.specs.declared.or_no_memory.OrNoMemory.{OrNoMemory}
use Rattle.gl_vmaps.specs.Kept.{Kept}
use Rattle.gl_vmaps.specs.Standing.{StandsFor}
use Rattle.gl_vmaps.specs.Tables.{Tables, no_tables, same_bytes, with_row, wrote, value_in}
use Rattle.gl_vmaps.specs.Versions.{Placed, written_by, written_after, is_to_map, is_to_row, greatest_place}
use Rattle.gl_vmaps.specs.declared.write.Write.{Write}
use Rattle.gl_vmaps.proofs.StandingLaws.{version_of-stands, map_version_of-stands}
use Rattle.gl_vmaps.proofs.TablesLaws.{same_bytes-eq, value_in-wrote, written_after-append}
use Rattle.gl_tx.specs.Sees.{Sees, sees_in}
use Rattle.gl_tx.specs.Run.{run_seeing}
use Rattle.gl_attempt.specs.Asks.{is_of_row, is_of_map, is_noted, value_in_note, size_in_note, sees_by, asks_from, next_ask}
use Rattle.gl_attempt.specs.Attempt.{State, next_of, Versioned, versioned_by, versioned_of, changed_at, conflict_at, conflict_of, is_rolled_back, rolled_back_between, unless_conflict, run_answer, finish_result, IsSeen, IsNotedSince}
use Rattle.gl_tx.specs.declared.abort.Abort.{Abort}
use Rattle.gl_attempt.specs.declared.conflict.Conflict.{Conflict}
use Rattle.gl_attempt.specs.declared.conflict.RolledBack.{RolledBack}
use Rattle.gl_attempt.specs.declared.conflict.TxFault.{TxFault}
use Rattle.gl_attempt.specs.declared.conflict.TxFault.TheVariants as faults
use Rattle.gl_tx.specs.declared.runs.Ran.{Ran}
use Rattle.gl_attempt.specs.declared.notes.Ask.{Ask}
use Rattle.gl_attempt.specs.declared.notes.Ask.TheVariants as asks
use Rattle.gl_attempt.specs.declared.notes.Note.{Note}
use Rattle.gl_attempt.specs.declared.notes.Note.TheVariants as notes
use Rattle.gl_tx.specs.declared.request.Operation.{Operation}
use Rattle.gl_attempt.proofs.Alike.{AreAlike, run_from-alike}
use Rattle.gl_tx.proofs.Writing.{sees_of-stands}

-- What tables tell is what the writes tell for which they stand.
pub versioned_of-stands : (t : Kept) (ps : List Placed) → StandsFor t ps → versioned_of t ≡ versioned_by ps
versioned_of-stands t ps stands = λ i. record {
  sees = sees_of-stands t ps stands i;
  version = λ map key. version_of-stands t ps stands map key i;
  map_version = λ map. map_version_of-stands t ps stands map i;
}

-- ---- the run on the notes is the run on what they are of

seen_row : (s : Sees) (ns : List Note) (map key : List ℕ) → AllByRecursion (IsSeen s) ns → is_some (find (is_of_row map key) ns) ≡ true →
    value_in_note (find (is_of_row map key) ns) ≡ s.value map key
seen_row s [] map key all h = absurd (cc)
seen_row s (notes.Row of at value ∷ ns) map key all h = go (same_bytes map of && same_bytes key at) refl h (seen_row s ns map key all.1)
  where
    go : (b : Bool) → (same_bytes map of && same_bytes key at) ≡ b → is_some (cond b (Some (notes.Row of at value)) (find (is_of_row map key) ns)) ≡ true →
        (is_some (find (is_of_row map key) ns) ≡ true → value_in_note (find (is_of_row map key) ns) ≡ s.value map key) →
        value_in_note (cond b (Some (notes.Row of at value)) (find (is_of_row map key) ns)) ≡ s.value map key
    go true is there again =
        let both = and_parts (same_bytes map of) (same_bytes key at) is in
        let same_map = same_bytes-eq map of both.0 in
        let same_key = same_bytes-eq key at both.1 in
        let found : notes.Row of at value ≡ notes.Row of at (s.value of at) = all.0 in
        ap (λ (n : Note). value_in_note (Some n)) found ∙ rw (same_map, same_key) refl
    go false is there again = again there
seen_row s (notes.Map of size ∷ ns) map key all h = seen_row s ns map key all.1 h

seen_map : (s : Sees) (ns : List Note) (map : List ℕ) → AllByRecursion (IsSeen s) ns → is_some (find (is_of_map map) ns) ≡ true →
    size_in_note (find (is_of_map map) ns) ≡ s.size map
seen_map s [] map all h = absurd (cc)
seen_map s (notes.Row of at value ∷ ns) map all h = seen_map s ns map all.1 h
seen_map s (notes.Map of size ∷ ns) map all h = go (same_bytes map of) refl h (seen_map s ns map all.1)
  where
    go : (b : Bool) → same_bytes map of ≡ b → is_some (cond b (Some (notes.Map of size)) (find (is_of_map map) ns)) ≡ true →
        (is_some (find (is_of_map map) ns) ≡ true → size_in_note (find (is_of_map map) ns) ≡ s.size map) →
        size_in_note (cond b (Some (notes.Map of size)) (find (is_of_map map) ns)) ≡ s.size map
    go true is there again =
        let same_map = same_bytes-eq map of is in
        let found : notes.Map of size ≡ notes.Map of (s.size of) = all.0 in
        ap (λ (n : Note). size_in_note (Some n)) found ∙ rw same_map refl
    go false is there again = again there

seen-alike : (s : Sees) (ns : List Note) → AllByRecursion (IsSeen s) ns → AreAlike (is_noted ns) (sees_by ns) s
seen-alike s ns all (asks.Row map key) h = seen_row s ns map key all h
seen-alike s ns all (asks.Map map) h = seen_map s ns map all h

none_unnoted : (known : Ask → Bool) (xs : List Ask) → find (λ x. not (known x)) xs ≡ None → list_all known xs ≡ true
none_unnoted known [] e = refl
none_unnoted known (x ∷ xs) e = go (known x) refl e (none_unnoted known xs)
  where
    go : (b : Bool) → known x ≡ b → cond (not b) (Some x) (find (λ x. not (known x)) xs) ≡ None →
        (find (λ x. not (known x)) xs ≡ None → list_all known xs ≡ true) → (known x && list_all known xs) ≡ true
    go true is h again = and_from (known x) (list_all known xs) is (again h)
    go false is h again = absurd (cc)

-- Where nothing more is asked for, the run on the notes is the run on whatever has what they note.
pub run_seeing-noted : (os : List Operation) (s : Sees) (ns : List Note) → next_ask os ns ≡ None → AllByRecursion (IsSeen s) ns →
    run_seeing os (sees_by ns) ≡ run_seeing os s
run_seeing-noted os s ns ready all =
    run_from-alike (is_noted ns) (sees_by ns) s 1 os [] (seen-alike s ns all) (none_unnoted (is_noted ns) (asks_from os (sees_by ns) []) ready)

-- ---- what was noted since the begin, and was not written since, is what is seen now

greatest-since : (is_such : Write → Bool) (before since : List Placed) (began : ℕ) → greatest_place is_such (before ++ since) ≤ began → greatest_place is_such since ≤ began
greatest-since is_such [] since began h = h
greatest-since is_such (p ∷ ps) since began h = let rest : greatest_place is_such (ps ++ since) ≤ began = omega arith in greatest-since is_such ps since began rest

none-such : (is_such : Write → Bool) (since : List Placed) (began : ℕ) → AllByRecursion (λ p. began < p.place) since → greatest_place is_such since ≤ began →
    AllByRecursion (λ (p : Placed). is_such p.write ≡ false) since
none-such is_such [] began above h = tt
none-such is_such (p ∷ ps) began above h = (go (is_such p.write) h, none-such is_such ps began above.1 rest)
  where
    rest : greatest_place is_such ps ≤ began
    rest = omega (arith, h)

    go : (b : Bool) → max (cond b p.place 0) (greatest_place is_such ps) ≤ began → b ≡ false
    go true most = let above_here : began < p.place = above.0 in absurd (omega arith)
    go false most = refl

value-suffix : (t : Tables) (ps : List Placed) (map key : List ℕ) → AllByRecursion (λ (p : Placed). is_to_row map key p.write ≡ false) ps →
    value_in (written_after t ps) map key ≡ value_in t map key
value-suffix t [] map key none = refl
value-suffix t (p ∷ ps) map key none =
    value-suffix (wrote t p.write) ps map key none.1 ∙ value_in-wrote t p.write map key
    ∙ ap (λ (b : Bool). cond b p.write.value (value_in t map key)) none.0

rows-suffix : (t : Tables) (ps : List Placed) (map : List ℕ) → AllByRecursion (λ (p : Placed). is_to_map map p.write ≡ false) ps →
    written_after t ps map ≡ t map
rows-suffix t [] map none = refl
rows-suffix t (p ∷ ps) map none =
    rows-suffix (wrote t p.write) ps map none.1
    ∙ ap (λ (b : Bool). cond b (with_row (t map) p.write.key p.write.value) (t map)) none.0

-- where the versions are at or below the length at the begin, what was seen then is seen now
still_seen : (before since : List Placed) (began : ℕ) (note : Note) → AllByRecursion (λ p. began < p.place) since →
    changed_at (versioned_by (before ++ since)) note ≤ began → IsSeen (sees_in (written_by before)) note → IsSeen (sees_in (written_by (before ++ since))) note
still_seen before since began (notes.Row map key value) above unchanged found =
    let none = none-such (is_to_row map key) since began above (greatest-since (is_to_row map key) before since began unchanged) in
    let same : value_in (written_by (before ++ since)) map key ≡ value_in (written_by before) map key =
    ap (λ (t : Tables). value_in t map key) (written_after-append no_tables before since) ∙ value-suffix (written_by before) since map key none in
    found ∙ ap (λ (v : Option (List ℕ)). notes.Row map key v) (sym same)
still_seen before since began (notes.Map map size) above unchanged found =
    let none = none-such (is_to_map map) since began above (greatest-since (is_to_map map) before since began unchanged) in
    let same : written_by (before ++ since) map ≡ written_by before map =
    ap (λ (t : Tables). t map) (written_after-append no_tables before since) ∙ rows-suffix (written_by before) since map none in
    found ∙ ap (λ (n : ℕ). notes.Map map n) (sym (ap len same))

seen_now : (began : ℕ) (now : List Placed) (ns : List Note) → conflict_of began (versioned_by now) ns ≡ None → AllByRecursion (IsNotedSince began now) ns →
    AllByRecursion (IsSeen (sees_in (written_by now))) ns
seen_now began now [] none since = tt
seen_now began now (n ∷ ns) none since =
    go (nat_lt began (changed_at (versioned_by now) n)) refl none (λ rest. seen_now began now ns rest since.1)
  where
    go : (b : Bool) → nat_lt began (changed_at (versioned_by now) n) ≡ b →
        cond b (Some (conflict_at began (versioned_by now) n)) (conflict_of began (versioned_by now) ns) ≡ None →
        (conflict_of began (versioned_by now) ns ≡ None → AllByRecursion (IsSeen (sees_in (written_by now))) ns) →
        AllByRecursion (IsSeen (sees_in (written_by now))) (n ∷ ns)
    go true is h again = absurd (cc)
    go false is h again =
        let noted = since.0 in
        let unchanged : changed_at (versioned_by now) n ≤ began = grind (arith, nat_tests) in (
          subst (λ (ps : List Placed). IsSeen (sees_in (written_by ps)) n) noted.all
              (still_seen noted.before noted.since began n noted.above (subst (λ (ps : List Placed). changed_at (versioned_by ps) n ≤ began) (sym noted.all) unchanged) noted.found),
          again h,
        )

-- An attempt all of whose notes were made since it began, and that meets no conflict, runs on what
-- it noted.
pub run_seeing-since : (os : List Operation) (began : ℕ) (now : List Placed) (ns : List Note) → next_ask os ns ≡ None → conflict_of began (versioned_by now) ns ≡ None →
    AllByRecursion (IsNotedSince began now) ns → run_seeing os (sees_by ns) ≡ run_seeing os (sees_in (written_by now))
run_seeing-since os began now ns ready none since = run_seeing-noted os (sees_in (written_by now)) ns ready (seen_now began now ns none since)

-- ---- the answers of a finish

pub finish-rolled_back : (a : State) (t : Versioned) (cuts : ℕ) (r : RolledBack) →
    Some r ≡ cond (is_rolled_back a.cuts cuts) (Some (rolled_back_between a.cuts cuts)) None → finish_result a t cuts ≡ Err (faults.RolledBack r)
finish-rolled_back a t cuts r h = go (is_rolled_back a.cuts cuts) h
  where
    go : (b : Bool) → Some r ≡ cond b (Some (rolled_back_between a.cuts cuts)) None →
        cond b (Err (faults.RolledBack (rolled_back_between a.cuts cuts))) (unless_conflict (conflict_of a.began t a.noted) (run_answer (run_seeing a.request t.sees)))
        ≡ Err (faults.RolledBack r)
    go true e = let same : rolled_back_between a.cuts cuts ≡ r = cc in ap (λ (x : RolledBack). Err (faults.RolledBack x)) same
    go false e = absurd (cc)

pub finish-unchanged : (a : State) (t : Versioned) (cuts : ℕ) → None ≡ cond (is_rolled_back a.cuts cuts) (Some (rolled_back_between a.cuts cuts)) None →
    finish_result a t cuts ≡ unless_conflict (conflict_of a.began t a.noted) (run_answer (run_seeing a.request t.sees))
finish-unchanged a t cuts h = go (is_rolled_back a.cuts cuts) h
  where
    go : (b : Bool) → None ≡ cond b (Some (rolled_back_between a.cuts cuts)) None →
        cond b (Err (faults.RolledBack (rolled_back_between a.cuts cuts))) (unless_conflict (conflict_of a.began t a.noted) (run_answer (run_seeing a.request t.sees)))
        ≡ unless_conflict (conflict_of a.began t a.noted) (run_answer (run_seeing a.request t.sees))
    go true e = absurd (cc)
    go false e = refl

-- what a finish gives on tables it gives on the writes for which they stand
pub finish-stands : (r : Result Ran (OrNoMemory TxFault)) (a : State) (t : Kept) (ps : List Placed) (cuts : ℕ) → StandsFor t ps →
    Answers (λ ran. ran) r (finish_result a (versioned_of t) cuts) → Answers (λ ran. ran) r (finish_result a (versioned_by ps) cuts)
finish-stands r a t ps cuts stands h =
    subst (λ (v : Versioned). Answers (λ ran. ran) r (finish_result a v cuts)) (versioned_of-stands t ps stands) h

run_answer-ok : (r : Result Ran Abort) (ran : Ran) → run_answer r ≡ Ok ran → r ≡ Ok ran
run_answer-ok (Ok x) ran e = let same : x ≡ ran = cc in ap (λ (y : Ran). Ok y) same
run_answer-ok (Err abort) ran e = absurd (cc)

finish-ok : (a : State) (t : Versioned) (cuts : ℕ) (ran : Ran) → finish_result a t cuts ≡ Ok ran →
    (conflict_of a.began t a.noted ≡ None) × (run_seeing a.request t.sees ≡ Ok ran)
finish-ok a t cuts ran h = go (is_rolled_back a.cuts cuts) (conflict_of a.began t a.noted) refl h
  where
    go : (b : Bool) (o : Option Conflict) → conflict_of a.began t a.noted ≡ o →
        cond b (Err (faults.RolledBack (rolled_back_between a.cuts cuts))) (unless_conflict o (run_answer (run_seeing a.request t.sees))) ≡ Ok ran →
        (conflict_of a.began t a.noted ≡ None) × (run_seeing a.request t.sees ≡ Ok ran)
    go true o is e = absurd (cc)
    go false (Some conflict) is e = absurd (cc)
    go false None is e = (is, run_answer-ok (run_seeing a.request t.sees) ran e)

-- what ran is the run on the notes
pub finish-noted : (r : Result Ran (OrNoMemory TxFault)) (a : State) (ps : List Placed) (cuts : ℕ) → next_of a ≡ None →
    AllByRecursion (IsNotedSince a.began ps) a.noted → Answers (λ ran. ran) r (finish_result a (versioned_by ps) cuts) →
    IfOk r (λ ran. run_seeing a.request (sees_by a.noted) ≡ Ok ran)
finish-noted (Ok ran) a ps cuts ready since h =
    let is = finish-ok a (versioned_by ps) cuts ran h in
    run_seeing-since a.request a.began ps a.noted ready is.0 since ∙ is.1
finish-noted (Err e) a ps cuts ready since h = tt
