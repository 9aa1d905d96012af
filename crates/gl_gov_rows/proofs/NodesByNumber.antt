-- Nodes put at the places of their numbers, one after the other, and what stands at all of these.
use Rattle.std.proofs.Common.{◌≡◌, ◌≢◌, ℕ, zero, suc, ◌+◌, ◌<◌, true, false, cond, List, [], ◌∷◌, ◌++◌, length, map, nat_eq, Option, None, Some, refl, sym, ap, ◌∙◌, append_assoc, take, drop, arith}
use Rattle.std.proofs.Math.ListN.{get_or, set}
use Rattle.std.proofs.Math.Seq.{take-append_seam}
use Rattle.std.proofs.lemmas.List.FromFn.{length-map-range_with_len}
use Rattle.std.specs.List.{range_with_len}
use Rattle.std.specs.Option.{option_or}
use Rattle.std.proofs.lemmas.List.{append-nil}
use Rattle.std.proofs.lemmas.List.Folds.{find-append}
use Rattle.std.proofs.lemmas.Bool.Decides.{nat_tests}
use Rattle.gl_gov_rules.specs.declared.row.NodeRow.{NodeRow}
use Rattle.gl_gov_rules.specs.GovernedRows.{with_next, numbered_from}
use Rattle.gl_gov_rows.specs.Reading.{node_numbered, by_number, all_of}

-- ---- one more node

abbrev places_from : List NodeRow → ℕ → ℕ → List (Option NodeRow)
places_from ns number count = map (node_numbered ns) (range_with_len number count)

or_itself : (o : Option NodeRow) → option_or o None ≡ o
or_itself None = refl
or_itself (Some n) = refl

other : (ns : List NodeRow) (x : NodeRow) (number : ℕ) → x.order ≢ number → node_numbered (ns ++ x ∷ []) number ≡ node_numbered ns number
other ns x number differs =
    let no : nat_eq x.order number ≡ false = grind (arith, nat_tests) in
    find-append (λ (n : NodeRow). nat_eq n.order number) ns (x ∷ []) ∙ rw no (or_itself (node_numbered ns number))

its_own : (ns : List NodeRow) (x : NodeRow) (number : ℕ) → x.order ≡ number → node_numbered (ns ++ x ∷ []) number ≡ option_or (node_numbered ns number) (Some x)
its_own ns x number same =
    let yes : nat_eq x.order number ≡ true = grind (arith, nat_tests) in
    find-append (λ (n : NodeRow). nat_eq n.order number) ns (x ∷ []) ∙ ap (λ is. option_or (node_numbered ns number) (cond is (Some x) None)) yes

-- a node whose number is none of these changes no place
pub outside : (ns : List NodeRow) (x : NodeRow) (number count : ℕ) → ((i : ℕ) → i < count → x.order ≢ number + i) → places_from ns number count ≡ places_from (ns ++ x ∷ []) number count
outside ns x number zero none = refl
outside ns x number (suc count) none =
    let first : x.order ≢ number = λ same. none 0 (omega arith) (omega (arith, same)) in
    let others = outside ns x (number + 1) count (λ i lt same. none (suc i) (omega (arith, lt)) (omega (arith, same))) in
    ap (λ o. o ∷ places_from ns (number + 1) count) (sym (other ns x number first)) ∙ ap (λ os. node_numbered (ns ++ x ∷ []) number ∷ os) others

pub at_its_place : (ns : List NodeRow) (x : NodeRow) (number count i : ℕ) (d : Option NodeRow) → i < count → x.order ≡ number + i
    → set (places_from ns number count) i (option_or (get_or (places_from ns number count) i d) (Some x)) ≡ places_from (ns ++ x ∷ []) number count
at_its_place ns x number zero i d lt is = absurd (omega (arith, lt))
at_its_place ns x number (suc count) zero d lt is =
    let others = outside ns x (number + 1) count (λ i below same. omega (arith, is, same)) in
    ap (λ o. o ∷ places_from ns (number + 1) count) (sym (its_own ns x number (omega (arith, is)))) ∙ ap (λ os. node_numbered (ns ++ x ∷ []) number ∷ os) others
at_its_place ns x number (suc count) (suc i) d lt is =
    let first : x.order ≢ number = λ same. omega (arith, is, same) in
    let others = at_its_place ns x (number + 1) count i d (omega (arith, lt)) (omega (arith, is)) in
    ap (λ o. o ∷ set (places_from ns (number + 1) count) i (option_or (get_or (places_from ns (number + 1) count) i d) (Some x))) (sym (other ns x number first))
    ∙ ap (λ os. node_numbered (ns ++ x ∷ []) number ∷ os) others

-- ---- all of them

-- What was found before, before what is still found.
abbrev pub behind : List NodeRow → Option (List NodeRow) → Option (List NodeRow)
behind prefix None = None
behind prefix (Some ns) = Some (prefix ++ ns)

pub all_more : (prefix : List NodeRow) (n : NodeRow) (found : Option (List NodeRow)) → behind (prefix ++ n ∷ []) found ≡ behind prefix (with_next (Some n) found)
all_more prefix n None = refl
all_more prefix n (Some ns) = ap (λ (xs : List NodeRow). Some xs) (append_assoc prefix (n ∷ []) ns)

pub all_done : (prefix : List NodeRow) → behind prefix (all_of []) ≡ Some prefix
all_done prefix = ap (λ (xs : List NodeRow). Some xs) (append-nil prefix)

pub all_numbered : (ns : List NodeRow) (number count : ℕ) → all_of (map (node_numbered ns) (range_with_len number count)) ≡ numbered_from count number ns
all_numbered ns number zero = refl
all_numbered ns number (suc count) =
    let next : number + 1 ≡ suc number = omega arith in
    ap (λ k. with_next (node_numbered ns number) (all_of (map (node_numbered ns) (range_with_len k count)))) next
    ∙ ap (with_next (node_numbered ns number)) (all_numbered ns (suc number) count)

-- ---- the places as they are written back

pub length-by_number : (ns : List NodeRow) (count : ℕ) → length (by_number ns count) ≡ count
length-by_number ns count = length-map-range_with_len (node_numbered ns) 1 count

pub put_back : {X : Type 0} (xs ys : List X) (len : ℕ) → len ≡ length ys → length xs ≡ length ys → take len (xs ++ drop (length xs) ys) ≡ xs
put_back xs ys len all same = ap (λ n. take n (xs ++ drop (length xs) ys)) (all ∙ sym same) ∙ take-append_seam xs (drop (length xs) ys)
