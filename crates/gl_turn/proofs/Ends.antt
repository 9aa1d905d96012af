-- What the last state of the table tells a pass.
use Rattle.std.proofs.Common.{◌≡◌, ◌≢◌, ℕ, ◌+◌, ◌%◌, ◌^◌, false, List, [], ◌∷◌, length, sym, ap, ◌∙◌, subst, unwrap_or, Option, Some, None, arith}
use mathlib.Core.Option.{some, some-injective}
use lib.ListN.{get_elem?}
use Rattle.atomic_table.specs.Table.{State, Seen, Final}
use Rattle.gl_turn.specs.declared.view.View.{View}
use Rattle.gl_turn.specs.declared.view.Stage.TheVariants.{Spent}
use Rattle.gl_turn.specs.Lawful.{Lawful, Ends, home_of}
use Rattle.gl_turn.proofs.Seats.{not_true}

abbrev count_of : {S : Type 0} → Option S → ℕ
count_of None = 0
count_of (Some x) = 1

pub some_or_none : {S : Type 0} (o : Option S) (x : S) → o ≡ Some x → o ≡ None → ⊥
some_or_none o x a b = let e = ap count_of (sym a ∙ b) in omega arith

module _ {S E : Type 0} (stands : ℕ → S → List E → S → Type 0) (first : ℕ) (start : S) where
  abbrev Rule : State (Option S) (View S E) → Type 0
  Rule = Lawful (stands first start) first start

  -- A last state of the table, with the view of the pass, in which this ticket is served and that one is the next to be drawn.
  abbrev Last : ℕ → View S E → ℕ → ℕ → Type 0
  Last id v serving ticket = (s : State (Option S) (View S E)) × (count : ℕ) × Seen Rule id v s × (s.words ≡ ticket ∷ serving ∷ count ∷ [])

  pub at_end : (id : ℕ) (v : View S E) (ws : List ℕ) (xs : List (Option S)) (ticket serving : ℕ) → Final (Seen Rule id v) ws xs → get_elem? ws 0 ≡ some ticket → get_elem? ws 1 ≡ some serving → Last id v serving ticket
  at_end id v ws xs ticket serving t drawn served =
      let s = t.0 in
      let r = t.1.0 in
      let count : ℕ = (first + length r.trail) % 2 ^ 64 in
      let same : ws ≡ r.ticket ∷ r.serving ∷ count ∷ [] = sym t.2 ∙ r.words in
      let a : r.ticket ≡ ticket = some-injective r.ticket ticket (sym (ap (λ l. get_elem? l 0) same) ∙ drawn) in
      let b : r.serving ≡ serving = some-injective r.serving serving (sym (ap (λ l. get_elem? l 1) same) ∙ served) in
      (s, count, t.1, r.words ∙ (λ i. a i ∷ b i ∷ count ∷ []))

  -- Where all turns were given back, the slot has the state that the trail ends in.
  pub ends : (id : ℕ) (v : View S E) (ws : List ℕ) (xs : List (Option S)) (ticket serving : ℕ) (slot : Option S) → v.stage ≢ Spent → Final (Seen Rule id v) ws xs
      → get_elem? ws 0 ≡ some ticket → get_elem? ws 1 ≡ some serving → serving ≡ ticket → get_elem? xs 0 ≡ some slot → (x : S) × (slot ≡ Some x) × Ends stands v x
  ends id v ws xs ticket serving slot known t drawn served same here =
      let s = t.0 in
      let r = t.1.0 in
      let f = r.each_seat id v t.1.1 in
      let k = f.known known in
      let all : ws ≡ r.ticket ∷ r.serving ∷ (first + length r.trail) % 2 ^ 64 ∷ [] = sym t.2 ∙ r.words in
      let a : r.ticket ≡ ticket = some-injective r.ticket ticket (sym (ap (λ l. get_elem? l 0) all) ∙ drawn) in
      let b : r.serving ≡ serving = some-injective r.serving serving (sym (ap (λ l. get_elem? l 1) all) ∙ served) in
      let free : r.busy ≡ false = not_true r.busy (λ out. let less = (r.turn out).0 in omega arith) in
      let home : get_elem? s.homes 0 ≡ some (some (Some r.now)) = ap (λ l. get_elem? l 0) r.homes ∙ ap (λ b. some (home_of b r.now)) free in
      let there : get_elem? xs 0 ≡ some (Some r.now) = t.4 0 (Some r.now) home in
      (r.now, some-injective slot (Some r.now) (sym here ∙ there), (r.trail, f.begins, (start, k.0, subst (λ z. stands z start r.trail r.now) (sym k.1) r.legal)))

  -- What `close` says of the state that it gives.
  pub closes : (id : ℕ) (v : View S E) (ws : List ℕ) (xs : List (Option S)) (ticket serving : ℕ) (slot : Option S) (x : S) → v.stage ≢ Spent → Final (Seen Rule id v) ws xs
      → get_elem? ws 0 ≡ some ticket → get_elem? ws 1 ≡ some serving → serving ≡ ticket → get_elem? xs 0 ≡ some slot → slot ≡ Some x
      → Ends stands v x × ((n : ℕ) × Last id v n n)
  closes id v ws xs ticket serving slot x known t drawn served same here is =
      let e = ends id v ws xs ticket serving slot known t drawn served same here in
      let it : e.0 ≡ x = ap (λ o. unwrap_or o x) (sym e.1 ∙ is) in
      (subst (λ z. Ends stands v z) it e.2, (ticket, at_end id v ws xs ticket ticket t drawn (served ∙ ap some same)))
