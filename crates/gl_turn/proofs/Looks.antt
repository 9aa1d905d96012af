-- A pass looks whether its turn has come, and takes the state where it has: the rule is kept.
use Rattle.std.proofs.Common.{◌≡◌, ℕ, ◌<◌, ◌≤◌, Bool, true, false, List, [], ◌∷◌, get_or, set, refl, sym, ap, ◌∙◌, subst, inr, true≢false, Option, Some, arith}
use mathlib.Core.Logic.{dite}
use mathlib.Core.Option.{none, some}
use native.Mathlib.Decide.{ℕ_discrete}
use lib.ListN.{get_elem?}
use lib.Seq.{set-get_or}
use Rattle.atomic_table.specs.Table.{State, Me, step, keeps, takes, Allows}
use Rattle.atomic_table.proofs.Lists.{set_again}
use Rattle.gl_turn.specs.declared.view.View.{View}
use Rattle.gl_turn.specs.declared.view.Stage.{Stage}
use Rattle.gl_turn.specs.declared.view.Stage.TheVariants.{Idle, Waits, Turn, Spent}
use Rattle.gl_turn.specs.View.{at_turn}
use Rattle.gl_turn.specs.Steps.{looked}
use Rattle.gl_turn.specs.Lawful.{StageFits, Fits, Lawful, home_of}
use Rattle.gl_turn.proofs.Trails.{prefix_same}
use Rattle.gl_turn.proofs.Seats.{kind, ticket_of, Holds, holds_kind, not_true, set_at, each, still, that_one, refit}

-- While no pass has the turn, what a stage says stays true when one gets it.
stage_free : {E : Type 0} (trail : List E) (ticket serving j : ℕ) (holder : ℕ → ℕ) (busy : Bool) (seen : List E) (stage : Stage) → busy ≡ false
    → StageFits trail ticket serving holder busy j seen stage → StageFits trail ticket serving holder true j seen stage
stage_free trail ticket serving j holder busy seen Idle free f = tt
stage_free trail ticket serving j holder busy seen (Waits n) free f = f
stage_free trail ticket serving j holder busy seen (Turn n) free f = absurd (true≢false (sym f.3 ∙ free))
stage_free trail ticket serving j holder busy seen Spent free f = tt

module _ {S E : Type 0} (stands : ℕ → S → List E → S → Type 0) (first : ℕ) (start : S) where
  abbrev Rule : State (Option S) (View S E) → Type 0
  Rule = Lawful (stands first start) first start

  -- What the rule says of a pass that waits.
  waiting : (s : State (Option S) (View S E)) (r : Rule s) (id : ℕ) (v : View S E) (n : ℕ) → get_elem? s.views id ≡ some v → v.stage ≡ Waits n → (r.serving ≤ n) × (n < r.ticket) × (r.holder n ≡ id)
  waiting s r id v n at is = subst (StageFits r.trail r.ticket r.serving r.holder r.busy id v.seen) is (r.each_seat id v at).fits

  -- While a pass waits for the ticket that is served, no pass has the turn.
  free : (s : State (Option S) (View S E)) (r : Rule s) (id : ℕ) (v : View S E) (n : ℕ) → get_elem? s.views id ≡ some v → v.stage ≡ Waits n → r.serving ≡ n → r.busy ≡ false
  free s r id v n at is now = not_true r.busy (λ b.
      let mine : r.holder r.serving ≡ id = ap r.holder now ∙ (waiting s r id v n at is).2 in
      let has = that_one (λ (u : View S E). u.stage ≡ Turn r.serving) s.views id (r.holder r.serving) v at mine (r.turn b).1 in
      let k = ap kind (sym has ∙ is) in omega arith)

  look_keeps : (s : State (Option S) (View S E)) (r : Rule s) (id : ℕ) (v : View S E) (n : ℕ) → get_elem? s.views id ≡ some v → v.stage ≡ Waits n → r.serving ≡ n
      → Rule record { words = s.words; homes = set s.homes 0 none; views = set s.views id (at_turn n r.trail v) }
  look_keeps s r id v n at is now =
      let w : View S E = at_turn n r.trail v in
      let f = r.each_seat id v at in
      let t = waiting s r id v n at is in
      let high = t.1 in
      let idle = free s r id v n at is now in
      let mine : r.holder r.serving ≡ id = ap r.holder now ∙ t.2 in
      let stays : (k : ℕ) → Holds k v.stage → Holds k w.stage = λ k h. inr (ap Turn (ap ticket_of (sym is) ∙ (holds_kind k v.stage h).2)) in record {
        ticket = r.ticket;
        serving = r.serving;
        trail = r.trail;
        holder = r.holder;
        owner = r.owner;
        busy = true;
        now = r.now;
        words = r.words;
        homes = ap (λ hs. set hs 0 none) r.homes;
        behind = r.behind;
        low = r.low;
        legal = r.legal;
        out = λ k above below. still (λ (u : View S E). Holds k u.stage) s.views id v w at (stays k) (r.holder k) (r.out k above below);
        turn = λ _. (omega arith, (w, subst (λ h. get_elem? (set s.views id w) h ≡ some w) (sym mine) (set_at s.views id v w at), ap Turn (sym now)));
        each_seat = each (λ j u. Fits first start r.trail r.ticket r.serving r.holder r.owner true j u) s.views id w
            record {
              begins = prefix_same r.trail;
              begun = (r.trail, refl);
              known = λ _. f.known (λ e. let c = ap kind (sym is ∙ e) in omega arith);
              once = f.once;
              owned = f.owned;
              fits = (sym now, high, t.2, refl, refl);
            }
            (λ j u other there. refit first start r.trail r.trail r.ticket r.serving r.ticket r.serving r.holder r.owner r.holder r.owner r.busy true j u (r.each_seat j u there)
            (prefix_same r.trail) (λ p _ e. e) (stage_free r.trail r.ticket r.serving j r.holder r.busy u.seen u.stage idle));
      }

  pub looks : (slots id : ℕ) (m : Me (Option S) (View S E)) (n : ℕ) → m.0.stage ≡ Waits n → Allows Rule slots id m 1 (λ x. x) (looked stands (step slots 1 0 0 none) m)
  looks slots id m n is s r _ at _ = let x : ℕ = get_or s.words 1 0 in let serves : x ≡ r.serving = ap (λ ws. get_or ws 1 0) r.words in
      let same : (k : ℕ) → m.0.stage ≡ Waits k → n ≡ k = λ k e. ap ticket_of (sym is ∙ e) in
      let unchanged : set s.words 1 x ≡ s.words = set-get_or s.words 1 0 in
      dite (ℕ_discrete x n)
      (λ hit. let now : r.serving ≡ n = sym serves ∙ hit in
      let w : View S E = at_turn n r.trail m.0 in
      let f = r.each_seat id m.0 at in
      let known = f.known (λ e. let c = ap kind (sym is ∙ e) in omega arith) in
      let at_home : s.homes ≡ some (Some r.now) ∷ [] = r.homes ∙ ap (λ b. home_of b r.now ∷ []) (free s r id m.0 n at is now) in (
        w,
        takes 0 (Some r.now),
        ap (λ hs. get_elem? hs 0) at_home,
        subst (λ ws. Rule record { words = ws; homes = set s.homes 0 none; views = set s.views id w }) (sym unchanged) (look_keeps s r id m.0 n at is now),
        λ k e. (
          (λ _. (
            r.trail,
            r.now,
            (λ i. (at_turn (same k e i) r.trail m.0, (0, Some r.now) ∷ m.1)),
            f.begins,
            (start, known.0, subst (λ z. stands z start r.trail r.now) (sym known.1) r.legal),
          )),
          λ miss. absurd (miss (hit ∙ same k e)),
        ),
      ))
      (λ miss. (
        m.0,
        keeps,
        tt,
        subst (λ (z : List ℕ × List (View S E)). Rule record { words = z.0; homes = s.homes; views = z.1 }) (λ i. (sym unchanged i, sym (set_again s.views id m.0 at) i)) r,
        λ k e. ((λ hit. absurd (miss (hit ∙ sym (same k e)))), λ _. refl),
      ))
