-- A ticket is drawn: the rule is kept.
use Rattle.std.proofs.Common.{◌≡◌, ℕ, ◌+◌, ◌^◌, ◌<◌, eqb, Bool, List, get_or, set, refl, sym, ap, ◌∙◌, subst, inl, eq-eqb, ne_eqb, Option, arith}
use mathlib.Core.Logic.{dite}
use mathlib.Core.Option.{none, some}
use native.Mathlib.Decide.{ℕ_discrete}
use lib.ListN.{get_elem?}
use lib.Seq.{set-get_or}
use prog.Atomic.{either}
use Rattle.atomic_table.specs.Table.{State, Me, step, keeps, Allows, stepped}
use Rattle.atomic_table.proofs.Lists.{set_again}
use Rattle.gl_turn.specs.declared.view.View.{View}
use Rattle.gl_turn.specs.declared.view.Stage.{Stage}
use Rattle.gl_turn.specs.declared.view.Stage.TheVariants.{Idle, Waits, Turn, Spent}
use Rattle.gl_turn.specs.View.{in_stage}
use Rattle.gl_turn.specs.Steps.{drawn}
use Rattle.gl_turn.specs.Lawful.{StageFits, Fits, Lawful}
use Rattle.gl_turn.proofs.Trails.{prefix_same}
use Rattle.gl_turn.proofs.Seats.{put, put_here, put_else, kind, Has, Holds, holds_kind, set_at, each, still, refit}

-- With one ticket more, what a stage says stays true.
stage_behind : {E : Type 0} (trail : List E) (serving next j : ℕ) (holder : ℕ → ℕ) (busy : Bool) (id : ℕ) (seen : List E) (stage : Stage)
    → StageFits trail next serving holder busy j seen stage → StageFits trail (next + 1) serving (put holder next id) busy j seen stage
stage_behind trail serving next j holder busy id seen Idle f = tt
stage_behind trail serving next j holder busy id seen (Waits n) f =
    let low = f.1 in (f.0, omega arith, put_else holder next id n (λ e. omega arith) ∙ f.2)
stage_behind trail serving next j holder busy id seen (Turn n) f =
    let low = f.1 in (f.0, omega arith, put_else holder next id n (λ e. omega arith) ∙ f.2, f.3, f.4)
stage_behind trail serving next j holder busy id seen Spent f = tt

module _ {S E : Type 0} (stands : ℕ → S → List E → S → Type 0) (first : ℕ) (start : S) where
  abbrev Rule : State (Option S) (View S E) → Type 0
  Rule = Lawful (stands first start) first start

  draw_keeps : (s : State (Option S) (View S E)) → Rule s → (id : ℕ) (v : View S E) (next : ℕ) → get_elem? s.views id ≡ some v → v.stage ≡ Idle → get_or s.words 0 0 ≡ next → next + 1 < 2 ^ 64
      → Rule record { words = set s.words 0 (next + 1); homes = s.homes; views = set s.views id (in_stage (Waits next) v) }
  draw_keeps s r id v next at idle found low =
      let w : View S E = in_stage (Waits next) v in
      let is : r.ticket ≡ next = sym (ap (λ ws. get_or ws 0 0) r.words) ∙ found in
      let behind = r.behind in
      let f = r.each_seat id v at in
      let k = ap kind idle in
      let stays : (n : ℕ) → Holds n v.stage → Holds n w.stage = λ n h. let t = (holds_kind n v.stage h).0 in absurd (omega arith) in record {
        ticket = next + 1;
        serving = r.serving;
        trail = r.trail;
        holder = put r.holder next id;
        owner = r.owner;
        busy = r.busy;
        now = r.now;
        words = ap (λ ws. set ws 0 (next + 1)) r.words;
        homes = r.homes;
        behind = omega arith;
        low = low;
        legal = r.legal;
        out = λ n above below. dite (ℕ_discrete n next)
            (λ e. let here = put_here r.holder next id in (
              w,
              subst (λ h. get_elem? (set s.views id w) h ≡ some w) (sym here ∙ ap (put r.holder next id) (sym e)) (set_at s.views id v w at),
              inl (ap Waits (sym e)),
            ))
            (λ ne. subst (λ h. Has (λ (u : View S E). Holds n u.stage) (set s.views id w) h) (sym (put_else r.holder next id n ne))
            (still (λ (u : View S E). Holds n u.stage) s.views id v w at (stays n) (r.holder n) (r.out n above (omega arith))));
        turn = λ b. let t = r.turn b in let less = t.0 in (
          omega arith,
          subst (λ h. Has (λ (u : View S E). u.stage ≡ Turn r.serving) (set s.views id w) h) (sym (put_else r.holder next id r.serving (λ e. omega arith)))
              (still (λ (u : View S E). u.stage ≡ Turn r.serving) s.views id v w at (λ e. let c = ap kind e in absurd (omega arith)) (r.holder r.serving) t.1),
        );
        each_seat = each (λ j u. Fits first start r.trail (next + 1) r.serving (put r.holder next id) r.owner r.busy j u) s.views id w
            record {
              begins = f.begins;
              begun = f.begun;
              known = λ _. f.known (λ e. let c = ap kind e in omega arith);
              once = f.once;
              owned = f.owned;
              fits = (omega arith, omega arith, put_here r.holder next id);
            }
            (λ j u other there. refit first start r.trail r.trail r.ticket r.serving (next + 1) r.serving r.holder r.owner (put r.holder next id) r.owner r.busy r.busy j u (r.each_seat j u there)
            (prefix_same r.trail) (λ p _ e. e)
            (λ g. stage_behind r.trail r.serving next j r.holder r.busy id u.seen u.stage (subst (λ t. StageFits r.trail t r.serving r.holder r.busy j u.seen u.stage) is g)));
      }

  pub draws : (slots id : ℕ) (m : Me (Option S) (View S E)) (next : ℕ) → m.0.stage ≡ Idle → next + 1 < 2 ^ 64
      → Allows Rule slots id m 0 (λ n. either (eqb n next) (next + 1) n) (drawn (step slots 0 next (next + 1) none) m)
  draws slots id m next idle low s r _ at _ = let x : ℕ = get_or s.words 0 0 in dite (ℕ_discrete x next)
      (λ hit. (
        in_stage (Waits x) m.0,
        keeps,
        tt,
        subst (λ b. Rule (stepped s 0 (either b (next + 1) x) id m.1 (in_stage (Waits x) m.0) keeps)) (sym (eq-eqb x next hit))
            (subst (λ n. Rule (stepped s 0 (next + 1) id m.1 (in_stage (Waits n) m.0) keeps)) (sym hit) (draw_keeps s r id m.0 next at idle hit low)),
        ((λ _. refl), λ miss. absurd (miss hit)),
      ))
      (λ miss. (
        m.0,
        keeps,
        tt,
        subst (λ b. Rule (stepped s 0 (either b (next + 1) x) id m.1 m.0 keeps)) (sym (ne_eqb x next miss))
            (subst (λ (z : List ℕ × List (View S E)). Rule record { words = z.0; homes = s.homes; views = z.1 }) (λ i. (sym (set-get_or s.words 0 0) i, sym (set_again s.views id m.0 at) i)) r),
        ((λ hit. absurd (miss hit)), λ _. refl),
      ))
