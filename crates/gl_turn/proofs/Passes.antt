-- A first pass is made, a pass is split, and two are joined: the rule is kept.
use Rattle.std.proofs.Common.{◌≡◌, ◌≢◌, ℕ, zero, suc, ◌+◌, ◌%◌, ◌^◌, ◌<◌, false, List, [], ◌∷◌, ◌++◌, set, refl, sym, ap, ◌∙◌, subst, ⊎_elim, true≢false, Option, Some, arith}
use mathlib.Core.Logic.{dite}
use mathlib.Core.Option.{none, some, some-injective, some-ne-none}
use native.Mathlib.Decide.{dec_le}
use lib.ListN.{get_elem?}
use lib.Seq.{set-get_or}
use Rattle.atomic_table.specs.Table.{State, Me, step, keeps, Allows, Splits, Joins, opening}
use Rattle.atomic_table.proofs.Lists.{at_set, at_snoc, at_longer, set_else, set_again}
use Rattle.gl_turn.specs.declared.view.View.{View}
use Rattle.gl_turn.specs.declared.view.Stage.{Stage}
use Rattle.gl_turn.specs.declared.view.Stage.TheVariants.{Idle, Turn, Spent}
use Rattle.gl_turn.specs.View.{heir, merged, newcomer, passed_on, longer, times}
use Rattle.gl_turn.specs.Steps.{learned}
use Rattle.gl_turn.specs.Lawful.{StageFits, Fits, Lawful}
use Rattle.gl_turn.proofs.Trails.{prefix_same, shorter_begins, longer_begins, times_both}
use Rattle.gl_turn.proofs.Seats.{kind, put, put_here, put_else, Holds, holds_kind, each, still, refit}

-- The owners, once one seat has taken over the places of another.
abbrev taken_over : (ℕ → ℕ) → ℕ → ℕ → ℕ → ℕ
taken_over owner id other p = put (λ j. j) other id (owner p)

over_here : (owner : ℕ → ℕ) (id other p : ℕ) → owner p ≡ other → taken_over owner id other p ≡ id
over_here owner id other p e = ap (put (λ j. j) other id) e ∙ put_here (λ j. j) other id

over_else : (owner : ℕ → ℕ) (id other p : ℕ) → owner p ≢ other → taken_over owner id other p ≡ owner p
over_else owner id other p ne = put_else (λ j. j) other id (owner p) ne

module _ {S E : Type 0} (stands : ℕ → S → List E → S → Type 0) (first : ℕ) (start : S) where
  abbrev Rule : State (Option S) (View S E) → Type 0
  Rule = Lawful (stands first start) first start

  pub opens : first < 2 ^ 64 → stands first start [] start → Rule (opening (0 ∷ 0 ∷ first ∷ []) (Some start ∷ []) (newcomer start first))
  opens low legal = record {
    ticket = 0;
    serving = 0;
    trail = [];
    holder = λ _. 0;
    owner = λ _. 0;
    busy = false;
    now = start;
    words = (let e : first ≡ (first + 0) % 18446744073709551616 = omega arith in ap (λ (z : ℕ). 0 ∷ 0 ∷ z ∷ []) e);
    homes = refl;
    behind = omega arith;
    low = omega arith;
    legal = legal;
    out = λ n above below. absurd (omega arith);
    turn = λ b. absurd (true≢false (sym b));
    each_seat = go;
  }
    where
      go : (j : ℕ) (v : View S E) → get_elem? (newcomer start first ∷ []) j ≡ some v → Fits first start [] 0 0 (λ _. 0) (λ _. 0) false j v
      go zero v e = subst (Fits first start [] 0 0 (λ _. 0) (λ _. 0) false 0) (some-injective (newcomer start first) v e) record {
        begins = ([], refl);
        begun = ([], refl);
        known = λ _. (refl, refl);
        once = λ p. omega arith;
        owned = λ p some. absurd (omega arith);
        fits = tt;
      }
      go (suc j) v e = absurd (some-ne-none v (sym e))

  -- One more seat at the end, and one seat's view anew: of the same stage, or of no ticket before and after.
  pub learns : (slots id : ℕ) (m : Me (Option S) (View S E)) → Allows Rule slots id m 0 (λ x. x) (learned (step slots 0 0 0 none) m)
  learns slots id m s r _ at _ =
      let v : View S E = m.0 in
      let w : View S E = record v { less = [] } in
      let f = r.each_seat id v at in (
        w,
        keeps,
        tt,
        subst (λ ws. Rule record { words = ws; homes = s.homes; views = set s.views id w }) (sym (set-get_or s.words 0 0)) record {
          ticket = r.ticket;
          serving = r.serving;
          trail = r.trail;
          holder = r.holder;
          owner = r.owner;
          busy = r.busy;
          now = r.now;
          words = r.words;
          homes = r.homes;
          behind = r.behind;
          low = r.low;
          legal = r.legal;
          out = λ k above below. still (λ (u : View S E). Holds k u.stage) s.views id v w at (λ p. p) (r.holder k) (r.out k above below);
          turn = λ b. let u = r.turn b in (u.0, still (λ (u : View S E). u.stage ≡ Turn r.serving) s.views id v w at (λ p. p) (r.holder r.serving) u.1);
          each_seat = each (λ j u. Fits first start r.trail r.ticket r.serving r.holder r.owner r.busy j u) s.views id w
              record {
                begins = f.begins;
                begun = (v.seen, refl);
                known = f.known;
                once = f.once;
                owned = f.owned;
                fits = f.fits;
              }
              (λ j u _ there. r.each_seat j u there);
        },
        (refl, f.begun, f.once),
      )

  pub splits : (id : ℕ) (v : View S E) → v.stage ≢ Spent → Splits Rule id v v (heir v)
  splits id v known s r at =
      let w : View S E = heir v in
      let f = r.each_seat id v at in
      let same = set_again s.views id v at in
      subst (λ vs. Rule record { words = s.words; homes = s.homes; views = vs ++ w ∷ [] }) (sym same) record {
        ticket = r.ticket;
        serving = r.serving;
        trail = r.trail;
        holder = r.holder;
        owner = r.owner;
        busy = r.busy;
        now = r.now;
        words = r.words;
        homes = r.homes;
        behind = r.behind;
        low = r.low;
        legal = r.legal;
        out = λ k above below. let o = r.out k above below in (o.0, at_longer s.views (w ∷ []) (r.holder k) o.0 o.1, o.2);
        turn = λ b. let u = r.turn b in (u.0, (u.1.0, at_longer s.views (w ∷ []) (r.holder r.serving) u.1.0 u.1.1, u.1.2));
        each_seat = λ j u e. ⊎_elim (r.each_seat j u)
            (λ (t : w ≡ u). subst (Fits first start r.trail r.ticket r.serving r.holder r.owner r.busy j) t record {
              begins = f.begins;
              begun = (v.seen, refl);
              known = λ _. f.known known;
              once = λ p. omega arith;
              owned = λ p some. absurd (omega arith);
              fits = tt;
            })
            (at_snoc s.views w u j e);
      }

  pub joins : (id : ℕ) (v : View S E) (other : ℕ) (w : View S E) → v.stage ≡ Idle → w.stage ≡ Idle → Joins Rule id v other w (merged v w) passed_on
  joins id v other w idle idle' s r at apart there' =
      let vs : List (View S E) = set s.views id (merged v w) in
      let there : get_elem? s.views other ≡ some w = sym (set_else s.views id other (merged v w) apart) ∙ there' in
      let f = r.each_seat id v at in
      let g = r.each_seat other w there in
      let owner' : ℕ → ℕ = taken_over r.owner id other in
      let k = ap kind idle in
      let k' = ap kind idle' in
      let gone : (n : ℕ) (stage : Stage) → kind stage ≡ 0 → (later : Stage) → Holds n stage → Holds n later = λ n stage z later h. let t = (holds_kind n stage h).0 in absurd (omega arith) in
      let turns : (stage : Stage) → kind stage ≡ 0 → (later : Stage) → stage ≡ Turn r.serving → later ≡ Turn r.serving = λ stage z later e. let t = ap kind e in absurd (omega arith) in record {
        ticket = r.ticket;
        serving = r.serving;
        trail = r.trail;
        holder = r.holder;
        owner = owner';
        busy = r.busy;
        now = r.now;
        words = r.words;
        homes = r.homes;
        behind = r.behind;
        low = r.low;
        legal = r.legal;
        out = λ n above below. still (λ (u : View S E). Holds n u.stage) vs other w passed_on there' (gone n w.stage k' Spent) (r.holder n)
            (still (λ (u : View S E). Holds n u.stage) s.views id v (merged v w) at (λ h. h) (r.holder n) (r.out n above below));
        turn = λ b. let u = r.turn b in (
          u.0,
          still (λ (u : View S E). u.stage ≡ Turn r.serving) vs other w passed_on there' (turns w.stage k' Spent) (r.holder r.serving)
              (still (λ (u : View S E). u.stage ≡ Turn r.serving) s.views id v (merged v w) at (λ h. h) (r.holder r.serving) u.1),
        );
        each_seat = each (λ j u. Fits first start r.trail r.ticket r.serving r.holder owner' r.busy j u) vs other passed_on
            record {
              begins = (r.trail, refl);
              begun = ([], refl);
              known = λ n. absurd (n refl);
              once = λ p. omega arith;
              owned = λ p some. absurd (omega arith);
              fits = tt;
            }
            (λ j u far here. ⊎_elim
            (λ (t : (j ≡ id) × (merged v w ≡ u)). subst (λ (z : ℕ × View S E). Fits first start r.trail r.ticket r.serving r.holder owner' r.busy z.0 z.1) (λ i. (sym t.0 i, t.1 i)) record {
              begins = longer_begins v.seen w.seen r.trail f.begins g.begins;
              begun = shorter_begins v.seen w.seen r.trail f.begins g.begins;
              known = f.known;
              once = λ p. let sum = times_both p v.own w.own in let a = f.once p in let b = g.once p in
                  dite (dec_le (times p v.own) 0) (λ none. omega arith)
                  (λ some. dite (dec_le (times p w.own) 0) (λ none. omega arith)
                  (λ more. absurd (apart (sym (g.owned p (omega arith)).1 ∙ (f.owned p (omega arith)).1))));
              owned = λ p some. let sum = times_both p v.own w.own in
                  dite (dec_le (times p v.own) 0)
                  (λ none. let o = g.owned p (omega arith) in (o.0, over_here r.owner id other p o.1))
                  (λ old. let o = f.owned p (omega arith) in (o.0, over_else r.owner id other p (λ e. apart (sym e ∙ o.1)) ∙ o.1));
              fits = subst (StageFits r.trail r.ticket r.serving r.holder r.busy id (longer v.seen w.seen)) (sym idle) tt;
            })
            (λ (t : (j ≢ id) × (get_elem? s.views j ≡ some u)). refit first start r.trail r.trail r.ticket r.serving r.ticket r.serving r.holder r.owner r.holder owner' r.busy r.busy j u (r.each_seat j u t.1)
            (prefix_same r.trail) (λ p _ e. over_else r.owner id other p (λ e'. far (sym e ∙ e')) ∙ e) (λ h. h))
            (at_set s.views id j (merged v w) u here));
      }

  -- The first pass, and the state in the slot.
  pub opens_with : (state : S) (items : List (Option S)) → start ≡ state → items ≡ Some state ∷ [] → first < 2 ^ 64 → stands first state [] state → Rule (opening (0 ∷ 0 ∷ first ∷ []) items (newcomer start first))
  opens_with state items same held low legal = subst (λ xs. Rule (opening (0 ∷ 0 ∷ first ∷ []) xs (newcomer start first))) (sym (held ∙ ap (λ z. Some z ∷ []) (sym same)))
      (opens low (subst (λ z. stands first z [] z) (sym same) legal))
