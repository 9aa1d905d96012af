-- The count is raised by what the turn made, and the turn is handed on: the rule is kept.
use Rattle.std.proofs.Common.{◌≡◌, ◌≢◌, ℕ, ◌+◌, ◌%◌, ◌^◌, ◌<◌, ◌≤◌, ltb, cond, Bool, true, false, List, [], ◌∷◌, ◌++◌, length, get_or, set, refl, sym, ap, ◌∙◌, subst, true≢false, lt-ltb, le-ltb, length-append, mod-eq_of_lt, unwrap_or, Option, Some, None, arith}
use Rattle.std.proofs.Math.Nat.{mod-add-mod}
use mathlib.Core.Logic.{dite}
use mathlib.Core.Option.{none, some}
use native.Mathlib.Decide.{ℕ_discrete, dec_le}
use lib.ListN.{get_elem?}
use Rattle.atomic_table.specs.Table.{State, Me, step, keeps, gives, rest, put_back, Allows}
use Rattle.gl_turn.specs.declared.view.View.{View}
use Rattle.gl_turn.specs.declared.view.Stage.{Stage}
use Rattle.gl_turn.specs.declared.view.Stage.TheVariants.{Idle, Waits, Turn, Spent}
use Rattle.gl_turn.specs.View.{StandsFor, in_stage, raised, times, places}
use Rattle.gl_turn.specs.Steps.{counted, handed_on}
use Rattle.gl_turn.specs.Lawful.{StageFits, Fits, Lawful, home_of}
use Rattle.gl_turn.proofs.Trails.{prefix_same, times_both, times_outside, times_inside, times_once}
use Rattle.gl_turn.proofs.Seats.{kind, ticket_of, Holds, holds_kind, each, still, refit}

some_same : {S : Type 0} (x y : S) → Some x ≡ Some y → x ≡ y
some_same x y e = ap (λ o. unwrap_or o x) e

-- Another seat's stage, where the trail grows in a turn that isn't its own.
stage_longer : {E : Type 0} (trail trail' : List E) (ticket serving j id : ℕ) (holder : ℕ → ℕ) (busy : Bool) (seen : List E) (stage : Stage) → holder serving ≡ id → j ≢ id
    → StageFits trail ticket serving holder busy j seen stage → StageFits trail' ticket serving holder busy j seen stage
stage_longer trail trail' ticket serving j id holder busy seen Idle mine other f = tt
stage_longer trail trail' ticket serving j id holder busy seen (Waits n) mine other f = f
stage_longer trail trail' ticket serving j id holder busy seen (Turn n) mine other f = absurd (other (sym f.2 ∙ (ap holder f.0 ∙ mine)))
stage_longer trail trail' ticket serving j id holder busy seen Spent mine other f = tt

-- Another seat's stage, where the turn is handed on.
stage_next : {E : Type 0} (trail : List E) (ticket serving j id : ℕ) (holder : ℕ → ℕ) (busy : Bool) (seen : List E) (stage : Stage) → holder serving ≡ id → j ≢ id
    → StageFits trail ticket serving holder busy j seen stage → StageFits trail ticket (serving + 1) holder false j seen stage
stage_next trail ticket serving j id holder busy seen Idle mine other f = tt
stage_next trail ticket serving j id holder busy seen (Waits n) mine other f = let low = f.0 in
    let later : n ≢ serving = λ e. other (sym f.2 ∙ (ap holder e ∙ mine)) in
    dite (ℕ_discrete n serving) (λ e. absurd (later e)) (λ ne. (omega arith, f.1, f.2))
stage_next trail ticket serving j id holder busy seen (Turn n) mine other f = absurd (other (sym f.2 ∙ (ap holder f.0 ∙ mine)))
stage_next trail ticket serving j id holder busy seen Spent mine other f = tt

-- The owners, once new places from `low` on are one seat's.
abbrev owned_by : (ℕ → ℕ) → ℕ → ℕ → ℕ → ℕ
owned_by owner low id p = cond (ltb p low) (owner p) id

owned_below : (owner : ℕ → ℕ) (low id p : ℕ) → p < low → owned_by owner low id p ≡ owner p
owned_below owner low id p less = ap (λ b. cond b (owner p) id) (lt-ltb p low less)

owned_above : (owner : ℕ → ℕ) (low id p : ℕ) → low ≤ p → owned_by owner low id p ≡ id
owned_above owner low id p le = ap (λ b. cond b (owner p) id) (le-ltb p low le)

module _ {S E : Type 0} (stands : ℕ → S → List E → S → Type 0) (first : ℕ) (start : S) where
  abbrev Rule : State (Option S) (View S E) → Type 0
  Rule = Lawful (stands first start) first start

  -- What the rule says of the pass that has the turn.
  in_turn : (s : State (Option S) (View S E)) (r : Rule s) (id : ℕ) (v : View S E) (n : ℕ) → get_elem? s.views id ≡ some v → v.stage ≡ Turn n
      → (n ≡ r.serving) × (n < r.ticket) × (r.holder n ≡ id) × (r.busy ≡ true) × (v.seen ≡ r.trail)
  in_turn s r id v n at is = subst (StageFits r.trail r.ticket r.serving r.holder r.busy id v.seen) is (r.each_seat id v at).fits

  -- What the pass knows as the beginning is what the trail begins with.
  is_legal : (s : State (Option S) (View S E)) (r : Rule s) (id : ℕ) (v : View S E) (n : ℕ) (trail : List E) (x : S) → get_elem? s.views id ≡ some v → v.stage ≡ Turn n → StandsFor stands v trail x → stands first start trail x
  is_legal s r id v n trail x at is h = let known = (r.each_seat id v at).known (λ e. let c = ap kind (sym is ∙ e) in omega arith) in
      subst (λ (z : ℕ × S). stands z.0 z.1 trail x) (λ i. (known.1 i, some_same h.0 start (sym h.1 ∙ known.0) i)) h.2

  count_keeps : (s : State (Option S) (View S E)) (r : Rule s) (id : ℕ) (v : View S E) (n k : ℕ) (more : List E) (x : S) → get_elem? s.views id ≡ some v → v.stage ≡ Turn n → k ≡ length more
      → StandsFor stands v (v.seen ++ more) x → Rule record { words = set s.words 2 ((get_or s.words 2 0 + k) % 2 ^ 64); homes = s.homes; views = set s.views id (raised more v) }
  count_keeps s r id v n k more x at is size h =
      let w : View S E = raised more v in
      let f = r.each_seat id v at in
      let t = in_turn s r id v n at is in
      let busy = t.3 in
      let all : v.seen ≡ r.trail = t.4 in
      let trail' : List E = v.seen ++ more in
      let longer : trail' ≡ r.trail ++ more = ap (λ l. l ++ more) all in
      let mine : r.holder r.serving ≡ id = ap r.holder (sym t.0) ∙ t.2 in
      let sum : first + length r.trail + k ≡ first + length trail' = (let a = length-append v.seen more in let b = ap length all in omega arith) in
      let count : (get_or s.words 2 0 + k) % 2 ^ 64 ≡ (first + length trail') % 2 ^ 64 =
      ap (λ ws. (get_or ws 2 0 + k) % 18446744073709551616) r.words ∙ (mod-add-mod (first + length r.trail) 18446744073709551616 k ∙ ap (λ z. z % 18446744073709551616) sum) in
      let len : length v.seen ≡ length r.trail = ap length all in
      let own' : ℕ → ℕ = owned_by r.owner (length v.seen) id in record {
        ticket = r.ticket;
        serving = r.serving;
        trail = trail';
        holder = r.holder;
        owner = own';
        busy = r.busy;
        now = x;
        words = (λ i. set (r.words i) 2 (count i));
        homes = r.homes ∙ (ap (λ b. home_of b r.now ∷ []) busy ∙ ap (λ b. home_of b x ∷ []) (sym busy));
        behind = r.behind;
        low = r.low;
        legal = is_legal s r id v n trail' x at is h;
        out = λ i above below. still (λ (u : View S E). Holds i u.stage) s.views id v w at (λ p. p) (r.holder i) (r.out i above below);
        turn = λ b. let u = r.turn b in (u.0, still (λ (u : View S E). u.stage ≡ Turn r.serving) s.views id v w at (λ p. p) (r.holder r.serving) u.1);
        each_seat = each (λ j u. Fits first start trail' r.ticket r.serving r.holder own' r.busy j u) s.views id w
            record {
              begins = prefix_same trail';
              begun = (trail', refl);
              known = f.known;
              once = λ p. let sum = times_both p v.own (places (length v.seen) (length more)) in let a = f.once p in let b = times_once p (length v.seen) (length more) in
                  dite (dec_le (times p v.own) 0)
                  (λ none. omega arith)
                  (λ some. let low = (f.owned p (omega arith)).0 in let c = times_outside p (length v.seen) (length more) (omega arith) in omega arith);
              owned = λ p some. let sum = times_both p v.own (places (length v.seen) (length more)) in let total = length-append v.seen more in
                  dite (dec_le (times p v.own) 0)
                  (λ none. let in_new = times_inside p (length v.seen) (length more) (omega arith) in let a = in_new.0 in let b = in_new.1 in (omega arith, owned_above r.owner (length v.seen) id p in_new.0))
                  (λ old. let o = f.owned p (omega arith) in let low = o.0 in (omega arith, owned_below r.owner (length v.seen) id p (omega arith) ∙ o.1));
              fits = subst (StageFits trail' r.ticket r.serving r.holder r.busy id trail') (sym is) (t.0, t.1, t.2, busy, refl);
            }
            (λ j u other there. refit first start r.trail trail' r.ticket r.serving r.ticket r.serving r.holder r.owner r.holder own' r.busy r.busy j u (r.each_seat j u there)
            (more, sym longer) (λ p low e. owned_below r.owner (length v.seen) id p (omega arith) ∙ e) (stage_longer r.trail trail' r.ticket r.serving j id r.holder r.busy u.seen u.stage mine other));
      }

  pub counts : (slots id : ℕ) (m : Me (Option S) (View S E)) (n k : ℕ) (more : List E) (x : S) → m.0.stage ≡ Turn n → k ≡ length more → StandsFor stands m.0 (m.0.seen ++ more) x
      → Allows Rule slots id m 2 (λ c. (c + k) % 2 ^ 64) (counted more (step slots 2 k 0 none) m)
  counts slots id m n k more x is size h s r _ at _ = (raised more m.0, keeps, tt, count_keeps s r id m.0 n k more x at is size h, refl)

  hand_keeps : (s : State (Option S) (View S E)) (r : Rule s) (id : ℕ) (v : View S E) (n : ℕ) (x : S) → get_elem? s.views id ≡ some v → v.stage ≡ Turn n → StandsFor stands v v.seen x
      → Rule record { words = set s.words 1 ((get_or s.words 1 0 + 1) % 2 ^ 64); homes = set s.homes 0 (some (Some x)); views = set s.views id (in_stage Idle v) }
  hand_keeps s r id v n x at is h =
      let w : View S E = in_stage Idle v in
      let f = r.each_seat id v at in
      let t = in_turn s r id v n at is in
      let now = t.0 in let high = t.1 in let low = r.low in
      let mine : r.holder r.serving ≡ id = ap r.holder (sym now) ∙ t.2 in
      let next : (get_or s.words 1 0 + 1) % 2 ^ 64 ≡ r.serving + 1 = ap (λ ws. (get_or ws 1 0 + 1) % 18446744073709551616) r.words ∙ mod-eq_of_lt (omega arith) in
      let home : s.homes ≡ none ∷ [] = r.homes ∙ ap (λ b. home_of b r.now ∷ []) t.3 in record {
        ticket = r.ticket;
        serving = r.serving + 1;
        trail = r.trail;
        holder = r.holder;
        owner = r.owner;
        busy = false;
        now = x;
        words = (λ i. set (r.words i) 1 (next i));
        homes = ap (λ hs. set hs 0 (some (Some x))) home;
        behind = omega arith;
        low = r.low;
        legal = subst (λ l. stands first start l x) t.4 (is_legal s r id v n v.seen x at is h);
        out = λ k above below. still (λ (u : View S E). Holds k u.stage) s.views id v w at
            (λ p. let same : n ≡ k = ap ticket_of (sym is) ∙ (holds_kind k v.stage p).2 in absurd (omega arith)) (r.holder k) (r.out k (omega arith) below);
        turn = λ b. absurd (true≢false (sym b));
        each_seat = each (λ j u. Fits first start r.trail r.ticket (r.serving + 1) r.holder r.owner false j u) s.views id w
            record {
              begins = f.begins;
              begun = f.begun;
              known = λ _. f.known (λ e. let c = ap kind (sym is ∙ e) in omega arith);
              once = f.once;
              owned = f.owned;
              fits = tt;
            }
            (λ j u other there. refit first start r.trail r.trail r.ticket r.serving r.ticket (r.serving + 1) r.holder r.owner r.holder r.owner r.busy false j u (r.each_seat j u there)
            (prefix_same r.trail) (λ p _ e. e) (stage_next r.trail r.ticket r.serving j id r.holder r.busy u.seen u.stage mine other));
      }

  pub hands : (slots id : ℕ) (m : Me (Option S) (View S E)) (n : ℕ) (x : S) → m.0.stage ≡ Turn n → m.1 ≡ (0, Some x) ∷ [] → StandsFor stands m.0 m.0.seen x
      → Allows Rule slots id m 1 (λ c. (c + 1) % 2 ^ 64) (handed_on (step slots 1 1 0 none) m)
  hands slots id m n x is holds h s r _ at _ = (
    in_stage Idle m.0,
    gives,
    tt,
    subst (λ c. Rule record { words = set s.words 1 ((get_or s.words 1 0 + 1) % 2 ^ 64); homes = put_back s.homes c; views = set s.views id (in_stage Idle m.0) }) (sym holds) (hand_keeps s r id m.0 n x at is h),
    (λ i. (in_stage Idle m.0, rest (holds i))),
  )

  -- The same, behind the count and the move of the state into the slot.
  pub hands_after : (slots id : ℕ) (m₀ m₁ m : Me (Option S) (View S E)) (n : ℕ) (more : List E) (x : S) → m₁ ≡ (raised more m₀.0, m₀.1) → m ≡ (m₁.0, (0, Some x) ∷ rest m₁.1)
      → m₀.0.stage ≡ Turn n → m₀.1 ≡ (0, None) ∷ [] → StandsFor stands m₀.0 (m₀.0.seen ++ more) x → Allows Rule slots id m 1 (λ c. (c + 1) % 2 ^ 64) (handed_on (step slots 1 1 0 none) m)
  hands_after slots id m₀ m₁ m n more x counted put is holds h =
      let known : m.0 ≡ raised more m₀.0 = ap (λ z. z.0) put ∙ ap (λ z. z.0) counted in
      hands slots id m n x (ap (λ v. v.stage) known ∙ is)
      (ap (λ z. z.1) put ∙ ap (λ cs. (0, Some x) ∷ rest cs) (ap (λ z. z.1) counted ∙ holds))
      (subst (λ (v : View S E). StandsFor stands v v.seen x) (sym known) h)
