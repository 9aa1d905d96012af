-- What stays true of one seat, and of all, over a step.
use Rattle.std.proofs.Common.{◌≡◌, ◌≢◌, ◌⊎◌, ℕ, zero, suc, ◌<◌, Bool, true, false, List, [], ◌∷◌, length, set, refl, sym, ap, ◌∙◌, subst, ⊎_elim, arith}
use mathlib.Core.Logic.{dite}
use mathlib.Core.Option.{some, some-injective, some-ne-none}
use native.Mathlib.Decide.{ℕ_discrete}
use lib.ListN.{get_elem?}
use Rattle.atomic_table.proofs.Lists.{at_set, set_else}
use Rattle.gl_turn.specs.declared.view.View.{View}
use Rattle.gl_turn.specs.declared.view.Stage.{Stage}
use Rattle.gl_turn.specs.declared.view.Stage.TheVariants.{Idle, Waits, Turn, Spent}
use Rattle.gl_turn.specs.View.{IsPrefix}
use Rattle.gl_turn.specs.Lawful.{StageFits, Fits}
use Rattle.gl_turn.proofs.Trails.{prefix_through, prefix_len}

-- A function, changed at one number.
abbrev pick : {P : Type 0} → Dec P → ℕ → ℕ → ℕ
pick (yes _) a b = a
pick (no _) a b = b

pub put : (ℕ → ℕ) → ℕ → ℕ → ℕ → ℕ
put f i c j = pick (ℕ_discrete j i) c (f j)

pub put_here : (f : ℕ → ℕ) (i c : ℕ) → put f i c i ≡ c
unfolding put
put_here f i c = go (ℕ_discrete i i)
  where
    go : (d : Dec (i ≡ i)) → pick d c (f i) ≡ c
    go (yes _) = refl
    go (no n) = absurd (n refl)

pub put_else : (f : ℕ → ℕ) (i c j : ℕ) → j ≢ i → put f i c j ≡ f j
unfolding put
put_else f i c j other = go (ℕ_discrete j i)
  where
    go : (d : Dec (j ≡ i)) → pick d c (f j) ≡ f j
    go (yes e) = absurd (other e)
    go (no _) = refl

-- Which of the four stages it is, and its ticket.
abbrev pub kind : Stage → ℕ
kind Idle = 0
kind (Waits n) = 1
kind (Turn n) = 2
kind Spent = 3

abbrev pub ticket_of : Stage → ℕ
ticket_of Idle = 0
ticket_of (Waits n) = n
ticket_of (Turn n) = n
ticket_of Spent = 0

abbrev pub Holds : ℕ → Stage → Type 0
Holds n stage = (stage ≡ Waits n) ⊎ (stage ≡ Turn n)

pub holds_kind : (n : ℕ) (stage : Stage) → Holds n stage → (0 < kind stage) × (kind stage < 3) × (ticket_of stage ≡ n)
holds_kind n stage h = ⊎_elim
    (λ (e : stage ≡ Waits n). let k = ap kind e in (omega arith, omega arith, ap ticket_of e))
    (λ (e : stage ≡ Turn n). let k = ap kind e in (omega arith, omega arith, ap ticket_of e)) h

pub not_true : (b : Bool) → (b ≡ true → ⊥) → b ≡ false
not_true true h = absurd (h refl)
not_true false h = refl

module _ {V : Type 0} where
  pub set_at : (vs : List V) (i : ℕ) (v w : V) → get_elem? vs i ≡ some v → get_elem? (set vs i w) i ≡ some w
  set_at [] i v w e = absurd (some-ne-none v (sym e))
  set_at (x ∷ xs) zero v w e = refl
  set_at (x ∷ xs) (suc i) v w e = set_at xs i v w e

  -- What holds of the seat that steps, and of each other one, holds of all afterwards.
  pub each : (P : ℕ → V → Type 0) (vs : List V) (id : ℕ) (w : V) → P id w → ((j : ℕ) (v : V) → j ≢ id → get_elem? vs j ≡ some v → P j v) → (j : ℕ) (v : V) → get_elem? (set vs id w) j ≡ some v → P j v
  each P vs id w mine others j v e = ⊎_elim
      (λ (t : (j ≡ id) × (w ≡ v)). subst (λ (x : ℕ × V). P x.0 x.1) (λ i. (sym t.0 i, t.1 i)) mine)
      (λ (t : (j ≢ id) × (get_elem? vs j ≡ some v)). others j v t.0 t.1) (at_set vs id j w v e)

  abbrev pub Has : (V → Type 0) → List V → ℕ → Type 0
  Has P vs h = (v : V) × (get_elem? vs h ≡ some v) × P v

  -- A view that has P is still there where the step keeps P.
  pub still : (P : V → Type 0) (vs : List V) (id : ℕ) (v w : V) → get_elem? vs id ≡ some v → (P v → P w) → (h : ℕ) → Has P vs h → Has P (set vs id w) h
  still P vs id v w at keeps h o = dite (ℕ_discrete h id)
      (λ e. (w, subst (λ j. get_elem? (set vs id w) j ≡ some w) (sym e) (set_at vs id v w at), keeps (subst P (some-injective o.0 v (sym o.1 ∙ (ap (get_elem? vs) e ∙ at))) o.2)))
      (λ ne. (o.0, set_else vs id h w ne ∙ o.1, o.2))

  -- The view at the seat is this one, and has P.
  pub that_one : (P : V → Type 0) (vs : List V) (id h : ℕ) (v : V) → get_elem? vs id ≡ some v → h ≡ id → Has P vs h → P v
  that_one P vs id h v at e o = subst P (some-injective o.0 v (sym o.1 ∙ (ap (get_elem? vs) e ∙ at))) o.2

module _ {S E : Type 0} (first : ℕ) (start : S) where
  -- Another seat's view still fits, where the trail is longer and its own places and stage are kept.
  pub refit : (trail trail' : List E) (ticket serving ticket' serving' : ℕ) (holder owner holder' owner' : ℕ → ℕ) (busy busy' : Bool) (j : ℕ) (v : View S E)
      → Fits first start trail ticket serving holder owner busy j v → IsPrefix trail trail' → ((p : ℕ) → p < length trail → owner p ≡ j → owner' p ≡ j)
      → (StageFits trail ticket serving holder busy j v.seen v.stage → StageFits trail' ticket' serving' holder' busy' j v.seen v.stage)
      → Fits first start trail' ticket' serving' holder' owner' busy' j v
  refit trail trail' ticket serving ticket' serving' holder owner holder' owner' busy busy' j v f goes_on mine stage = record {
    begins = prefix_through v.seen trail trail' f.begins goes_on;
    begun = f.begun;
    known = f.known;
    once = f.once;
    owned = λ p some. let o = f.owned p some in let low = o.0 in let len = prefix_len trail trail' goes_on in (omega arith, mine p o.0 o.1);
    fits = stage f.fits;
  }
