-- The view of each entry is found by where views start, also behind a base.
use Rattle.std.proofs.Common.{◌≡◌, ℕ, zero, suc, ◌+◌, ◌-◌, ◌<◌, ◌≤◌, List, [], ◌∷◌, ◌++◌, Option, Some, None, Bool, true, false, cond, ◌==◌, nat_le, slice_get, option_map, if◌then◌else◌, refl, sym, ◌∙◌, ap, arith}
use Rattle.std.specs.Option.{option_or}
use Rattle.std.proofs.lemmas.Bool.Decides.{nat_tests}
use Rattle.gl_base.proofs.Lists.{slice_get-append, slice_get-below}
use Rattle.gl_rules.specs.Log.{entry_at}
use Rattle.gl_rules.specs.World.{first_view}
use Rattle.gl_vmaps.specs.LastWrite.{last_such}
use Rattle.gl_vmaps.proofs.LastWrites.{last_such-cons}
use Rattle.gl_entry.specs.declared.entry.Entry.{Entry}
use Rattle.gl_snapshot_body.specs.declared.body.ViewStart.{ViewStart}
use Rattle.gl_ledger.specs.Snapshot.{snapshot_of, starts_from, view_at, view_in}
use Rattle.gl_ledger_base.proofs.LedgersTold.{entry_behind}

-- entries are counted from a seqno on
abbrev AreCounted : ℕ → List Entry → Type 0
AreCounted n es = (i : ℕ) (e : Entry) → slice_get es i ≡ Some e → e.seqno ≡ n + i

rest_counted : (n : ℕ) (e : Entry) (es : List Entry) → AreCounted n (e ∷ es) → AreCounted (suc n) es
rest_counted n e es all i f at = all (suc i) f at ∙ omega arith

abbrev start_of : Entry → ViewStart
start_of e = record { view = e.view; seqno = e.seqno }

-- the view of a first start, or of those after it
view_first : (e : Entry) (vs : List ViewStart) (seqno : ℕ) → nat_le e.seqno seqno ≡ true → view_in (start_of e ∷ vs) seqno ≡ option_or (view_in vs seqno) (Some e.view)
view_first e vs seqno low =
    ap (option_map (λ (v : ViewStart). v.view)) (last_such-cons (λ (v : ViewStart). nat_le v.seqno seqno) (start_of e) vs)
    ∙ ap (λ (b : Bool). option_map (λ (v : ViewStart). v.view) (option_or (last_such (λ (v : ViewStart). nat_le v.seqno seqno) vs) (cond b (Some (start_of e)) None))) low
    ∙ go (last_such (λ (v : ViewStart). nat_le v.seqno seqno) vs)
  where
    go : (o : Option ViewStart) → option_map (λ (v : ViewStart). v.view) (option_or o (Some (start_of e))) ≡ option_or (option_map (λ (v : ViewStart). v.view) o) (Some e.view)
    go None = refl
    go (Some v) = refl

-- none starts below the seqno of the first entry
none_below : (n view : ℕ) (es : List Entry) (seqno : ℕ) → AreCounted n es → seqno < n → last_such (λ (v : ViewStart). nat_le v.seqno seqno) (starts_from view es) ≡ None
none_below n view [] seqno all low = refl
none_below n view (e ∷ es) seqno all low =
    go (e.view == view) (none_below (suc n) view es seqno (rest_counted n e es all) (omega (arith, low))) (none_below (suc n) e.view es seqno (rest_counted n e es all) (omega (arith, low)))
  where
    high : nat_le e.seqno seqno ≡ false
    high = let at = all 0 e refl in grind (arith, nat_tests, at, low)

    go : (b : Bool) → last_such (λ (v : ViewStart). nat_le v.seqno seqno) (starts_from view es) ≡ None → last_such (λ (v : ViewStart). nat_le v.seqno seqno) (starts_from e.view es) ≡ None →
        last_such (λ (v : ViewStart). nat_le v.seqno seqno) (if b then starts_from view es else start_of e ∷ starts_from e.view es) ≡ None
    go true same other = same
    go false same other =
        last_such-cons (λ (v : ViewStart). nat_le v.seqno seqno) (start_of e) (starts_from e.view es)
        ∙ (λ i. option_or (other i) (cond (high i) (Some (start_of e)) None))

-- the view of an entry is that of the last start up to it, or the one before the first
view_found : (n view : ℕ) (es : List Entry) → AreCounted n es → (i : ℕ) (e : Entry) (seqno : ℕ) → slice_get es i ≡ Some e → seqno ≡ n + i → option_or (view_in (starts_from view es) seqno) (Some view) ≡ Some e.view
view_found n view [] all i e seqno at is = absurd (cc)
view_found n view (f ∷ es) all zero e seqno at is = go (f.view == view) refl ∙ ap (λ (x : Entry). Some x.view) (let same : f ≡ e = cc in same)
  where
    none : (v : ℕ) → view_in (starts_from v es) seqno ≡ None
    none v = ap (option_map (λ (s : ViewStart). s.view)) (none_below (suc n) v es seqno (rest_counted n f es all) (omega (arith, is)))

    low : nat_le f.seqno seqno ≡ true
    low = let first = all 0 f refl in grind (arith, nat_tests, first, is)

    go : (b : Bool) → (f.view == view) ≡ b → option_or (view_in (if b then starts_from view es else start_of f ∷ starts_from f.view es) seqno) (Some view) ≡ Some f.view
    go true w = ap (λ (o : Option ℕ). option_or o (Some view)) (none view) ∙ ap (λ (k : ℕ). Some k) (let same : view ≡ f.view = grind (arith, nat_tests, w) in same)
    go false w = ap (λ (o : Option ℕ). option_or o (Some view)) (view_first f (starts_from f.view es) seqno low ∙ ap (λ (o : Option ℕ). option_or o (Some f.view)) (none f.view))
view_found n view (f ∷ es) all (suc i) e seqno at is =
    go (f.view == view)
    (view_found (suc n) view es (rest_counted n f es all) i e seqno at (omega (arith, is)))
    (view_found (suc n) f.view es (rest_counted n f es all) i e seqno at (omega (arith, is)))
  where
    low : nat_le f.seqno seqno ≡ true
    low = let first = all 0 f refl in grind (arith, nat_tests, first, is)

    go : (b : Bool) → option_or (view_in (starts_from view es) seqno) (Some view) ≡ Some e.view → option_or (view_in (starts_from f.view es) seqno) (Some f.view) ≡ Some e.view →
        option_or (view_in (if b then starts_from view es else start_of f ∷ starts_from f.view es) seqno) (Some view) ≡ Some e.view
    go true same other = same
    go false same other = ap (λ (o : Option ℕ). option_or o (Some view)) (view_first f (starts_from f.view es) seqno low ∙ other)

-- where the first entry is of a view above 0 one starts with it
view_below : (es : List Entry) → AreCounted 1 es → ((e : Entry) → slice_get es 0 ≡ Some e → e.view ≡ first_view) → (i : ℕ) (e : Entry) → slice_get es i ≡ Some e → view_in (starts_from 0 es) (suc i) ≡ Some e.view
view_below [] all first i e at = absurd (cc)
view_below (f ∷ es) all first i e at = go (f.view == 0) refl
  where
    low : nat_le f.seqno (suc i) ≡ true
    low = let at = all 0 f refl in grind (arith, nat_tests, at)

    rest : (j : ℕ) → i ≡ j → option_or (view_in (starts_from f.view es) (suc i)) (Some f.view) ≡ Some e.view
    rest zero is =
        ap (λ (o : Option ℕ). option_or o (Some f.view)) (ap (option_map (λ (s : ViewStart). s.view)) (none_below 2 f.view es (suc i) (rest_counted 1 f es all) (omega (arith, is))))
        ∙ ap (λ (x : Entry). Some x.view) (let there = ap (slice_get (f ∷ es)) (sym is) ∙ at in let same : f ≡ e = cc in same)
    rest (suc j) is = view_found 2 f.view es (rest_counted 1 f es all) j e (suc i) (ap (slice_get (f ∷ es)) (sym is) ∙ at) (omega (arith, is))

    go : (b : Bool) → (f.view == 0) ≡ b → view_in (if b then starts_from 0 es else start_of f ∷ starts_from f.view es) (suc i) ≡ Some e.view
    go true is = absurd (let one = first f refl in let none : f.view ≡ 0 = grind (arith, nat_tests, is) in omega (arith, one, none))
    go false is = view_first f (starts_from f.view es) (suc i) low ∙ rest i refl

-- ---- behind a snapshot

pub view_told : (below es : List Entry) → ((i : ℕ) (e : Entry) → slice_get below i ≡ Some e → e.seqno ≡ suc i) → ((e : Entry) → slice_get below 0 ≡ Some e → e.view ≡ first_view) →
    (seqno : ℕ) → 0 < seqno → view_at (snapshot_of below) es seqno ≡ option_map (λ (e : Entry). e.view) (entry_at (below ++ es) seqno)
view_told below es counted first zero some = absurd (omega (arith, some))
view_told below es counted first (suc i) some = go (nat_le (suc i) (snapshot_of below).base) refl
  where
    go : (b : Bool) → nat_le (suc i) (snapshot_of below).base ≡ b →
        (if b then view_in (snapshot_of below).views (suc i) else option_map (λ (e : Entry). e.view) (entry_at es (suc i - (snapshot_of below).base)))
        ≡ option_map (λ (e : Entry). e.view) (entry_at (below ++ es) (suc i))
    go true is =
        let e = slice_get-below below i (let low : suc i ≤ (snapshot_of below).base = grind (arith, nat_tests, is) in omega (arith, low)) in
        view_below below (λ j f at. counted j f at ∙ omega arith) first i e.0 e.1
        ∙ sym (ap (option_map (λ (x : Entry). x.view)) (slice_get-append below es i e.0 e.1))
    go false is =
        ap (option_map (λ (e : Entry). e.view))
        (entry_behind (snapshot_of below).base below es (suc i) (omega arith) (let high : (snapshot_of below).base < suc i = grind (arith, nat_tests, is) in high))
