-- The view of the entry with a seqno, by where views start.
use Rattle.std.proofs.Common.{◌≡◌, ℕ, zero, suc, ◌+◌, ◌-◌, ◌<◌, ◌≤◌, List, [], ◌∷◌, ◌++◌, length, get_or, slice_get, Option, Some, None, IfSome, option_map, Bool, true, false, cond, if◌then◌else◌, ◌&&◌, nat_le, nat_lt, ◌==◌, refl, sym, ◌∙◌, ap, ap₂, subst, arith}
use Rattle.std.specs.List.{AllByRecursion}
use Rattle.std.specs.List.Sorted.{IsPartitionPoint, IsPartitionedBy}
use Rattle.std.specs.Option.{option_or}
use Rattle.std.proofs.lemmas.Bool.{and_parts}
use Rattle.std.proofs.lemmas.Bool.Decides.{nat_tests}
use Rattle.gl_base.proofs.Lists.{slice_get-below}
use Rattle.gl_rules.specs.Log.{entry_at}
use Rattle.gl_vmaps.specs.LastWrite.{last_such}
use Rattle.gl_vmaps.proofs.LastWrites.{last_such-cons}
use Rattle.gl_gov_base.proofs.SameLists.{last-append}
use Rattle.gl_entry.specs.declared.entry.Entry.{Entry}
use Rattle.gl_snapshot_body.specs.Body.{are_starts, follow, is_next_start, is_start, is_start_after}
use Rattle.gl_snapshot_body.specs.declared.body.Body.{Body}
use Rattle.gl_snapshot_body.specs.declared.body.ViewStart.{ViewStart}
use Rattle.gl_snapshot_body.proofs.BodyLaws.{parts_of}
use Rattle.gl_ledger.specs.Behind.{IsReadAt, IsReadBody}
use Rattle.gl_ledger.specs.NodeKeys.{service_layers}
use Rattle.gl_ledger.specs.Snapshot.{starts_from, view_at, view_in, view_or}
use Rattle.gl_audit.specs.Kept.{view_behind, IsStateOver}
use Rattle.gl_audit.specs.declared.ledger_state.LedgerState.{LedgerState}
use Rattle.gl_audit.proofs.Cutting.{CountFrom}
use Rattle.gl_audit.proofs.GovernanceBehind.{numbered_over}
use Rattle.gl_audit.proofs.ViewStarts.{views_within}

-- ---- the last of a list that is such

-- the element before a place
abbrev pub before : {A : Type 0} → ℕ → List A → Option A
before zero xs = None
before (suc i) xs = slice_get xs i

-- where those that are such come first it stands before the place where they end
pub last_before : {A : Type 0} (p : A → Bool) (xs : List A) (n : ℕ) → n ≤ length xs → IsPartitionPoint (λ x. p x ≡ true) (λ x. p x ≡ false) xs n → last_such p xs ≡ before n xs
last_before p [] zero within point = refl
last_before p [] (suc n) within point = absurd (omega (arith, within))
last_before p (x ∷ xs) zero within point =
    let rest = last_before p xs zero (omega arith) ((λ k d low high. absurd (omega (arith, high))), (λ k d low high. point.1 (suc k) d (omega arith) (omega (arith, high)))) in
    last_such-cons p x xs ∙ ap₂ (λ o b. option_or o (cond b (Some x) None)) rest (point.1 0 x (omega arith) (omega arith))
last_before {A} p (x ∷ xs) (suc n) within point =
    let rest = last_before p xs n (omega (arith, within)) ((λ k d low high. point.0 (suc k) d (omega arith) (omega (arith, high))), (λ k d low high. point.1 (suc k) d (omega (arith, low)) (omega (arith, high)))) in
    last_such-cons p x xs ∙ ap₂ (λ o b. option_or o (cond b (Some x) None)) rest (point.0 0 x (omega arith) (omega arith)) ∙ go n (omega (arith, within))
  where
    go : (m : ℕ) → m ≤ length xs → option_or (before m xs) (Some x) ≡ slice_get (x ∷ xs) m
    go zero few = refl
    go (suc i) few = let there = slice_get-below xs i (omega (arith, few)) in ap (λ (o : Option A). option_or o (Some x)) there.1 ∙ sym there.1

-- what holds of all holds of it
last_all : {A : Type 0} (p : A → Bool) (Q : A → Type 0) (xs : List A) → AllByRecursion Q xs → IfSome (last_such p xs) Q
last_all p Q [] all = tt
last_all {A} p Q (x ∷ xs) all = subst (λ (o : Option A). IfSome o Q) (sym (last_such-cons p x xs)) (go (last_such p xs) (p x) (last_all p Q xs all.1))
  where
    go : (o : Option A) (b : Bool) → IfSome o Q → IfSome (option_or o (cond b (Some x) None)) Q
    go None true rest = all.0
    go None false rest = tt
    go (Some y) b rest = rest

-- ---- starts ascend

-- each is at or above a seqno and the one before it
abbrev Rises : ℕ → List ViewStart → Type 0
Rises n [] = Unit {0}
Rises n (v ∷ vs) = (n ≤ v.seqno) × Rises v.seqno vs

rises_lower : (m n : ℕ) (vs : List ViewStart) → m ≤ n → Rises n vs → Rises m vs
rises_lower m n [] le h = tt
rises_lower m n (v ∷ vs) le h = let low = h.0 in (omega (arith, le, low), h.1)

rises_both : (n m : ℕ) (vs ws : List ViewStart) → n ≤ m → Rises n vs → AllByRecursion (λ (v : ViewStart). v.seqno ≤ m) vs → Rises m ws → Rises n (vs ++ ws)
rises_both n m [] ws le h all rest = rises_lower n m ws le rest
rises_both n m (v ∷ vs) ws le h all rest = (h.0, rises_both v.seqno m vs ws all.0 h.1 all.1 rest)

all_above : (n m : ℕ) (vs : List ViewStart) → n < m → Rises m vs → AllByRecursion (λ (v : ViewStart). n < v.seqno) vs
all_above n m [] low h = tt
all_above n m (v ∷ vs) low h = let first = h.0 in (omega (arith, low, first), all_above n v.seqno vs (omega (arith, low, first)) h.1)

no_less : (n : ℕ) (vs : List ViewStart) (j : ℕ) (d : ViewStart) → Rises n vs → j < length vs → n ≤ (get_or vs j d).seqno
no_less n [] j d h low = absurd (omega (arith, low))
no_less n (v ∷ vs) zero d h low = h.0
no_less n (v ∷ vs) (suc j) d h low = let rest = no_less v.seqno vs j d h.1 (omega (arith, low)) in let first = h.0 in omega (arith, rest, first)

rising : (n : ℕ) (vs : List ViewStart) (i j : ℕ) (d : ViewStart) → Rises n vs → i ≤ j → j < length vs → (get_or vs i d).seqno ≤ (get_or vs j d).seqno
rising n [] i j d h le low = absurd (omega (arith, low))
rising n (v ∷ vs) zero zero d h le low = omega arith
rising n (v ∷ vs) zero (suc j) d h le low = no_less v.seqno vs j d h.1 (omega (arith, low))
rising n (v ∷ vs) (suc i) zero d h le low = absurd (omega (arith, le))
rising n (v ∷ vs) (suc i) (suc j) d h le low = rising v.seqno vs i j d h.1 (omega (arith, le)) (omega (arith, low))

-- those of a body
abbrev seqno_in : Option ViewStart → ℕ
seqno_in None = 0
seqno_in (Some v) = v.seqno

next_above : (base : ℕ) (last : Option ViewStart) (v : ViewStart) → is_start_after base last v ≡ true → seqno_in last ≤ v.seqno
next_above base None v ok = omega arith
next_above base (Some last) v ok =
    let both = (and_parts (nat_lt last.view v.view && nat_lt last.seqno v.seqno) (nat_le v.seqno base) (and_parts (is_start v) (is_next_start base (Some last) v) ok).1).0 in
    let low = (and_parts (nat_lt last.view v.view) (nat_lt last.seqno v.seqno) both).1 in grind (arith, nat_tests, low)

rises_follow : (base : ℕ) (last : Option ViewStart) (vs : List ViewStart) → follow (is_start_after base) last vs ≡ true → Rises (seqno_in last) vs
rises_follow base last [] ok = tt
rises_follow base last (v ∷ vs) ok =
    let both = and_parts (is_start_after base last v) (follow (is_start_after base) (Some v) vs) ok in (next_above base last v both.0, rises_follow base (Some v) vs both.1)

rises_in : (body : Body) → IsReadBody body → Rises 0 body.views
rises_in body read = go body.base read
  where
    go : (n : ℕ) → IsReadAt n body → Rises 0 body.views
    go zero none = subst (λ (b : Body). Rises 0 b.views) (sym none) tt
    go (suc n) b = rises_follow body.base None body.views (and_parts _ (are_starts body.base body.views) (parts_of body b.fits).views).1

-- those of entries
rises_from : (n view : ℕ) (es : List Entry) → CountFrom n es → Rises n (starts_from view es)
rises_from n view [] count = tt
rises_from n view (e ∷ es) count =
    let rest : (v : ℕ) → Rises (suc n) (starts_from v es) = λ v. rises_from (suc n) v es (λ i f at. count (suc i) f at ∙ omega arith) in
    go (e.view == view) (rest view) (rest e.view)
  where
    go : (b : Bool) → Rises (suc n) (starts_from view es) → Rises (suc n) (starts_from e.view es) →
        Rises n (if b then starts_from view es else record { view = e.view; seqno = e.seqno } ∷ starts_from e.view es)
    go true same other = rises_lower n (suc n) (starts_from view es) (omega arith) same
    go false same other = let at = count 0 e refl in (omega (arith, at), rises_lower e.seqno (suc n) (starts_from e.view es) (omega (arith, at)) other)

-- so that none at or below a seqno comes after one above it
pub starts_partitioned : (body : Body) (es : List Entry) (to : ℕ) → IsReadBody body → CountFrom (suc body.base) es → IsPartitionedBy (λ (v : ViewStart). nat_le v.seqno to) (body.views ++ starts_from body.view es)
starts_partitioned body es to read count i j d le low up = let r = rising 0 all i j d rises le low in grind (arith, nat_tests, r, up)
  where
    all : List ViewStart
    all = body.views ++ starts_from body.view es

    rises : Rises 0 (body.views ++ starts_from body.view es)
    rises =
        rises_both 0 body.base body.views (starts_from body.view es) (omega arith) (rises_in body read) (views_within body body.base read (omega arith))
        (rises_lower body.base (suc body.base) (starts_from body.view es) (omega arith) (rises_from (suc body.base) body.view es count))

-- ---- the view of an entry

abbrev view_from : ℕ → Option ViewStart → ℕ
view_from view None = view
view_from view (Some v) = v.view

module _ (seqno : ℕ) where
  none_up_to : (n : ℕ) (vs : List ViewStart) → Rises n vs → seqno < n → last_such (λ (v : ViewStart). nat_le v.seqno seqno) vs ≡ None
  none_up_to n [] h low = refl
  none_up_to n (v ∷ vs) h low =
      let first = h.0 in
      let above : nat_le v.seqno seqno ≡ false = grind (arith, nat_tests, first, low) in
      last_such-cons (λ (w : ViewStart). nat_le w.seqno seqno) v vs
      ∙ ap₂ (λ (o : Option ViewStart) (b : Bool). option_or o (cond b (Some v) None)) (none_up_to v.seqno vs h.1 (omega (arith, first, low))) above

  -- the last start behind a base tells it
  view_of_start : (n view : ℕ) (es : List Entry) (i : ℕ) (e : Entry) → CountFrom n es → slice_get es i ≡ Some e → seqno ≡ n + i →
      view_from view (last_such (λ (v : ViewStart). nat_le v.seqno seqno) (starts_from view es)) ≡ e.view
  view_of_start n view [] i e count at is = absurd (cc)
  view_of_start n view (f ∷ es) zero e count at is =
      let none : (v : ℕ) → last_such (λ (w : ViewStart). nat_le w.seqno seqno) (starts_from v es) ≡ None = λ v.
      none_up_to (suc n) (starts_from v es) (rises_from (suc n) v es (λ k g there. count (suc k) g there ∙ omega arith)) (omega (arith, is)) in
      go (f.view == view) refl (none view) (none f.view)
    where
      same : f.view ≡ e.view
      same = ap (λ (o : Option Entry). view_or 0 o) at

      here : nat_le f.seqno seqno ≡ true
      here = let first = count 0 f refl in grind (arith, nat_tests, first, is)

      go : (b : Bool) → (f.view == view) ≡ b → last_such (λ (w : ViewStart). nat_le w.seqno seqno) (starts_from view es) ≡ None →
          last_such (λ (w : ViewStart). nat_le w.seqno seqno) (starts_from f.view es) ≡ None →
          view_from view (last_such (λ (w : ViewStart). nat_le w.seqno seqno) (if b then starts_from view es else record { view = f.view; seqno = f.seqno } ∷ starts_from f.view es)) ≡ e.view
      go true w none other = ap (view_from view) none ∙ (let kept : f.view ≡ view = grind (arith, nat_tests, w) in sym kept) ∙ same
      go false w none other =
          let start : ViewStart = record { view = f.view; seqno = f.seqno } in
          ap (view_from view)
          (last_such-cons (λ (x : ViewStart). nat_le x.seqno seqno) start (starts_from f.view es) ∙ ap₂ (λ (o : Option ViewStart) (b : Bool). option_or o (cond b (Some start) None)) other here)
          ∙ same
  view_of_start n view (f ∷ es) (suc i) e count at is =
      let rest : (v : ℕ) → view_from v (last_such (λ (w : ViewStart). nat_le w.seqno seqno) (starts_from v es)) ≡ e.view = λ v.
      view_of_start (suc n) v es i e (λ k g there. count (suc k) g there ∙ omega arith) at (omega (arith, is)) in
      go (f.view == view) (rest view) (rest f.view)
    where
      here : nat_le f.seqno seqno ≡ true
      here = let first = count 0 f refl in grind (arith, nat_tests, first, is)

      later : (o : Option ViewStart) → view_from view (option_or o (Some (record { view = f.view; seqno = f.seqno }))) ≡ view_from f.view o
      later None = refl
      later (Some v) = refl

      go : (b : Bool) → view_from view (last_such (λ (w : ViewStart). nat_le w.seqno seqno) (starts_from view es)) ≡ e.view →
          view_from f.view (last_such (λ (w : ViewStart). nat_le w.seqno seqno) (starts_from f.view es)) ≡ e.view →
          view_from view (last_such (λ (w : ViewStart). nat_le w.seqno seqno) (if b then starts_from view es else record { view = f.view; seqno = f.seqno } ∷ starts_from f.view es)) ≡ e.view
      go true same other = same
      go false same other =
          let start : ViewStart = record { view = f.view; seqno = f.seqno } in
          let o = last_such (λ (w : ViewStart). nat_le w.seqno seqno) (starts_from f.view es) in
          ap (view_from view) (last_such-cons (λ (x : ViewStart). nat_le x.seqno seqno) start (starts_from f.view es) ∙ ap (λ (b : Bool). option_or o (cond b (Some start) None)) here)
          ∙ later o ∙ other

  -- of the starts of a body none is behind it
  view_past : (base view : ℕ) (own later : Option ViewStart) → IfSome own (λ (v : ViewStart). v.seqno ≤ base) → IfSome later (λ (v : ViewStart). base < v.seqno) →
      view_behind base view (option_or later own) ≡ view_from view later
  view_past base view None None low high = refl
  view_past base view (Some v) None low high = let here : nat_lt base v.seqno ≡ false = grind (arith, nat_tests, low) in ap (λ (b : Bool). if b then v.view else view) here
  view_past base view own (Some v) low high = let here : nat_lt base v.seqno ≡ true = grind (arith, nat_tests, high) in ap (λ (b : Bool). if b then v.view else view) here

  -- ---- by what is kept of entries

  module _ (body : Body) (es : List Entry) (s : LedgerState) (start : Option ViewStart) (k : IsStateOver body es s)
      (last : IsPartitionedBy (λ (v : ViewStart). nat_le v.seqno seqno) s.views.items → start ≡ last_such (λ (v : ViewStart). nat_le v.seqno seqno) s.views.items) where
    numbered : CountFrom (suc body.base) es
    numbered i e at = let place = numbered_over service_layers body es k.valid i e at in omega (arith, place)

    rises : Rises (suc body.base) (starts_from body.view es)
    rises = rises_from (suc body.base) body.view es numbered

    start_is : start ≡ option_or (last_such (λ (v : ViewStart). nat_le v.seqno seqno) (starts_from body.view es)) (last_such (λ (v : ViewStart). nat_le v.seqno seqno) body.views)
    start_is =
        last (subst (IsPartitionedBy (λ (v : ViewStart). nat_le v.seqno seqno)) (sym k.views) (starts_partitioned body es seqno k.read numbered))
        ∙ ap (last_such (λ (v : ViewStart). nat_le v.seqno seqno)) k.views
        ∙ last-append (λ (v : ViewStart). nat_le v.seqno seqno) body.views (starts_from body.view es)

    pub view_below : seqno ≤ s.base → option_map (λ (v : ViewStart). v.view) start ≡ view_at body es seqno
    view_below low =
        let base = k.base_is in
        let within : nat_le seqno body.base ≡ true = grind (arith, nat_tests, low, base) in
        let none = none_up_to (suc body.base) (starts_from body.view es) rises (omega (arith, low, base)) in
        ap (option_map (λ (v : ViewStart). v.view)) (start_is ∙ ap (λ (o : Option ViewStart). option_or o (last_such (λ (v : ViewStart). nat_le v.seqno seqno) body.views)) none)
        ∙ sym (ap (λ (b : Bool). if b then view_in body.views seqno else option_map (λ (e : Entry). e.view) (entry_at es (seqno - body.base))) within)

    pub view_above : s.base < seqno → seqno ≤ body.base + length es → Some (view_behind s.base s.base_view start) ≡ view_at body es seqno
    view_above high few =
        let base = k.base_is in
        let past : nat_le seqno body.base ≡ false = grind (arith, nat_tests, high, base) in
        let there = slice_get-below es (seqno - body.base - 1) (omega (arith, high, base, few)) in
        let place : seqno - body.base ≡ suc (seqno - body.base - 1) = omega (arith, high, base) in
        let own = last_all (λ (v : ViewStart). nat_le v.seqno seqno) (λ (v : ViewStart). v.seqno ≤ body.base) body.views (views_within body body.base k.read (omega arith)) in
        let behind = last_all (λ (v : ViewStart). nat_le v.seqno seqno) (λ (v : ViewStart). body.base < v.seqno) (starts_from body.view es) (all_above body.base (suc body.base) (starts_from body.view es) (omega arith) rises) in
        let view : view_behind s.base s.base_view start ≡ there.0.view =
        ap₂ (λ (b v : ℕ). view_behind b v start) k.base_is k.base_view_is ∙ ap (view_behind body.base body.view) start_is
        ∙ view_past body.base body.view (last_such (λ (v : ViewStart). nat_le v.seqno seqno) body.views) (last_such (λ (v : ViewStart). nat_le v.seqno seqno) (starts_from body.view es)) own behind
        ∙ view_of_start (suc body.base) body.view es (seqno - body.base - 1) there.0 numbered there.1 (omega (arith, high, base)) in
        ap (λ (v : ℕ). Some v) view
        ∙ sym (ap (λ (b : Bool). if b then view_in body.views seqno else option_map (λ (e : Entry). e.view) (entry_at es (seqno - body.base))) past
        ∙ ap (λ (n : ℕ). option_map (λ (e : Entry). e.view) (entry_at es n)) place
        ∙ ap (option_map (λ (e : Entry). e.view)) there.1)
