-- What requests tell, where there is one more, and where they are cut back to those up to a seqno.
use Rattle.std.proofs.Common.{◌≡◌, ℕ, zero, suc, ◌<◌, ◌≤◌, nat_le, Bool, true, false, cond, Option, None, Some, List, [], ◌∷◌, ◌++◌, length, take, drop, is_some, take-append-drop, filter, get_or, refl, sym, ◌∙◌, ap, arith, subst, append-nil, append_assoc, le-leb}
use Rattle.std.specs.List.{flat_map, filter_map, cons_option, count_by, AllByRecursion}
use Rattle.std.specs.List.Sorted.{IsPartitionedBy}
use Rattle.std.specs.Option.{option_to_list}
use Rattle.std.proofs.lemmas.Bool.Decides.{nat_tests}
use Rattle.std.proofs.lemmas.List.Elements.{filter-append, filter_map-append, All-from_recursion}
use Rattle.std.proofs.lemmas.Grind.{flat_map-append}
use Rattle.gl_gov_rules.specs.declared.change.Recorded.{Recorded}
use Rattle.gl_gov_rules.specs.Governed.{up_to}
use Rattle.gl_gov_rules.specs.Rising.{IsRising}
use Rattle.std.proofs.Math.Seq.{take-append_seam}
use Rattle.gl_gov_rules.proofs.CutLists.{named_length}
use Rattle.gl_gov_rules.proofs.Counting.{each_append}
use Rattle.gl_gov_rules.proofs.Rising.{AreAfter, rest_rises, rest_after}

-- ---- one more

pub one_more : {A B : Type 0} (f : A → Option B) (xs : List A) (x : A) (ys zs : List B) → ys ≡ filter_map f xs → zs ≡ ys ++ option_to_list (f x) → zs ≡ filter_map f (xs ++ x ∷ [])
one_more {B = B} f xs x ys zs before put =
    put ∙ ap (λ us. us ++ option_to_list (f x)) before ∙ ap (λ us. filter_map f xs ++ us) (sym (alone (f x))) ∙ sym (filter_map-append f xs (x ∷ []))
  where
    alone : (o : Option B) → cons_option o [] ≡ option_to_list o
    alone None = refl
    alone (Some y) = refl

pub one_more_flat : {A B : Type 0} (f : A → List B) (xs : List A) (x : A) (ys zs : List B) → ys ≡ flat_map f xs → zs ≡ ys ++ f x → zs ≡ flat_map f (xs ++ x ∷ [])
one_more_flat f xs x ys zs before put =
    put ∙ ap (λ us. us ++ f x) before ∙ ap (λ us. flat_map f xs ++ us) (sym (append-nil (f x))) ∙ sym (flat_map-append f xs (x ∷ []))

-- so it is where something stands before all that is told
pub one_more_after : {A B : Type 0} (ks : List B) (f : A → Option B) (xs : List A) (x : A) (ys zs : List B) → ys ≡ ks ++ filter_map f xs → zs ≡ ys ++ option_to_list (f x) → zs ≡ ks ++ filter_map f (xs ++ x ∷ [])
one_more_after ks f xs x ys zs before put =
    put ∙ ap (λ us. us ++ option_to_list (f x)) before ∙ append_assoc ks (filter_map f xs) (option_to_list (f x)) ∙ ap (λ us. ks ++ us) (one_more f xs x (filter_map f xs) _ refl refl)

pub one_more_flat_after : {A B : Type 0} (ks : List B) (f : A → List B) (xs : List A) (x : A) (ys zs : List B) → ys ≡ ks ++ flat_map f xs → zs ≡ ys ++ f x → zs ≡ ks ++ flat_map f (xs ++ x ∷ [])
one_more_flat_after ks f xs x ys zs before put =
    put ∙ ap (λ us. us ++ f x) before ∙ append_assoc ks (flat_map f xs) (f x) ∙ ap (λ us. ks ++ us) (one_more_flat f xs x (flat_map f xs) _ refl refl)

pub all_more : {A B : Type 0} (f : A → Option B) (xs us : List A) (ys zs vs : List B) → ys ≡ filter_map f xs → zs ≡ filter_map f us → vs ≡ ys ++ zs → vs ≡ filter_map f (xs ++ us)
all_more f xs us ys zs vs before here put = rw (put, before, here) (sym (filter_map-append f xs us))

-- ---- a part

-- what the first items tell stands first
pub reported_left : {A B : Type 0} (f : A → Option B) (n k : ℕ) (xs left : List A) (ys after : List B) → left ≡ take n xs → ys ≡ filter_map f xs →
    k ≡ count_by (λ x. is_some (f x)) left → after ≡ take k ys → after ≡ filter_map f left
reported_left f n k xs left ys after prefix are counted taken =
    let whole : ys ≡ filter_map f left ++ filter_map f (drop n xs) =
    are ∙ ap (filter_map f) (sym (take-append-drop n xs)) ∙ filter_map-append f (take n xs) (drop n xs) ∙ ap (λ us. filter_map f us ++ filter_map f (drop n xs)) (sym prefix) in
    taken ∙ ap (λ m. take m ys) (counted ∙ named_length f left) ∙ ap (take (length (filter_map f left))) whole ∙ take-append_seam (filter_map f left) (filter_map f (drop n xs))

kept_step : {A : Type 0} (P : A → Type 0) (x : A) (xs : List A) (b : Bool) → P x → AllByRecursion P xs → AllByRecursion P (cond b (x ∷ xs) xs)
kept_step P x xs true here rest = (here, rest)
kept_step P x xs false here rest = rest

pub each_kept : {A : Type 0} (P : A → Type 0) (p : A → Bool) (xs : List A) → AllByRecursion P xs → AllByRecursion P (filter p xs)
each_kept P p [] all = tt
each_kept P p (x ∷ xs) all = kept_step P x (filter p xs) (p x) all.0 (each_kept P p xs all.1)

-- ---- a cut

at_least : (a b c : ℕ) → a ≤ b → nat_le b c ≡ true → nat_le a c ≡ true
at_least a b c le e = grind (arith, nat_tests)

module _ {Y : Type 0} (seq : Y → ℕ) where
  -- all stand at this seqno
  abbrev pub StandAt : ℕ → List Y → Type 0
  StandAt q ys = AllByRecursion (λ (y : Y). seq y ≡ q) ys

  abbrev AreFrom : ℕ → List Y → Type 0
  AreFrom q ys = AllByRecursion (λ (y : Y). q ≤ seq y) ys

  abbrev Rises : List Y → Type 0
  Rises [] = Unit {0}
  Rises (y ∷ ys) = AreFrom (seq y) ys × Rises ys

  stand_from : (p q : ℕ) (ys : List Y) → p ≤ q → StandAt q ys → AreFrom p ys
  stand_from p q [] le at = tt
  stand_from p q (y ∷ ys) le at = (omega (arith, at.0), stand_from p q ys le at.1)

  rises_put : (q : ℕ) (ys zs : List Y) → StandAt q ys → AreFrom q zs → Rises zs → Rises (ys ++ zs)
  rises_put q [] zs at from rest = rest
  rises_put q (y ∷ ys) zs at from rest =
      (each_append (λ (z : Y). seq y ≤ seq z) ys zs (stand_from (seq y) q ys (omega (arith, at.0)) at.1) (subst (λ (n : ℕ). AreFrom n zs) (sym at.0) from), rises_put q ys zs at.1 from rest)

  parted : (to : ℕ) (ys : List Y) → Rises ys → (i j : ℕ) (d : Y) → i ≤ j → j < length ys → nat_le (seq (get_or ys j d)) to ≡ true → nat_le (seq (get_or ys i d)) to ≡ true
  parted to [] rise i j d le lt e = absurd (omega arith)
  parted to (y ∷ ys) rise zero zero d le lt e = e
  parted to (y ∷ ys) rise zero (suc j) d le lt e =
      at_least (seq y) (seq (get_or ys j d)) to (All-from_recursion (λ (z : Y). seq y ≤ seq z) ys rise.0 j d (omega arith)) e
  parted to (y ∷ ys) rise (suc i) zero d le lt e = absurd (omega arith)
  parted to (y ∷ ys) rise (suc i) (suc j) d le lt e = parted to ys rise.1 i j d (omega arith) (omega arith) e

  -- all stand up to this seqno
  abbrev pub StandTo : ℕ → List Y → Type 0
  StandTo to ks = AllByRecursion (λ (y : Y). seq y ≤ to) ks

  parted_after : (to : ℕ) (ks ys : List Y) → StandTo to ks →
      ((i j : ℕ) (d : Y) → i ≤ j → j < length ys → nat_le (seq (get_or ys j d)) to ≡ true → nat_le (seq (get_or ys i d)) to ≡ true) →
      (i j : ℕ) (d : Y) → i ≤ j → j < length (ks ++ ys) → nat_le (seq (get_or (ks ++ ys) j d)) to ≡ true → nat_le (seq (get_or (ks ++ ys) i d)) to ≡ true
  parted_after to [] ys low rest i j d le lt e = rest i j d le lt e
  parted_after to (k ∷ ks) ys low rest zero j d le lt e = le-leb (seq k) to low.0
  parted_after to (k ∷ ks) ys low rest (suc i) zero d le lt e = absurd (omega arith)
  parted_after to (k ∷ ks) ys low rest (suc i) (suc j) d le lt e = parted_after to ks ys low.1 rest i j d (omega arith) (omega arith) e

  stay_all : (to : ℕ) (ks : List Y) → StandTo to ks → filter (λ (y : Y). nat_le (seq y) to) ks ≡ ks
  stay_all to [] low = refl
  stay_all to (k ∷ ks) low = let here : nat_le (seq k) to ≡ true = le-leb (seq k) to low.0 in rw here (ap (λ us. k ∷ us) (stay_all to ks low.1))

  stays : (to q : ℕ) (ys : List Y) → nat_le q to ≡ true → StandAt q ys → filter (λ (y : Y). nat_le (seq y) to) ys ≡ ys
  stays to q [] e at = refl
  stays to q (y ∷ ys) e at = let here : nat_le (seq y) to ≡ true = ap (λ n. nat_le n to) at.0 ∙ e in rw here (ap (λ us. y ∷ us) (stays to q ys e at.1))

  goes : (to q : ℕ) (ys : List Y) → nat_le q to ≡ false → StandAt q ys → filter (λ (y : Y). nat_le (seq y) to) ys ≡ []
  goes to q [] e at = refl
  goes to q (y ∷ ys) e at = let here : nat_le (seq y) to ≡ false = ap (λ n. nat_le n to) at.0 ∙ e in rw here (goes to q ys e at.1)

  module _ (f : Recorded → List Y) (each : (r : Recorded) → StandAt r.seqno (f r)) where
    from_after : (q : ℕ) (rs : List Recorded) → AreAfter q rs → AreFrom q (flat_map f rs)
    from_after q [] suffix = tt
    from_after q (r ∷ rs) suffix =
        each_append (λ (y : Y). q ≤ seq y) (f r) (flat_map f rs) (stand_from q r.seqno (f r) (omega (arith, suffix.0)) (each r)) (from_after q rs suffix.1)

    rises : (rs : List Recorded) → IsRising rs → Rises (flat_map f rs)
    rises [] rising = tt
    rises (r ∷ rs) rising =
        rises_put r.seqno (f r) (flat_map f rs) (each r) (from_after r.seqno rs (rest_after r rs rising)) (rises rs (rest_rises r rs rising))

    filtered_step : (to : ℕ) (r : Recorded) (rs : List Recorded) (b : Bool) → nat_le r.seqno to ≡ b →
        filter (λ (y : Y). nat_le (seq y) to) (flat_map f rs) ≡ flat_map f (up_to to rs) →
        filter (λ (y : Y). nat_le (seq y) to) (f r ++ flat_map f rs) ≡ flat_map f (cond b (r ∷ up_to to rs) (up_to to rs))
    filtered_step to r rs true e rest =
        filter-append (λ (y : Y). nat_le (seq y) to) (f r) (flat_map f rs) ∙ ap (λ us. us ++ filter (λ (y : Y). nat_le (seq y) to) (flat_map f rs)) (stays to r.seqno (f r) e (each r)) ∙ ap (λ us. f r ++ us) rest
    filtered_step to r rs false e rest =
        filter-append (λ (y : Y). nat_le (seq y) to) (f r) (flat_map f rs) ∙ ap (λ us. us ++ filter (λ (y : Y). nat_le (seq y) to) (flat_map f rs)) (goes to r.seqno (f r) e (each r)) ∙ rest

    filtered : (to : ℕ) (rs : List Recorded) → filter (λ (y : Y). nat_le (seq y) to) (flat_map f rs) ≡ flat_map f (up_to to rs)
    filtered to [] = refl
    filtered to (r ∷ rs) = filtered_step to r rs (nat_le r.seqno to) refl (filtered to rs)

    -- what stands up to a seqno is what stands before all of it and what the requests up to it tell
    pub cut_flat : (to : ℕ) (ks : List Y) (rs : List Recorded) (ys after : List Y) → StandTo to ks → IsRising rs → ys ≡ ks ++ flat_map f rs →
        (IsPartitionedBy (λ (y : Y). nat_le (seq y) to) ys → after ≡ filter (λ (y : Y). nat_le (seq y) to) ys) → after ≡ ks ++ flat_map f (up_to to rs)
    cut_flat to ks rs ys after low rising are cut =
        cut (subst (λ (us : List Y). IsPartitionedBy (λ (y : Y). nat_le (seq y) to) us) (sym are) (parted_after to ks (flat_map f rs) low (parted to (flat_map f rs) (rises rs rising))))
        ∙ ap (filter (λ (y : Y). nat_le (seq y) to)) are ∙ filter-append (λ (y : Y). nat_le (seq y) to) ks (flat_map f rs)
        ∙ ap (λ us. us ++ filter (λ (y : Y). nat_le (seq y) to) (flat_map f rs)) (stay_all to ks low) ∙ ap (λ us. ks ++ us) (filtered to rs)

  as_flat : (f : Recorded → Option Y) (rs : List Recorded) → filter_map f rs ≡ flat_map (λ r. option_to_list (f r)) rs
  as_flat f [] = refl
  as_flat f (r ∷ rs) = by (f r) (as_flat f rs)
    where
      by : (o : Option Y) → filter_map f rs ≡ flat_map (λ r. option_to_list (f r)) rs → cons_option o (filter_map f rs) ≡ option_to_list o ++ flat_map (λ r. option_to_list (f r)) rs
      by None rest = rest
      by (Some y) rest = ap (λ us. y ∷ us) rest

  pub cut_map : (f : Recorded → Option Y) → ((r : Recorded) → StandAt r.seqno (option_to_list (f r))) → (to : ℕ) (ks : List Y) (rs : List Recorded) (ys after : List Y) → StandTo to ks → IsRising rs → ys ≡ ks ++ filter_map f rs →
      (IsPartitionedBy (λ (y : Y). nat_le (seq y) to) ys → after ≡ filter (λ (y : Y). nat_le (seq y) to) ys) → after ≡ ks ++ filter_map f (up_to to rs)
  cut_map f each to ks rs ys after low rising are cut =
      cut_flat (λ r. option_to_list (f r)) each to ks rs ys after low rising (are ∙ ap (λ us. ks ++ us) (as_flat f rs)) cut ∙ ap (λ us. ks ++ us) (sym (as_flat f (up_to to rs)))

-- ---- the requests themselves

themselves : (rs : List Recorded) → flat_map (λ r. r ∷ []) rs ≡ rs
themselves [] = refl
themselves (r ∷ rs) = ap (λ us. r ∷ us) (themselves rs)

pub cut_requests : (to : ℕ) (rs after : List Recorded) → IsRising rs →
    (IsPartitionedBy (λ (r : Recorded). nat_le r.seqno to) rs → after ≡ filter (λ (r : Recorded). nat_le r.seqno to) rs) → after ≡ up_to to rs
cut_requests to rs after rising cut =
    cut_flat (λ (r : Recorded). r.seqno) (λ r. r ∷ []) (λ r. (refl, tt)) to [] rs rs after tt rising (sym (themselves rs)) cut ∙ themselves (up_to to rs)
