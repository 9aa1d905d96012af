-- Lists by number, where one of them is cut or has one more.
use Rattle.std.proofs.Common.{◌≡◌, ℕ, zero, suc, ◌+◌, ◌<◌, ◌≤◌, Bool, true, false, List, [], ◌∷◌, ◌++◌, length, take, filter, get_or, set, ◌≢◌, refl, sym, ◌∙◌, ap, arith, subst, ⊎_elim, ◌⊎◌}
use Rattle.std.specs.Prelude.{slice_set}
use Rattle.std.specs.List.Sorted.{IsPartitionedBy, IsPartitionPoint}
use Rattle.std.specs.declared.vec.Vec.{Vec}
use Rattle.std.specs.declared.alloc.Global.{Global}
use Rattle.std.proofs.lemmas.List.{get_or-map, map-set, map-append, set-get_or, get_or-set_same, get_or-set_other, length-map}
use Rattle.std.proofs.lemmas.Bool.{cases_eq, cases_lt}
use Rattle.gl_index.specs.Lists.{lists_of, list_at}

-- ---- what passes a test stands first

none_pass : {X : Type 0} (p : X → Bool) (xs : List X) → ((k : ℕ) (d : X) → k < length xs → p (get_or xs k d) ≡ false) → filter p xs ≡ []
none_pass p [] none = refl
none_pass p (x ∷ xs) none =
    let here : p x ≡ false = none zero x (omega arith) in
    rw here (none_pass p xs (λ k d lt. none (suc k) d (omega arith)))

some_pass : {X : Type 0} (p : X → Bool) (xs : List X) (i : ℕ) → ((k : ℕ) (d : X) → k < i → p (get_or xs k d) ≡ true) →
    ((k : ℕ) (d : X) → i ≤ k → k < length xs → p (get_or xs k d) ≡ false) → take i xs ≡ filter p xs
some_pass p [] zero prefix rest = refl
some_pass p [] (suc i) prefix rest = refl
some_pass p (x ∷ xs) zero prefix rest = sym (none_pass p (x ∷ xs) (λ k d lt. rest k d (omega arith) lt))
some_pass p (x ∷ xs) (suc i) prefix rest =
    let here : p x ≡ true = prefix zero x (omega arith) in
    rw here (ap (λ ys. x ∷ ys) (some_pass p xs i (λ k d lt. prefix (suc k) d (omega arith)) (λ k d le lt. rest (suc k) d (omega arith) (omega arith))))

pub taken_to_point : {X : Type 0} (p : X → Bool) (xs ys : List X) (i : ℕ) → ys ≡ take i xs → IsPartitionPoint (λ y. p y ≡ true) (λ y. p y ≡ false) xs i → ys ≡ filter p xs
taken_to_point p xs ys i taken point = taken ∙ some_pass p xs i (λ k d lt. point.0 k d (omega arith) lt) (λ k d le lt. point.1 k d le lt)

-- ---- a list at a number

module _ {X : Type 0} where
  pub at-set_same : (vs : List (Vec X Global)) (k : ℕ) (w : Vec X Global) → k < length vs → list_at (lists_of (set vs k w)) k ≡ w.items
  at-set_same vs k w lt =
      ap (λ (ls : List (List X)). get_or ls k []) (map-set (λ (v : Vec X Global). v.items) vs k w)
      ∙ get_or-set_same (lists_of vs) k w.items [] (rw (length-map vs (λ (v : Vec X Global). v.items)) lt)

  pub at-set_other : (vs : List (Vec X Global)) (k n : ℕ) (w : Vec X Global) → n ≢ k → list_at (lists_of (set vs k w)) n ≡ list_at (lists_of vs) n
  at-set_other vs k n w other =
      ap (λ (ls : List (List X)). get_or ls n []) (map-set (λ (v : Vec X Global). v.items) vs k w)
      ∙ get_or-set_other (lists_of vs) k n w.items [] other

  pub at_place : (vs : List (Vec X Global)) (k : ℕ) (d : Vec X Global) → k < length vs → list_at (lists_of vs) k ≡ (get_or vs k d).items
  at_place vs k d lt = get_or-map (λ (v : Vec X Global). v.items) vs k d [] lt

  past_end : (ls : List (List X)) (n : ℕ) → length ls ≤ n → get_or ls n [] ≡ []
  past_end [] n le = refl
  past_end (l ∷ ls) zero le = absurd (omega arith)
  past_end (l ∷ ls) (suc n) le = past_end ls n (omega arith)

  pub at_none : (vs : List (Vec X Global)) (n : ℕ) → length vs ≤ n → list_at (lists_of vs) n ≡ []
  at_none vs n le = past_end (lists_of vs) n (rw (length-map vs (λ (v : Vec X Global). v.items)) le)

  -- an empty list more changes none
  one_empty : (ls : List (List X)) (n : ℕ) → get_or (ls ++ [] ∷ []) n [] ≡ get_or ls n []
  one_empty [] zero = refl
  one_empty [] (suc n) = refl
  one_empty (l ∷ ls) zero = refl
  one_empty (l ∷ ls) (suc n) = one_empty ls n

  pub at_empty : (vs after : List (Vec X Global)) (w : Vec X Global) → after ≡ vs ++ w ∷ [] → w.items ≡ [] → (n : ℕ) → list_at (lists_of after) n ≡ list_at (lists_of vs) n
  at_empty vs after w pushed empty n =
      ap (λ (us : List (Vec X Global)). list_at (lists_of us) n) pushed
      ∙ ap (λ (ls : List (List X)). get_or ls n []) (map-append (λ (v : Vec X Global). v.items) vs (w ∷ []) ∙ ap (λ (l : List X). lists_of vs ++ l ∷ []) empty)
      ∙ one_empty (lists_of vs) n

  -- a list that stays as it is
  pub at_kept : (vs : List (Vec X Global)) (k : ℕ) (d w : Vec X Global) → k < length vs → w.items ≡ (get_or vs k d).items → lists_of (set vs k w) ≡ lists_of vs
  at_kept vs k d w lt same =
      map-set (λ (v : Vec X Global). v.items) vs k w
      ∙ ap (λ y. set (lists_of vs) k y) (same ∙ sym (at_place vs k d lt))
      ∙ set-get_or (lists_of vs) k []

  -- one more in a list
  pub at_more : (vs : List (Vec X Global)) (k : ℕ) (d w : Vec X Global) (x : X) → k < length vs → w.items ≡ (get_or vs k d).items ++ x ∷ [] →
      lists_of (set vs k w) ≡ slice_set (lists_of vs) k (list_at (lists_of vs) k ++ x ∷ [])
  at_more vs k d w x lt more =
      map-set (λ (v : Vec X Global). v.items) vs k w
      ∙ ap (λ y. set (lists_of vs) k y) (more ∙ ap (λ ys. ys ++ x ∷ []) (sym (at_place vs k d lt)))

  pub with_more_same : (ls : List (List X)) (k : ℕ) (x : X) → k < length ls → list_at (slice_set ls k (list_at ls k ++ x ∷ [])) k ≡ list_at ls k ++ x ∷ []
  with_more_same ls k x lt = get_or-set_same ls k (list_at ls k ++ x ∷ []) [] lt

  pub with_more_other : (ls : List (List X)) (k n : ℕ) (x : X) → n ≢ k → list_at (slice_set ls k (list_at ls k ++ x ∷ [])) n ≡ list_at ls n
  with_more_other ls k n x other = get_or-set_other ls k n (list_at ls k ++ x ∷ []) [] other

-- ---- each list is cut

pub record AreCut {X : Type 0} (p : X → Bool) (first vs : List (Vec X Global)) (k : ℕ) : Type 0 where
  pub done : (n : ℕ) → n < k → IsPartitionedBy p (list_at (lists_of first) n) → list_at (lists_of vs) n ≡ filter p (list_at (lists_of first) n)
  pub rest : (n : ℕ) → k ≤ n → list_at (lists_of vs) n ≡ list_at (lists_of first) n

pub none_cut : {X : Type 0} (p : X → Bool) (vs : List (Vec X Global)) → AreCut p vs vs 0
none_cut p vs = record { done = λ n lt. absurd (omega arith); rest = λ n le. refl }

pub one_cut : {X : Type 0} (p : X → Bool) (first vs : List (Vec X Global)) (k : ℕ) (d w : Vec X Global) → k < length vs →
    (IsPartitionedBy p (get_or vs k d).items → w.items ≡ filter p (get_or vs k d).items) → AreCut p first vs k → AreCut p first (set vs k w) (k + 1)
one_cut {X = X} p first vs k d w lt cut before = record {
  done = λ n low parted. by n low parted (cases_eq n k);
  rest = λ n le. at-set_other vs k n w (λ (e : n ≡ k). omega arith) ∙ before.rest n (omega arith);
}
  where
    same : (get_or vs k d).items ≡ list_at (lists_of first) k
    same = sym (at_place vs k d lt) ∙ before.rest k (omega arith)

    here : IsPartitionedBy p (list_at (lists_of first) k) → list_at (lists_of (set vs k w)) k ≡ filter p (list_at (lists_of first) k)
    here parted = at-set_same vs k w lt ∙ cut (subst (IsPartitionedBy p) (sym same) parted) ∙ ap (filter p) same

    by : (n : ℕ) → n < k + 1 → IsPartitionedBy p (list_at (lists_of first) n) → (n ≡ k) ⊎ (n ≢ k) → list_at (lists_of (set vs k w)) n ≡ filter p (list_at (lists_of first) n)
    by n low parted = ⊎_elim
        (λ (e : n ≡ k). subst (λ (m : ℕ). IsPartitionedBy p (list_at (lists_of first) m) → list_at (lists_of (set vs k w)) m ≡ filter p (list_at (lists_of first) m)) (sym e) here parted)
        (λ (e : n ≢ k). at-set_other vs k n w e ∙ before.done n (omega arith) parted)

pub all_cut : {X : Type 0} (p : X → Bool) (first vs : List (Vec X Global)) (k : ℕ) → length vs ≤ k → length first ≤ k → AreCut p first vs k →
    (n : ℕ) → IsPartitionedBy p (list_at (lists_of first) n) → list_at (lists_of vs) n ≡ filter p (list_at (lists_of first) n)
all_cut {X = X} p first vs k end start cut n parted = by (cases_lt n k)
  where
    by : (n < k) ⊎ (k ≤ n) → list_at (lists_of vs) n ≡ filter p (list_at (lists_of first) n)
    by = ⊎_elim
        (λ (low : n < k). cut.done n low parted)
        (λ (high : k ≤ n). let none : list_at (lists_of first) n ≡ [] = at_none first n (omega arith) in at_none vs n (omega arith) ∙ sym (ap (filter p) none))
