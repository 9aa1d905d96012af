-- The small book has the laws.
use Rattle.std.proofs.Common.{max, nat_le, ◌==◌, ◌≡◌, ◌≢◌, ◌⊎◌, inl, inr, ⊎_elim, ℕ, zero, suc, ◌+◌, ◌≤◌, ◌<◌, List, [], ◌∷◌, ◌++◌, length, take, Bool, true, false, ◌&&◌, ◌||◌, not, nat_lt, is_some, is_none, if◌then◌else◌, Option, Some, None, Result, Ok, slice_get, refl, sym, ap, ◌∙◌, subst, true≢false, length-take, arith}
use Rattle.std.specs.Option.{option_to_list}
use Rattle.std.proofs.lemmas.Bool.{cases_eq}
use Rattle.std.proofs.lemmas.Bool.Decides.{nat_tests}
use Rattle.gl_rules.specs.Identity.{NodeId, same, member}
use Rattle.gl_rules.specs.Log.{entry_at, seqno_with_first, last_signature, greatest_recorded}
use Rattle.gl_rules.specs.Configuration.{or_else, in_some, configuration_at, configurations_above}
use Rattle.gl_rules.specs.Safety.{IsLawful, IsRetiring, EachFollows, KeepsPlaces, Makes, MarksNone, MayRecord}
use Rattle.gl_rules.proofs.Ids.{same_is}
use Rattle.gl_rules.proofs.Lists.{there, within, take_get, push_get}
use Rattle.gl_rules.proofs.Soundness.{sound_cut, sound_push}
use Rattle.gl_safety.proofs.Places.{place_cut, place_within}
use Rattle.gl_safety.proofs.Signatures.{last_above}
use Rattle.gl_safety.specs.declared.small_book.Entry.{Entry}
use Rattle.gl_safety.specs.declared.small_book.Kind.{Kind}
use Rattle.gl_safety.specs.declared.small_book.Kind.TheVariants.{Plain, Change, Removal, Mark, Signature, Evidence}
use Rattle.gl_safety.specs.declared.small_book.Order.{Order}
use Rattle.gl_safety.specs.declared.small_book.Order.TheVariants.{SetNodes, RemoveNode, MarkNode}
use Rattle.gl_safety.specs.declared.small_book.Fault.{Fault}
use Rattle.gl_safety.specs.SmallBook.{members, signs, commit_in, is_snapshot, set_in, removes, is_mark_of, one_later, first_place, removal_of, mark_of, none_removed, signs_at, set_at, bare, is_above, removed_above, none_above, is_recordable, fits, fault_of, kind_of, marked_by, made_if, small}

-- where the first entry that passes a test stands
module _ (test : Entry → Bool) where
  first_is : (l : List Entry) (k : ℕ) → first_place test l ≡ Some k → (i : ℕ) × (k ≡ suc i) × (e : Entry) × (slice_get l i ≡ Some e) × (test e ≡ true)
  first_is [] k a = absurd (cc)
  first_is (e ∷ l) k a = go (test e) refl (first_place test l) refl a (first_is l)
    where
      go : (m : Bool) → test e ≡ m → (o : Option ℕ) → first_place test l ≡ o → (if m then Some 1 else one_later o) ≡ Some k → ((j : ℕ) → first_place test l ≡ Some j → (i : ℕ) × (j ≡ suc i) × (f : Entry) × (slice_get l i ≡ Some f) × (test f ≡ true)) →
          (i : ℕ) × (k ≡ suc i) × (f : Entry) × (slice_get (e ∷ l) i ≡ Some f) × (test f ≡ true)
      go true d o u w again = (0, let q : 1 ≡ k = cc in sym q, e, refl, d)
      go false d None u w again = absurd (cc)
      go false d (Some j) u w again = let r = again j u in (suc r.0, let q : suc j ≡ k = cc in omega (arith, r.1), r.2, r.3, r.4)

  first_stays : (l : List Entry) (e : Entry) (k : ℕ) → first_place test l ≡ Some k → first_place test (l ++ e ∷ []) ≡ Some k
  first_stays [] e k a = absurd (cc)
  first_stays (d ∷ l) e k a = go (test d) (first_place test l) refl a (first_stays l e)
    where
      go : (m : Bool) (o : Option ℕ) → first_place test l ≡ o → (if m then Some 1 else one_later o) ≡ Some k → ((j : ℕ) → first_place test l ≡ Some j → first_place test (l ++ e ∷ []) ≡ Some j) → (if m then Some 1 else one_later (first_place test (l ++ e ∷ []))) ≡ Some k
      go true o u w again = w
      go false None u w again = absurd (cc)
      go false (Some j) u w again = ap one_later (again j u) ∙ w

  first_comes : (l : List Entry) (e : Entry) (k : ℕ) → first_place test (l ++ e ∷ []) ≡ Some k → (first_place test l ≡ Some k) ⊎ (k ≡ length l + 1)
  first_comes [] e k a = go (test e) a
    where
      go : (m : Bool) → (if m then Some 1 else None) ≡ Some k → (None ≡ Some k) ⊎ (k ≡ 0 + 1)
      go true w = inr (let q : 1 ≡ k = cc in sym q)
      go false w = absurd (cc)
  first_comes (d ∷ l) e k a = go (test d) (first_place test (l ++ e ∷ [])) refl a (first_comes l e)
    where
      go : (m : Bool) (o : Option ℕ) → first_place test (l ++ e ∷ []) ≡ o → (if m then Some 1 else one_later o) ≡ Some k → ((j : ℕ) → first_place test (l ++ e ∷ []) ≡ Some j → (first_place test l ≡ Some j) ⊎ (j ≡ length l + 1)) →
          ((if m then Some 1 else one_later (first_place test l)) ≡ Some k) ⊎ (k ≡ suc (length l) + 1)
      go true o u w again = inl w
      go false None u w again = absurd (cc)
      go false (Some j) u w again = ⊎_elim (λ (q : first_place test l ≡ Some j). inl (ap one_later q ∙ w)) (λ (q : j ≡ length l + 1). inr (let r : suc j ≡ k = cc in omega arith)) (again j u)

  first_end : (l : List Entry) (e : Entry) → first_place test (l ++ e ∷ []) ≡ Some (length l + 1) → test e ≡ true
  first_end l e a =
      let r = first_is (l ++ e ∷ []) (length l + 1) a in
      let same_i : r.0 ≡ length l = omega (arith, r.1) in
      let at : slice_get (l ++ e ∷ []) r.0 ≡ Some e = ap (slice_get (l ++ e ∷ [])) same_i ∙ push_get l e in
      let eq : r.2 ≡ e = let z = sym r.3 ∙ at in cc in
      ap test (sym eq) ∙ r.4

places_of : (Sound : List Entry → Type 0) (test : NodeId → Entry → Bool) → KeepsPlaces small Sound (λ log y. first_place (test y) log)
places_of Sound test = record {
  none = λ y. refl;
  stays = λ log e y k z a. first_stays (test y) log e k a;
  comes = λ log e y k z a. first_comes (test y) log e k a;
}

-- an entry of another kind marks none
marks_none : (log : List Entry) (e : Entry) → ((y : NodeId) → is_mark_of y e.kind ≡ false) → MarksNone small log e
marks_none log e d y k a = ⊎_elim
    (λ (q : mark_of log y ≡ Some k). q)
    (λ (q : k ≡ length log + 1). absurd (true≢false (sym (first_end (λ f. is_mark_of y f.kind) log e (a ∙ ap Some q)) ∙ d y)))
    (first_comes (λ f. is_mark_of y f.kind) log e k a)

made_is : {X : Type 0} (m : Bool) (x y : X) → made_if m x ≡ Ok y → (m ≡ true) × (y ≡ x)
made_is true x y a = (refl, let q : x ≡ y = cc in sym q)
made_is false x y a = absurd (cc)

makes : (log : List Entry) (e : Entry) → EachFollows small log → fits log e.kind ≡ true → Makes small (EachFollows small) log e.view e
makes log e z f = record { view_is = refl; follows = ap fault_of f; sound = sound_push small log e z (ap fault_of f) }

fit_from : (log : List Entry) (e : Entry) → fault_of (fits log e.kind) ≡ None → fits log e.kind ≡ true
fit_from log e a = go (fits log e.kind) a
  where
    go : (m : Bool) → fault_of m ≡ None → m ≡ true
    go true w = refl
    go false w = absurd (cc)

-- the last entry of a sound ledger
fits_last : (log : List Entry) (e : Entry) → EachFollows small (log ++ e ∷ []) → fits log e.kind ≡ true
fits_last log e z =
    let r = z (length log) e (push_get log e) in
    let cut : take (length log) (log ++ e ∷ []) ≡ log = cut_back log e in
    fit_from log e (ap (λ l. fault_of (fits l e.kind)) (sym cut) ∙ r)
  where
    cut_back : (l : List Entry) (f : Entry) → take (length l) (l ++ f ∷ []) ≡ l
    cut_back [] f = refl
    cut_back (x ∷ l) f = ap {B = List Entry} (λ r. x ∷ r) (cut_back l f)

governs_sign : (g : Order) → signs (kind_of g) ≡ false
governs_sign (SetNodes nodes) = refl
governs_sign (RemoveNode node nodes) = refl
governs_sign (MarkNode node) = refl

governs_mark : (g : Order) (y : NodeId) → is_mark_of y (kind_of g) ≡ true → marked_by g ≡ Some y
governs_mark (SetNodes nodes) y a = absurd (cc)
governs_mark (RemoveNode node nodes) y a = absurd (cc)
governs_mark (MarkNode node) y a = ap Some (sym (same_is y node a))

mark_kind : (log : List Entry) (k : Kind) (y : NodeId) → is_mark_of y k ≡ true → fits log k ≡ true → (signs k ≡ false) × ((q : ℕ) × (removal_of log y ≡ Some q))
mark_kind log (Mark node) y a f = (refl, go (removal_of log node) refl f)
  where
    go : (o : Option ℕ) → removal_of log node ≡ o → is_some o ≡ true → (q : ℕ) × (removal_of log y ≡ Some q)
    go None d w = absurd (cc)
    go (Some q) d w = (q, ap (removal_of log) (same_is y node a) ∙ d)
mark_kind log Plain y a f = absurd (cc)
mark_kind log (Change nodes) y a f = absurd (cc)
mark_kind log (Removal node nodes) y a f = absurd (cc)
mark_kind log (Signature commit) y a f = absurd (cc)
mark_kind log Evidence y a f = absurd (cc)

snapshot_kind : (log : List Entry) (k : Kind) → is_snapshot k ≡ true → fits log k ≡ true → signs_at (entry_at log (length log)) ≡ true
snapshot_kind log Evidence a f = f
snapshot_kind log Plain a f = absurd (cc)
snapshot_kind log (Change nodes) a f = absurd (cc)
snapshot_kind log (Removal node nodes) a f = absurd (cc)
snapshot_kind log (Mark node) a f = absurd (cc)
snapshot_kind log (Signature commit) a f = absurd (cc)

ok_is : (x y : Entry) (r : Result Entry Fault) → r ≡ Ok x → r ≡ Ok y → y ≡ x
ok_is x y r d e = cc

ok_pair : (m n : Entry × ℕ) (r : Result (Entry × ℕ) Fault) → r ≡ Ok m → r ≡ Ok n → m ≡ n
ok_pair m n r d e = cc

ok_first : (x y : Entry) (q a : ℕ) (r : Result (Entry × ℕ) Fault) → r ≡ Ok (x, q) → r ≡ Ok (y, a) → y ≡ x
ok_first x y q a r d e =
    let m : Entry × ℕ = (x, q) in
    let n : Entry × ℕ = (y, a) in
    ap (λ (p : Entry × ℕ). p.0) (sym (ok_pair m n r d e))

-- evidence stands right after a signature
witness : (log : List Entry) (seqno : ℕ) (e : Entry) → EachFollows small log → entry_at log (suc seqno) ≡ Some e → is_snapshot e.kind ≡ true → (f : Entry) × (entry_at log seqno ≡ Some f) × (signs f.kind ≡ true)
witness log seqno e z a d =
    let fit = fit_from (take seqno log) e (z seqno e a) in
    let long : length (take seqno log) ≡ seqno = omega (arith, length-take seqno log, within log seqno e a) in
    let signed : signs_at (entry_at (take seqno log) seqno) ≡ true = ap (λ k. signs_at (entry_at (take seqno log) k)) (sym long) ∙ snapshot_kind (take seqno log) e.kind d fit in
    go seqno refl signed
  where
    go : (k : ℕ) → seqno ≡ k → signs_at (entry_at (take seqno log) k) ≡ true → (f : Entry) × (entry_at log k ≡ Some f) × (signs f.kind ≡ true)
    go zero h w = absurd (cc)
    go (suc i) h w =
        let f = there log i (omega (arith, within log seqno e a)) in
        let at : slice_get (take seqno log) i ≡ Some f.0 = take_get seqno log i f.0 (omega arith) f.1 in
        (f.0, f.1, ap signs_at (sym at) ∙ w)

-- the words of the rules over the book but for its tests
same_last : (log : List Entry) → last_signature small log ≡ last_signature bare log
unfolding last_signature
same_last [] = refl
same_last (e ∷ es) = ap (seqno_with_first (signs e.kind)) (same_last es)

same_recorded : (log : List Entry) → greatest_recorded small log ≡ greatest_recorded bare log
unfolding greatest_recorded
same_recorded [] = refl
same_recorded (e ∷ es) = ap (max (if signs e.kind then commit_in e.kind else 0)) (same_recorded es)

-- a signature fits with a commit that may be recorded
module _ (log : List Entry) (commit : ℕ) (m : MayRecord small log commit) where
  not_above : (k : Kind) → removed_above log commit k ≡ false
  not_above (Mark node) = go (mark_of log node) refl (removal_of log node) refl
    where
      go : (p : Option ℕ) → mark_of log node ≡ p → (q : Option ℕ) → removal_of log node ≡ q → (is_above p (last_signature bare log) && is_above q commit) ≡ false
      go None d q e = refl
      go (Some mark) d None e = inner (nat_lt (last_signature bare log) mark)
        where
          inner : (t : Bool) → (t && false) ≡ false
          inner true = refl
          inner false = refl
      go (Some mark) d (Some removal) e = inner (nat_lt (last_signature bare log) mark) refl
        where
          inner : (t : Bool) → nat_lt (last_signature bare log) mark ≡ t → (t && nat_lt commit removal) ≡ false
          inner false u = refl
          inner true u = let low = m.removals node mark removal d (let w = same_last log in grind (arith, nat_tests)) e in grind (arith, nat_tests)
  not_above Plain = refl
  not_above (Change nodes) = refl
  not_above (Removal node nodes) = refl
  not_above (Signature recorded) = refl
  not_above Evidence = refl

  all_below : (es : List Entry) → none_above log commit es ≡ true
  all_below [] = refl
  all_below (e ∷ es) = ap (λ (t : Bool). not t && none_above log commit es) (not_above e.kind) ∙ all_below es

  signed_before : 0 < last_signature bare log
  signed_before = go commit m.at
    where
      go : (c : ℕ) → entry_at log c ≡ Some m.signature → 0 < last_signature bare log
      go zero a = absurd (cc)
      go (suc i) a = let w = last_above small log i m.signature a m.signs in omega (arith, same_last log)

  recordable : is_recordable log commit ≡ true
  recordable =
      let later : (last_signature bare log == 0) ≡ false = let w = signed_before in grind (arith, nat_tests) in
      let signs : signs_at (entry_at log commit) ≡ true = ap signs_at m.at ∙ m.signs in
      let least : nat_le (greatest_recorded bare log) commit ≡ true = let u = m.least in let w = same_recorded log in grind (arith, nat_tests) in
      ap (λ (t : Bool). if t then commit == suc (length log) else (signs_at (entry_at log commit) && nat_le (greatest_recorded bare log) commit && none_above log commit log)) later
      ∙ ap (λ (t : Bool). t && nat_le (greatest_recorded bare log) commit && none_above log commit log) signs
      ∙ ap (λ (t : Bool). t && none_above log commit log) least ∙ all_below log

pub small_lawful : IsLawful small (EachFollows small)
small_lawful = record {
  executed = λ log view q e a z v d.
      let eq : e ≡ record { view = view; kind = Plain } = ok_first (record { view = view; kind = Plain }) e q a (Ok (record { view = view; kind = Plain }, q)) refl d in
      subst (λ (f : Entry). Makes small (EachFollows small) log view f × (signs f.kind ≡ false) × MarksNone small log f) (sym eq)
      (makes log (record { view = view; kind = Plain }) z refl, refl, marks_none log (record { view = view; kind = Plain }) (λ y. refl));
  governed = λ log view g e a z v d.
      let r = made_is (fits log (kind_of g)) (record { view = view; kind = kind_of g }, 0) (e, a) d in
      let eq : e ≡ record { view = view; kind = kind_of g } = ap (λ (p : Entry × ℕ). p.0) r.1 in
      subst (λ (f : Entry). Makes small (EachFollows small) log view f × (signs f.kind ≡ false)) (sym eq)
      (makes log (record { view = view; kind = kind_of g }) z r.0, governs_sign g);
  signed = λ x leaf log view commit e z v c d.
      let eq : e ≡ record { view = view; kind = Signature commit } = ok_is (record { view = view; kind = Signature commit }) e (Ok (record { view = view; kind = Signature commit })) refl d in
      subst (λ (f : Entry). Makes small (EachFollows small) log view f × (signs f.kind ≡ true) × (small.recorded_commit f ≡ commit)) (sym eq)
      (makes log (record { view = view; kind = Signature commit }) z (recordable log commit c), refl, refl);
  evident = λ log view e z v d.
      let r = made_is (fits log Evidence) (record { view = view; kind = Evidence }) e d in
      subst (λ (f : Entry). Makes small (EachFollows small) log view f × (signs f.kind ≡ false) × MarksNone small log f) (sym r.1)
      (makes log (record { view = view; kind = Evidence }) z r.0, refl, marks_none log (record { view = view; kind = Evidence }) (λ y. refl));
  taken = λ log e z f. sound_push small log e z f;
  weaker = λ log e base f. f;
  cut = λ log seqno z. sound_cut small log seqno z;
  witnessed = witness;
  removals = places_of (EachFollows small) (λ y e. removes y e.kind);
  markings = places_of (EachFollows small) (λ y e. is_mark_of y e.kind);
  marked = λ log e y z a. mark_kind log e.kind y (first_end (λ f. is_mark_of y f.kind) log e a) (fits_last log e z);
  marks = λ log view g e a y seqno z v d c. ⊎_elim
      (λ (q : mark_of log y ≡ Some seqno). inl q)
      (λ (q : seqno ≡ length log + 1).
      let r = made_is (fits log (kind_of g)) (record { view = view; kind = kind_of g }, 0) (e, a) d in
      let eq : e ≡ record { view = view; kind = kind_of g } = ap (λ (p : Entry × ℕ). p.0) r.1 in
      let m : is_mark_of y e.kind ≡ true = first_end (λ f. is_mark_of y f.kind) log e (c ∙ ap Some q) in
      inr (governs_mark g y (ap (λ (f : Entry). is_mark_of y f.kind) (sym eq) ∙ m)))
      (first_comes (λ f. is_mark_of y f.kind) log e seqno c);
}

-- a removed node is in no set from its removal on
none_of : (log : List Entry) (y : NodeId) (q : ℕ) (ns : List NodeId) → removal_of log y ≡ Some q → none_removed log ns ≡ true → member y ns ≡ false
none_of log y q [] a d = refl
none_of log y q (n ∷ ns) a d = go (same y n) refl (none_of log y q ns a)
  where
    first : is_none (removal_of log n) ≡ true
    first = and_first (is_none (removal_of log n)) (none_removed log ns) d
      where
        and_first : (s t : Bool) → (s && t) ≡ true → s ≡ true
        and_first true t e = refl
        and_first false t e = e

    rest : none_removed log ns ≡ true
    rest = and_second (is_none (removal_of log n)) (none_removed log ns) d
      where
        and_second : (s t : Bool) → (s && t) ≡ true → t ≡ true
        and_second true t e = e
        and_second false t e = absurd (cc)

    go : (m : Bool) → same y n ≡ m → (none_removed log ns ≡ true → member y ns ≡ false) → (m || member y ns) ≡ false
    go true e again = absurd (let r : removal_of log n ≡ Some q = ap (removal_of log) (sym (same_is y n e)) ∙ a in let w : is_none (removal_of log n) ≡ false = ap is_none r in cc)
    go false e again = again rest

not_in_set : (log : List Entry) (k : Kind) (y : NodeId) (ns : List NodeId) → set_in k ≡ Some ns → fits log k ≡ true → (removes y k ≡ true) ⊎ ((q : ℕ) × (removal_of log y ≡ Some q)) → member y ns ≡ false
not_in_set log (Change nodes) y ns a f r = ⊎_elim (λ (q : false ≡ true). absurd (cc)) (λ (q : (q : ℕ) × (removal_of log y ≡ Some q)). let e : members nodes ≡ ns = cc in ap (member y) (sym e) ∙ none_of log y q.0 (members nodes) q.1 f) r
not_in_set log (Removal node nodes) y ns a f r =
    let e : members nodes ≡ ns = cc in
    ap (member y) (sym e) ∙ ⊎_elim
    (λ (q : same y node ≡ true). ap (λ m. member m (members nodes)) (same_is y node q) ∙ out (member node (members nodes)) (none_removed log (members nodes)) f)
    (λ (q : (q : ℕ) × (removal_of log y ≡ Some q)). none_of log y q.0 (members nodes) q.1 (and_second (not (member node (members nodes))) (none_removed log (members nodes)) f))
    r
  where
    out : (s t : Bool) → (not s && t) ≡ true → s ≡ false
    out true t e = absurd (cc)
    out false t e = refl

    and_second : (s t : Bool) → (s && t) ≡ true → t ≡ true
    and_second true t e = e
    and_second false t e = absurd (cc)
not_in_set log Plain y ns a f r = absurd (cc)
not_in_set log (Mark node) y ns a f r = absurd (cc)
not_in_set log (Signature commit) y ns a f r = absurd (cc)
not_in_set log Evidence y ns a f r = absurd (cc)

module _ (log : List Entry) (y : NodeId) (q : ℕ) (z : EachFollows small log) (a : removal_of log y ≡ Some q) where
  places : KeepsPlaces small (EachFollows small) removal_of
  places = places_of (EachFollows small) (λ u e. removes u e.kind)

  set_without : (p : ℕ) (ns : List NodeId) → q ≤ p → p ≤ length log → set_at (entry_at (take p log) (length (take p log))) ≡ Some ns → member y ns ≡ false
  set_without zero ns h i d = absurd (let r = place_within small removal_of places log y q z a in omega (arith, r.0))
  set_without (suc k) ns h i d =
      let e = there log k (omega arith) in
      let long : length (take (suc k) log) ≡ suc k = omega (arith, length-take (suc k) log) in
      let at : slice_get (take (suc k) log) k ≡ Some e.0 = take_get (suc k) log k e.0 (omega arith) e.1 in
      let set : set_in e.0.kind ≡ Some ns = sym (ap set_at at) ∙ ap (λ m. set_at (entry_at (take (suc k) log) m)) (sym long) ∙ d in
      not_in_set (take k log) e.0.kind y ns set (fit_from (take k log) e.0 (z k e.0 e.1)) (⊎_elim
      (λ (r : q ≡ suc k).
      let f = first_is (λ m. removes y m.kind) log q a in
      let same_f : f.2 ≡ e.0 = let w : slice_get log k ≡ Some f.2 = ap (slice_get log) (let u : k ≡ f.0 = omega (arith, f.1) in u) ∙ f.3 in let v = sym w ∙ e.1 in cc in
      inl (ap (λ (m : Entry). removes y m.kind) (sym same_f) ∙ f.4))
      (λ (r : q ≢ suc k). inr (q, place_cut small removal_of places log y q k z (omega arith) a))
      (cases_eq q (suc k)))

  at_removal : (ns : List NodeId) → set_at (entry_at (take q log) (length (take q log))) ≡ None → ⊥
  at_removal ns d =
      let f = first_is (λ m. removes y m.kind) log q a in
      let long : length (take q log) ≡ suc f.0 = omega (arith, length-take q log, f.1, within log f.0 f.2 f.3) in
      let at : slice_get (take q log) f.0 ≡ Some f.2 = take_get q log f.0 f.2 (omega (arith, f.1)) f.3 in
      let set : set_in f.2.kind ≡ None = sym (ap set_at at) ∙ ap (λ m. set_at (entry_at (take q log) m)) (sym long) ∙ d in
      some_set f.2.kind f.4 set
    where
      some_set : (k : Kind) → removes y k ≡ true → set_in k ≡ None → ⊥
      some_set (Removal node nodes) u v = cc
      some_set (Change nodes) u v = cc
      some_set Plain u v = cc
      some_set (Mark node) u v = cc
      some_set (Signature commit) u v = cc
      some_set Evidence u v = cc

  in_sets : (xs ys : List (List NodeId)) → in_some y xs ≡ false → in_some y ys ≡ false → in_some y (xs ++ ys) ≡ false
  in_sets [] ys u v = v
  in_sets (x ∷ xs) ys u v = go (member y x) u (in_sets xs ys)
    where
      go : (m : Bool) → (m || in_some y xs) ≡ false → (in_some y xs ≡ false → in_some y ys ≡ false → in_some y (xs ++ ys) ≡ false) → (m || in_some y (xs ++ ys)) ≡ false
      go true w again = absurd (cc)
      go false w again = again w v

  one_set : (p : ℕ) → q ≤ p → p ≤ length log → in_some y (option_to_list (set_at (entry_at (take p log) (length (take p log))))) ≡ false
  one_set p h i = go (set_at (entry_at (take p log) (length (take p log)))) refl
    where
      go : (m : Option (List NodeId)) → set_at (entry_at (take p log) (length (take p log))) ≡ m → in_some y (option_to_list m) ≡ false
      go None d = refl
      go (Some ns) d = ap (λ m. m || false) (set_without p ns h i d)

  newest_without : (c : ℕ) → q ≤ c → c ≤ length log → in_some y (option_to_list (configuration_at small log c)) ≡ false
  unfolding configuration_at
  newest_without zero h i = refl
  newest_without (suc c) h i = go (set_at (entry_at (take (suc c) log) (length (take (suc c) log)))) refl (newest_without c)
    where
      go : (m : Option (List NodeId)) → set_at (entry_at (take (suc c) log) (length (take (suc c) log))) ≡ m → (q ≤ c → c ≤ length log → in_some y (option_to_list (configuration_at small log c)) ≡ false) → in_some y (option_to_list (or_else m (configuration_at small log c))) ≡ false
      go (Some ns) d again = ap (λ m. m || false) (set_without (suc c) ns h i d)
      go None d again = ⊎_elim
          (λ (r : q ≡ suc c). absurd (at_removal [] (ap (λ k. set_at (entry_at (take k log) (length (take k log)))) r ∙ d)))
          (λ (r : q ≢ suc c). again (omega arith) (omega arith))
          (cases_eq q (suc c))

  above_without : (c k : ℕ) → q ≤ c → k ≤ length log → in_some y (configurations_above small log c k) ≡ false
  unfolding configurations_above
  above_without c zero h i = refl
  above_without c (suc k) h i = go (nat_lt c (suc k)) refl (above_without c k h)
    where
      go : (m : Bool) → nat_lt c (suc k) ≡ m → (k ≤ length log → in_some y (configurations_above small log c k) ≡ false) → in_some y (if m then configurations_above small log c k ++ option_to_list (set_at (entry_at (take (suc k) log) (length (take (suc k) log)))) else []) ≡ false
      go true d again = in_sets (configurations_above small log c k) (option_to_list (set_at (entry_at (take (suc k) log) (length (take (suc k) log))))) (again (omega arith)) (one_set (suc k) (let u : c < suc k = grind (arith, nat_tests) in omega arith) i)
      go false d again = refl

pub small_retiring : IsRetiring small (EachFollows small)
small_retiring = record {
  removed = λ log y q c z a h i.
      in_sets log y q z a (option_to_list (configuration_at small log c)) (configurations_above small log c (length log)) (newest_without log y q z a c h i) (above_without log y q z a c (length log) h (omega arith));
}
