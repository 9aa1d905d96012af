-- Requests of a whole ledger above a base follow one another behind the rows that those up to it
-- left, and the other way.
use Rattle.std.proofs.Common.{◌≡◌, ℕ, ◌<◌, List, [], ◌∷◌, ◌++◌, Some, Ok, false, refl, sym, ◌∙◌, subst, append-nil, append_assoc}
use Rattle.std.specs.List.{AllByRecursion}
use Rattle.gl_base.proofs.Lists.{push-append}
use Rattle.gl_vmaps.specs.declared.row.Row.{Row}
use Rattle.gl_gov_rules.specs.declared.change.Recorded.{Recorded}
use Rattle.gl_gov_rules.specs.declared.row.GovernedRows.{GovernedRows}
use Rattle.gl_gov_rules.specs.Changes.{history}
use Rattle.gl_gov_rules.specs.Governed.{is_founding, is_nothing, IsAbove, Follows, IsGoverned}
use Rattle.gl_gov_rules.specs.GovernedRows.{governed_rows, history_over}
use Rattle.gl_gov_rules.proofs.Prefixes.{governed_prefix, governed_next}
use Rattle.gl_gov_base.specs.GovernedOver.{FollowsOver, IsGovernedOver}
use Rattle.gl_gov_base.specs.Law.{AreAccepted, IsLeft, IsOver}
use Rattle.gl_gov_base.proofs.AcceptedOver.{some_founded, governed_over}
use Rattle.gl_gov_base.proofs.AtBase.{alike_over}
use Rattle.gl_gov_base.proofs.ReadRows.{read_back}
use Rattle.gl_gov_base.proofs.RequestsOver.{over_more, over_next, over_rise, over_pushed, seqno_read}
use Rattle.gl_gov_base.proofs.SameRefusals.{same_refusal}

-- ---- from the whole

above_rest : (n : ℕ) (xs ys : List Recorded) → IsAbove n (xs ++ ys) → IsAbove n ys
above_rest n [] ys all = all
above_rest n (x ∷ xs) ys all = above_rest n xs ys all.1

some_more : (xs ys : List Recorded) → is_nothing xs ≡ false → is_nothing (xs ++ ys) ≡ false
some_more [] ys some = absurd cc
some_more (x ∷ xs) ys some = refl

module _ (base : ℕ) (all : List Row) (g : GovernedRows) (rs : List Recorded) where
  -- the requests up to the base are some
  some_below : IsLeft base all rs → governed_rows base all ≡ Ok g → IsGoverned rs → is_nothing rs ≡ false
  some_below rows read governed = let back = read_back rs governed base rows.low rows.fits all g rows.left read in some_founded rs back.founder back.founded

  -- the first ones, and one more
  first_over : (es more : List Recorded) → IsOver base all g rs (es ++ more) → IsOver base all g rs es
  first_over es more over = record {
    above = over.above;
    rows = over.rows;
    read = over.read;
    high = in_front es more over.high;
    governed = governed_prefix (rs ++ es) more (subst IsGoverned (sym (append_assoc rs es more)) over.governed);
  }
    where
      in_front : (xs ys : List Recorded) → AllByRecursion (λ (r : Recorded). base < r.seqno) (xs ++ ys) → AllByRecursion (λ (r : Recorded). base < r.seqno) xs
      in_front [] ys high = tt
      in_front (x ∷ xs) ys high = (high.0, in_front xs ys high.1)

  next_over : (es : List Recorded) (r : Recorded) → IsOver base all g rs (es ++ r ∷ []) → FollowsOver (Some g) es r
  next_over es r over =
      let before : IsOver base all g rs es = first_over es (r ∷ []) over in
      let follows : Follows (rs ++ es) r = governed_next (rs ++ es) r [] (subst IsGoverned (sym (append_assoc rs es (r ∷ []))) over.governed) in
      let first : IsGoverned rs = governed_prefix rs es before.governed in
      let high : base < r.seqno = last es over.high in
      record {
        above_base = subst (λ n. n < r.seqno) (sym (seqno_read base all g over.read)) high;
        above = above_rest r.seqno rs es follows.above;
        fits = follows.fits;
        founding = follows.founding ∙ some_more rs es (some_below over.rows over.read first);
        accepted = sym (same_refusal base (history (rs ++ es)) (history_over (Some g) es) (alike_over base all g rs es before) r.seqno high r.request follows.fits) ∙ follows.accepted;
      }
    where
      last : (xs : List Recorded) → AllByRecursion (λ (q : Recorded). base < q.seqno) (xs ++ r ∷ []) → base < r.seqno
      last [] high = high.0
      last (x ∷ xs) high = last xs high.1

  onto : (es more : List Recorded) → IsOver base all g rs (es ++ more) → IsGovernedOver (Some g) es → IsGovernedOver (Some g) (es ++ more)
  onto es [] over before = rw append-nil before
  onto es (r ∷ more) over before =
      let regrouped : IsOver base all g rs ((es ++ r ∷ []) ++ more) = subst (IsOver base all g rs) (sym (push-append es r more)) over in
      let next = next_over es r (first_over (es ++ r ∷ []) more regrouped) in
      subst (IsGovernedOver (Some g)) (push-append es r more) (onto (es ++ r ∷ []) more regrouped (over_pushed (Some g) es r before next))

  -- those above the base follow one another behind it
  pub whole_behind : (es : List Recorded) → IsOver base all g rs es → IsGovernedOver (Some g) es
  whole_behind es over = onto [] es over (λ i r at. absurd cc)

  -- ---- to the whole

  accepted_from : (ps es : List Recorded) → g.seqno ≡ base → IsGovernedOver (Some g) (ps ++ es) → AreAccepted base (history_over (Some g) ps) es
  accepted_from ps [] at all = tt
  accepted_from ps (r ∷ es) at all =
      let follows : FollowsOver (Some g) ps r = over_next (Some g) ps r es all in
      let rest = accepted_from (ps ++ r ∷ []) es at (subst (IsGovernedOver (Some g)) (sym (push-append ps r es)) all) in
      (subst (λ n. n < r.seqno) at follows.above_base, follows.fits, follows.accepted, subst (λ h. AreAccepted base h es) (over_more (Some g) ps r) rest)

  none_founds : (ps es : List Recorded) → IsGovernedOver (Some g) (ps ++ es) → AllByRecursion (λ (r : Recorded). is_founding r.request ≡ false) es
  none_founds ps [] all = tt
  none_founds ps (r ∷ es) all = ((over_next (Some g) ps r es all).founding, none_founds (ps ++ r ∷ []) es (subst (IsGovernedOver (Some g)) (sym (push-append ps r es)) all))

  -- those that follow one another behind the base follow those up to it
  pub behind_whole : (es : List Recorded) → 0 < base → IsLeft base all rs → governed_rows base all ≡ Ok g → IsGoverned rs → IsGovernedOver (Some g) es → IsGoverned (rs ++ es)
  behind_whole es above rows read governed over =
      governed_over base all g rs es (record {
        above = above;
        rows = rows;
        read = read;
        governed = governed;
        rising = over_rise (Some g) es over;
        founding = none_founds [] es over;
        accepted = accepted_from [] es (seqno_read base all g read) over;
      })
