-- An audit that tries entries one by one finds no fault exactly where each entry breaks no rule after
-- those before it. So does that of entries behind a base.
use Rattle.std.proofs.Common.{◌≡◌, ℕ, zero, suc, ◌+◌, ◌<◌, ◌≤◌, List, [], ◌∷◌, ◌++◌, length, take, slice_get, Option, Some, None, refl, sym, ◌∙◌, ap, subst, arith, append-nil, ⊎_elim}
use Rattle.std.proofs.lemmas.Bool.{cases_lt}
use Rattle.std.proofs.lemmas.List.{take-take}
use Rattle.gl_base.proofs.Lists.{slice_get-below, slice_get-of_take, push-append, take-next, take-past, take-all}
use Rattle.gl_entry.specs.declared.entry.Entry.{Entry}
use Rattle.gl_snapshot_body.specs.declared.body.Body.{Body}
use Rattle.gl_ledger.specs.Audit.{LedgerFault, fault_or, fault_behind, audited_at, audited_over}
use Rattle.gl_ledger.specs.Broken.{broken_at, broken_over}
use Rattle.gl_ledger.specs.Layers.{Layers}
use Rattle.gl_ledger.specs.declared.breach.Broken.{Broken}
use Rattle.gl_ledger.proofs.Auditing.{audited_none, audited_all}
use Rattle.gl_ledger.proofs.Pushes.{each-push}

none_of_both : (n : ℕ) (o : Option Broken) (rest : Option LedgerFault) → fault_or n o rest ≡ None → (o ≡ None) × (rest ≡ None)
none_of_both n None rest h = (refl, h)
none_of_both n (Some b) rest h = absurd (cc)

none_by_both : (n : ℕ) (o : Option Broken) (rest : Option LedgerFault) → o ≡ None → rest ≡ None → fault_or n o rest ≡ None
none_by_both n None rest h r = r
none_by_both n (Some b) rest h r = absurd (cc)

-- ---- any audit that tries entries one by one

module _ (breaks : List Entry → Entry → Option Broken) where
  -- each entry breaks no rule after those before it
  abbrev pub EachPasses : List Entry → List Entry → Type 0
  EachPasses before es = (i : ℕ) (e : Entry) → slice_get es i ≡ Some e → breaks (before ++ take i es) e ≡ None

  module _ (place : List Entry → ℕ) (fault : List Entry → List Entry → Option LedgerFault) (none : (before : List Entry) → fault before [] ≡ None)
      (more : (before es : List Entry) (e : Entry) → fault before (e ∷ es) ≡ fault_or (place before) (breaks before e) (fault (before ++ e ∷ []) es)) where
    pub each_passes : (before es : List Entry) → fault before es ≡ None → EachPasses before es
    each_passes before [] h i e at = absurd (cc)
    each_passes before (f ∷ es) h zero e at =
        let both = none_of_both (place before) (breaks before f) (fault (before ++ f ∷ []) es) (sym (more before es f) ∙ h) in
        let same : f ≡ e = cc in
        subst (λ (x : Entry). breaks (before ++ []) x ≡ None) same (ap (λ (l : List Entry). breaks l f) (append-nil before) ∙ both.0)
    each_passes before (f ∷ es) h (suc i) e at =
        let both = none_of_both (place before) (breaks before f) (fault (before ++ f ∷ []) es) (sym (more before es f) ∙ h) in
        ap (λ (l : List Entry). breaks l e) (sym (push-append before f (take i es))) ∙ each_passes (before ++ f ∷ []) es both.1 i e at

    pub all_pass : (before es : List Entry) → EachPasses before es → fault before es ≡ None
    all_pass before [] each = none before
    all_pass before (f ∷ es) each =
        more before es f
        ∙ none_by_both (place before) (breaks before f) (fault (before ++ f ∷ []) es)
        (ap (λ (l : List Entry). breaks l f) (sym (append-nil before)) ∙ each 0 f refl)
        (all_pass (before ++ f ∷ []) es (λ i e at. ap (λ (l : List Entry). breaks l e) (push-append before f (take i es)) ∙ each (suc i) e at))

  -- with one more that breaks none, and the first ones
  pub passes-push : (es : List Entry) (e : Entry) → EachPasses [] es → breaks es e ≡ None → EachPasses [] (es ++ e ∷ [])
  passes-push es e each one = each-push (λ i before f. breaks before f ≡ None) es e each one

  pub passes-take : (es : List Entry) (to : ℕ) → EachPasses [] es → EachPasses [] (take to es)
  passes-take es to each i e at =
      let before = slice_get-of_take to es i e at in
      ap (λ (l : List Entry). breaks l e) (take-take i to es (omega (arith, before.0))) ∙ each i e before.1

  -- what holds of no entries, and with one more that breaks none, holds of all
  module _ (P : List Entry → Type 0) (none : P []) (more : (es : List Entry) (e : Entry) → EachPasses [] es → P es → breaks es e ≡ None → P (es ++ e ∷ [])) where
    upto : (es : List Entry) → EachPasses [] es → (n : ℕ) → P (take n es)
    upto es each zero = none
    upto es each (suc n) = ⊎_elim
        (λ (here : n < length es).
        let e = slice_get-below es n here in
        subst P (sym (take-next es n e.0 e.1)) (more (take n es) e.0 (passes-take es n each) (upto es each n) (each n e.0 e.1)))
        (λ (past : length es ≤ n). subst P (take-past es n past ∙ sym (take-past es (suc n) (omega (arith, past)))) (upto es each n))
        (cases_lt n (length es))

    pub passes_induction : (es : List Entry) → EachPasses [] es → P es
    passes_induction es each = subst P (take-all es) (upto es each (length es))

-- ---- of entries behind a base

module _ (layers : Layers) (body : Body) where
  pub each_over : (es : List Entry) → audited_over layers body es ≡ None → EachPasses (broken_over layers body) [] es
  each_over es h = go body.base refl h
    where
      go : (n : ℕ) → body.base ≡ n → audited_at layers n body es ≡ None → EachPasses (broken_over layers body) [] es
      go zero is w i e at = ap (λ (n : ℕ). broken_at layers n body (take i es) e) is ∙ audited_none layers es w i e at
      go (suc n) is w i e at = each_passes (broken_over layers body) (λ before. body.base + length before + 1) (fault_behind layers body) (λ before. refl) (λ before es e. refl) [] es w i e at

  pub all_over : (es : List Entry) → EachPasses (broken_over layers body) [] es → audited_over layers body es ≡ None
  all_over es each = go body.base refl
    where
      go : (n : ℕ) → body.base ≡ n → audited_at layers n body es ≡ None
      go zero is = audited_all layers es (λ i e at. ap (λ (n : ℕ). broken_at layers n body (take i es) e) (sym is) ∙ each i e at)
      go (suc n) is = all_pass (broken_over layers body) (λ before. body.base + length before + 1) (fault_behind layers body) (λ before. refl) (λ before es e. refl) [] es each

  -- with one more entry that breaks none, and the first ones
  pub over-push : (es : List Entry) (e : Entry) → audited_over layers body es ≡ None → broken_over layers body es e ≡ None → audited_over layers body (es ++ e ∷ []) ≡ None
  over-push es e h one = all_over (es ++ e ∷ []) (passes-push (broken_over layers body) es e (each_over es h) one)

  pub over-take : (es : List Entry) (to : ℕ) → audited_over layers body es ≡ None → audited_over layers body (take to es) ≡ None
  over-take es to h = all_over (take to es) (passes-take (broken_over layers body) es to (each_over es h))

  -- what holds of no entries, and with one more that breaks none, holds of all
  pub over_induction : (P : List Entry → Type 0) → P [] → ((es : List Entry) (e : Entry) → audited_over layers body es ≡ None → P es → broken_over layers body es e ≡ None → P (es ++ e ∷ [])) → (es : List Entry) → audited_over layers body es ≡ None → P es
  over_induction P none more es h = passes_induction (broken_over layers body) P none (λ before e each holds one. more before e (all_over before each) holds one) es (each_over es h)
