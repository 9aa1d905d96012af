-- The audit finds the first entry that breaks a rule, and none exactly where each entry follows.
use Rattle.std.proofs.Common.{◌≡◌, ℕ, ◌+◌, ◌<◌, ◌≤◌, List, [], ◌∷◌, ◌++◌, length, take, Option, Some, None, refl, sym, ◌∙◌, ap, subst, arith, slice_get, append_assoc, length-append, ⊎_elim}
use Rattle.std.proofs.lemmas.List.{append-nil}
use Rattle.std.proofs.lemmas.Bool.{cases_lt}
use Rattle.gl_entry.specs.declared.entry.Entry.{Entry}
use Rattle.gl_base.proofs.Lists.{slice_get-within}
use Rattle.gl_ledger.specs.Layers.{Layers}
use Rattle.gl_ledger.specs.declared.breach.Broken.{Broken}
use Rattle.gl_ledger.specs.Broken.{broken}
use Rattle.gl_ledger.specs.Audit.{LedgerFault, fault_or, fault_from, audited, IsFaultOf}

module _ (layers : Layers) where
  -- of a ledger in two parts, whose second one is audited
  abbrev Follow : List Entry → ℕ → Type 0
  Follow ledger n = (i : ℕ) (e : Entry) → i < n → slice_get ledger i ≡ Some e → broken layers (take i ledger) e ≡ None

  prefix : (xs ys : List Entry) → take (length xs) (xs ++ ys) ≡ xs
  prefix [] ys = refl
  prefix (x ∷ xs) ys = ap (λ (l : List Entry). x ∷ l) (prefix xs ys)

  there : (xs ys : List Entry) (y : Entry) → slice_get (xs ++ y ∷ ys) (length xs) ≡ Some y
  there [] ys y = refl
  there (x ∷ xs) ys y = there xs ys y

  step : (before es : List Entry) (e : Entry) → Follow (before ++ e ∷ es) (length before) → broken layers before e ≡ None → Follow (before ++ e ∷ es) (length before + 1)
  step before es e f one i d low at = ⊎_elim
      (λ (u : i < length before). f i d u at)
      (λ (u : length before ≤ i).
      let same : i ≡ length before = omega arith in
      let is : d ≡ e = let w : slice_get (before ++ e ∷ es) (length before) ≡ Some d = ap (slice_get (before ++ e ∷ es)) (sym same) ∙ at in let v = there before es e in cc in
      ap (λ (k : ℕ). broken layers (take k (before ++ e ∷ es)) d) same ∙ ap (λ (l : List Entry). broken layers l d) (prefix before (e ∷ es)) ∙ ap (broken layers before) is ∙ one)
      (cases_lt i (length before))

  moved : (before es : List Entry) (e : Entry) → (before ++ e ∷ []) ++ es ≡ before ++ e ∷ es
  moved before es e = append_assoc before (e ∷ []) es

  none_from : (before es : List Entry) → Follow (before ++ es) (length before) → fault_from layers before es ≡ None → Follow (before ++ es) (length (before ++ es))
  none_from before [] f h = subst (λ (l : List Entry). Follow l (length l)) (sym (append-nil before)) (subst (λ (l : List Entry). Follow l (length before)) (append-nil before) f)
  none_from before (e ∷ es) f h = go (broken layers before e) refl h (none_from (before ++ e ∷ []) es)
    where
      go : (o : Option Broken) → broken layers before e ≡ o → fault_or (length before + 1) o (fault_from layers (before ++ e ∷ []) es) ≡ None →
          (Follow ((before ++ e ∷ []) ++ es) (length (before ++ e ∷ [])) → fault_from layers (before ++ e ∷ []) es ≡ None → Follow ((before ++ e ∷ []) ++ es) (length ((before ++ e ∷ []) ++ es))) →
          Follow (before ++ e ∷ es) (length (before ++ e ∷ es))
      go (Some b) is w again = absurd (cc)
      go None is w again =
          let long : length (before ++ e ∷ []) ≡ length before + 1 = length-append before (e ∷ []) in
          let f' : Follow ((before ++ e ∷ []) ++ es) (length (before ++ e ∷ [])) =
          subst (λ (l : List Entry). Follow l (length (before ++ e ∷ []))) (sym (moved before es e)) (subst (λ (k : ℕ). Follow (before ++ e ∷ es) k) (sym long) (step before es e f is)) in
          subst (λ (l : List Entry). Follow l (length l)) (moved before es e) (again f' w)

  some_from : (before es : List Entry) (fault : LedgerFault) → Follow (before ++ es) (length before) → fault_from layers before es ≡ Some fault → IsFaultOf layers (before ++ es) fault
  some_from before [] fault f h = absurd (cc)
  some_from before (e ∷ es) fault f h = go (broken layers before e) refl h (some_from (before ++ e ∷ []) es fault)
    where
      go : (o : Option Broken) → broken layers before e ≡ o → fault_or (length before + 1) o (fault_from layers (before ++ e ∷ []) es) ≡ Some fault →
          (Follow ((before ++ e ∷ []) ++ es) (length (before ++ e ∷ [])) → fault_from layers (before ++ e ∷ []) es ≡ Some fault → IsFaultOf layers ((before ++ e ∷ []) ++ es) fault) →
          IsFaultOf layers (before ++ e ∷ es) fault
      go (Some b) is w again =
          let one : LedgerFault = record { seqno = length before + 1; broken = b } in
          let same : one ≡ fault = cc in
          subst (IsFaultOf layers (before ++ e ∷ es)) same (record {
            before = length before;
            seqno = omega arith;
            entry = e;
            at = there before es e;
            breaks = ap (λ (l : List Entry). broken layers l e) (prefix before (e ∷ es)) ∙ is;
            follow = f;
          })
      go None is w again =
          let long : length (before ++ e ∷ []) ≡ length before + 1 = length-append before (e ∷ []) in
          let f' : Follow ((before ++ e ∷ []) ++ es) (length (before ++ e ∷ [])) =
          subst (λ (l : List Entry). Follow l (length (before ++ e ∷ []))) (sym (moved before es e)) (subst (λ (k : ℕ). Follow (before ++ e ∷ es) k) (sym long) (step before es e f is)) in
          subst (λ (l : List Entry). IsFaultOf layers l fault) (moved before es e) (again f' w)

  no_place : (ledger : List Entry) → Follow ledger 0
  no_place ledger i e low at = absurd (omega arith)

  -- where the audit finds no fault each entry follows
  pub audited_none : (ledger : List Entry) → audited layers ledger ≡ None → (i : ℕ) (e : Entry) → slice_get ledger i ≡ Some e → broken layers (take i ledger) e ≡ None
  unfolding audited
  audited_none ledger h i e at = none_from [] ledger (no_place ledger) h i e (slice_get-within ledger i e at) at

  -- and a fault is the first
  pub audited_some : (ledger : List Entry) (fault : LedgerFault) → audited layers ledger ≡ Some fault → IsFaultOf layers ledger fault
  unfolding audited
  audited_some ledger fault h = some_from [] ledger fault (no_place ledger) h

  -- where each entry follows it finds none
  pub audited_all : (ledger : List Entry) → ((i : ℕ) (e : Entry) → slice_get ledger i ≡ Some e → broken layers (take i ledger) e ≡ None) → audited layers ledger ≡ None
  audited_all ledger each = go (audited layers ledger) refl
    where
      go : (o : Option LedgerFault) → audited layers ledger ≡ o → o ≡ None
      go None is = refl
      go (Some fault) is = absurd (let r = audited_some ledger fault is in let w = each r.before r.entry r.at in let v = r.breaks in let k = sym w ∙ v in cc)
