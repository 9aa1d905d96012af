-- The first fault of a ledger, by its parts.
use Rattle.std.proofs.Common.{◌≡◌, ℕ, suc, ◌+◌, List, [], ◌∷◌, ◌++◌, length, Option, None, Some, append_assoc, append-nil, sym, ap, ◌∙◌, arith}
use Rattle.gl_entry.specs.declared.entry.Entry.{Entry}
use Rattle.gl_ledger.specs.Audit.{LedgerFault, audited, fault_from, fault_or}
use Rattle.gl_ledger.specs.Broken.{broken}
use Rattle.gl_ledger.specs.Layers.{Layers}
use Rattle.gl_ledger.specs.declared.breach.Broken.{Broken}

module _ (layers : Layers) where
  -- after entries that break no rule it is that of the others
  pub fault_from-append : (before xs ys : List Entry) → fault_from layers before xs ≡ None → fault_from layers before (xs ++ ys) ≡ fault_from layers (before ++ xs) ys
  fault_from-append before [] ys none = ap (λ (l : List Entry). fault_from layers l ys) (sym (append-nil before))
  fault_from-append before (x ∷ xs) ys none = go (broken layers before x) none (λ h. fault_from-append (before ++ x ∷ []) xs ys h)
    where
      go : (o : Option Broken) → fault_or (length before + 1) o (fault_from layers (before ++ x ∷ []) xs) ≡ None
          → (fault_from layers (before ++ x ∷ []) xs ≡ None → fault_from layers (before ++ x ∷ []) (xs ++ ys) ≡ fault_from layers ((before ++ x ∷ []) ++ xs) ys)
          → fault_or (length before + 1) o (fault_from layers (before ++ x ∷ []) (xs ++ ys)) ≡ fault_from layers (before ++ x ∷ xs) ys
      go None h more = more h ∙ ap (λ (l : List Entry). fault_from layers l ys) (append_assoc before (x ∷ []) xs)
      go (Some b) h more = absurd cc

  -- and where the first of the others breaks a rule, it is that entry's
  pub broken_first : (ledger : List Entry) (e : Entry) (more : List Entry) (b : Broken) → broken layers ledger e ≡ Some b → fault_from layers ledger (e ∷ more) ≡ Some (record { seqno = suc (length ledger); broken = b })
  broken_first ledger e more b is =
      let next : length ledger + 1 ≡ suc (length ledger) = omega arith in
      ap (λ (o : Option Broken). fault_or (length ledger + 1) o (fault_from layers (ledger ++ e ∷ []) more)) is
      ∙ ap (λ (n : ℕ). Some (record { seqno = n; broken = b })) next

  pub broken_after : (ledger : List Entry) (e : Entry) (more : List Entry) (b : Broken) → audited layers ledger ≡ None → broken layers ledger e ≡ Some b →
      audited layers (ledger ++ e ∷ more) ≡ Some (record { seqno = suc (length ledger); broken = b })
  unfolding audited
  broken_after ledger e more b none is = fault_from-append [] ledger (e ∷ more) none ∙ broken_first ledger e more b is
