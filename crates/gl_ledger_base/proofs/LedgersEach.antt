-- An audit that counts the entries up to a base as signatures finds no fault exactly where each entry
-- breaks no rule after those before it.
use Rattle.std.proofs.Common.{◌≡◌, ℕ, ◌+◌, List, [], ◌∷◌, ◌++◌, length, min, Option, None, refl}
use Rattle.gl_entry.specs.declared.entry.Entry.{Entry}
use Rattle.gl_ledger.specs.Broken.{broken_from}
use Rattle.gl_ledger.specs.Layers.{Layers}
use Rattle.gl_ledger.specs.declared.breach.Broken.{Broken}
use Rattle.gl_ledger.proofs.EachPassing.{EachPasses, each_passes, all_pass}
use Rattle.gl_ledger_base.specs.Ledgers.{fault_counting, audited_from}

module _ (layers : Layers) (base : ℕ) where
  -- what an entry breaks where those up to the base count as signatures
  abbrev pub broken_counting : List Entry → Entry → Option Broken
  broken_counting before e = broken_from layers (min base (length before)) before e

  pub each_from : (ledger : List Entry) → audited_from layers base ledger ≡ None → EachPasses broken_counting [] ledger
  each_from ledger h = each_passes broken_counting (λ before. length before + 1) (fault_counting layers base) (λ before. refl) (λ before es e. refl) [] ledger h

  pub all_from : (ledger : List Entry) → EachPasses broken_counting [] ledger → audited_from layers base ledger ≡ None
  all_from ledger each = all_pass broken_counting (λ before. length before + 1) (fault_counting layers base) (λ before. refl) (λ before es e. refl) [] ledger each
