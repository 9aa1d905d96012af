-- How a journal's file ends an event.
use Rattle.std.proofs.Common.{◌≡◌, ℕ, Bool, List, Result, Ok, Err, OnOk, OnErr, IsTrue, refl, subst, ◌∙◌}
use Rattle.gl_outside.specs.Disk.{Step}
use Rattle.gl_outside.specs.Fault.{Counts, Rose}
use Rattle.gl_journal.specs.Kept.{IsKept}
use Rattle.gl_journal.specs.declared.journal.Journal.{Journal}
use Rattle.gl_node.specs.Comes.{IsSettled, IsUntouched}

pub of_ok : {T E A : Type 0} (result : Result T E) (value : T) → result ≡ Ok value → OnOk result A → A
of_ok {A = A} result value is here = let P : Result _ _ → Type 0 = λ r. OnOk r A in subst P is here

pub of_err : {T E A : Type 0} (result : Result T E) (e : E) → result ≡ Err e → OnErr result A → A
of_err {A = A} result e is here = let P : Result _ _ → Type 0 = λ r. OnErr r A in subst P is here

module _ {D : Type 0} (honest : Bool) (bytes : D → List ℕ) (past : D → List Step) (faults : D → ℕ) where
  -- a journal whose file is as it was
  pub record SameFile (j j' : Journal D) : Type 0 where
    pub settles : IsTrue honest → IsKept bytes past j → IsKept bytes past j'
    pub reads : IsTrue honest → bytes j'.gated.disk ≡ bytes j.gated.disk
    pub stops : IsTrue honest → past j'.gated.disk ≡ past j.gated.disk
    pub counted : faults j'.gated.disk ≡ faults j.gated.disk

  pub untouched : (j : Journal D) → SameFile j j
  untouched j = record { settles = λ h k. k; reads = λ h. refl; stops = λ h. refl; counted = refl }

  -- where nothing is put into it
  pub ends_same : {j j' : Journal D} → SameFile j j' → (IsTrue honest → IsKept bytes past j) → IsSettled honest bytes past faults j j'
  ends_same same kept = record { kept = λ h. same.settles h (kept h); quiet = same.counted }

  pub ends_untouched : {j j' : Journal D} → SameFile j j' → (IsTrue honest → IsKept bytes past j) → IsUntouched honest bytes past faults j j'
  ends_untouched same kept = record { settled = ends_same same kept; same = λ h. (same.reads h, same.stops h) }

  -- where a batch is put into it, or the disk fails
  module _ {T E : Type 0} {j mid : Journal D} (j' : Journal D) (same : SameFile j mid) (result : Result T E) (counts : Counts (faults mid.gated.disk) (faults j'.gated.disk) result) where
    pub ends_settled : (IsTrue honest → OnOk result (IsKept bytes past j')) → (value : T) → result ≡ Ok value → IsSettled honest bytes past faults j j'
    ends_settled settles value ok = record { kept = λ h. of_ok result value ok (settles h); quiet = of_ok result value ok counts.quiet ∙ same.counted }

    pub ends_broken : (e : E) → result ≡ Err e → Rose (faults j.gated.disk) (faults j'.gated.disk)
    ends_broken e err = subst (λ (k : ℕ). Rose k (faults j'.gated.disk)) same.counted (of_err result e err counts.failed)
