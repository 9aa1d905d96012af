-- Why a leaf that the key has is not kept.
use Rattle.std.proofs.Common.{◌≡◌, ◌⊎◌, inl, inr, ℕ, Result, Ok, Err, refl, ap}
use Rattle.gl_base.specs.declared.or_no_memory.OrNoMemory.{OrNoMemory}
use Rattle.gl_base.specs.declared.or_no_memory.OrNoMemory.TheVariants.{NoMemory, Fault}
use Rattle.gl_journal.specs.declared.fault.JournalFault.TheVariants.{DiskFault}
use Rattle.gl_keyfile.specs.declared.fault.KeyFileFault.{KeyFileFault}
use Rattle.gl_keyfile.specs.declared.fault.KeyFileFault.TheVariants.{Journal, KeyExhausted}
use Rattle.gl_consortium.specs.Faults.{IsOfKeeping, IsReportedAs}
use Rattle.gl_consortium.specs.declared.fault.SigningFault.{SigningFault}
use Rattle.gl_consortium.specs.declared.fault.SigningFault.TheVariants.{DiskFailed}

-- the error of a file that has a leaf left
pub of_keeping : {D : Type 0} (error : OrNoMemory KeyFileFault) (disk : D) (reserved : ℕ) →
    ((fault : KeyFileFault) (back : D) → ◌≡◌ {A = OrNoMemory KeyFileFault × D} (error, disk) (Fault fault, back) → (fault ≡ Journal DiskFault) ⊎ (fault ≡ KeyExhausted reserved)) →
    ((back : D) → ◌≡◌ {A = OrNoMemory KeyFileFault × D} (error, disk) (Fault (KeyExhausted reserved), back) → ⊥) → IsOfKeeping error
of_keeping NoMemory disk reserved only left = tt
of_keeping {D = D} (Fault fault) disk reserved only left =
    elim (only fault disk refl) [
      | inl failed ↦ failed
      | inr spent ↦ absurd (left disk (ap (λ (f : KeyFileFault). let p : OrNoMemory KeyFileFault × D = (Fault f, disk) in p) spent))
    ]

-- the disk failed where that is reported
pub failed_so : (error : OrNoMemory KeyFileFault) (reported : OrNoMemory SigningFault) → IsOfKeeping error → IsReportedAs error reported → reported ≡ Fault DiskFailed → error ≡ Fault (Journal DiskFault)
failed_so NoMemory reported keeping is same = absurd cc
failed_so (Fault fault) reported keeping is same = ap Fault keeping
