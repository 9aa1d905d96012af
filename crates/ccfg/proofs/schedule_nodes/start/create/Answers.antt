use Rattle.std.proofs.Common.{◌≡◌, ⊎_elim, ℕ, length, refl, ap, arith}
use Rattle.gl_journal.specs.declared.fault.JournalFault.TheVariants as faults
use Rattle.ccfg.proofs.FileNodes.{as_fault, as_other, never_rose}
use Rattle.ccfg.proofs.schedule_nodes.start.create.Goals as goal

pub only_memory-requires : goal.only_memory-requires
only_memory-requires c = λ fault is.
    let e = as_fault _ _ _ fault c.in-Err.is is in
    ⊎_elim
    (λ (disk : fault ≡ faults.DiskFault). never_rose (c.create.ensures.disk_fault _ (as_other _ _ _ _ e disk)))
    (λ (q : (len : ℕ) × (fault ≡ faults.NotEmpty len)).
    let wrong = c.create.ensures.not_empty refl q.0 _ (as_other _ _ _ _ e q.1) in
    let none = ap length c.new.ensures.bytes in
    absurd (omega (arith, wrong.0, wrong.1, none)))
    (c.create.ensures.only fault _ e)
