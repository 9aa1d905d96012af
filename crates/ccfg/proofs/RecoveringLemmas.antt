-- What is owed where a service is recovered.
use Rattle.std.proofs.Common.{◌≡◌, ◌≢◌, ℕ, List, Option, Bool, true, false, Result, Ok, Err, IfOk, sym, ap, ◌∙◌}
use Rattle.gl_journal.specs.Durable.{Durable}
use Rattle.gl_entry.specs.SourceBytes.{OfBytes}
use Rattle.gl_recovery.specs.RecoveryOutput.{expected_recover, is_of_outside, is_source_read}
use Rattle.gl_recovery.specs.declared.recovering_fault.RecoveringFault.{RecoveringFault}
use Rattle.gl_recovery.specs.declared.recovering_fault.RecoveringFault.TheVariants.{DiskFailed}
use Rattle.ccfg.specs.declared.plan.Plan.{Plan}
use Rattle.ccfg.specs.declared.plan.PlanError.{PlanError}
use Rattle.ccfg.specs.ExpectedOutput.{EndsSource, output_of_answer, output_of_old, output_of_recovered}
use Rattle.ccfg.specs.Plans.{PrintsFault, output_of_plan}
use Rattle.ccfg.proofs.ShownLemmas.{ok_map, of_map}

-- a ledger that is reported
pub old_printed : (state : Durable) (printed : List ℕ) (given : Option (List ℕ)) → OfBytes given (λ g. expected_recover state g ≡ Ok printed) → OfBytes given (λ g. output_of_old state g ≡ output_of_answer printed)
old_printed state printed given is =
    of_map given (λ g. expected_recover state g ≡ Ok printed) (λ g. output_of_old state g ≡ output_of_answer printed) (λ g e. ap output_of_recovered e) is

-- a fault that is reported
pub old_refused : (state : Durable) (fault : RecoveringFault) (given : Option (List ℕ)) (r : Result Plan PlanError) → (is_of_outside fault ≡ false → OfBytes given (λ g. expected_recover state g ≡ Err fault)) →
    IfOk r (λ plan. output_of_recovered (Err fault) ≡ output_of_plan plan) → IfOk r (λ plan. PrintsFault plan × (is_of_outside fault ≡ false)) → IfOk r (λ plan. OfBytes given (λ g. output_of_old state g ≡ output_of_plan plan))
old_refused state fault given (Ok plan) is output printed =
    of_map given (λ g. expected_recover state g ≡ Err fault) (λ g. output_of_old state g ≡ output_of_plan plan) (λ g e. ap output_of_recovered e ∙ output) (is printed.1)
old_refused state fault given (Err stop) is output printed = tt

-- no fault that is reported is one of the disk
pub not_of_disk : (fault : RecoveringFault) → is_of_outside fault ≡ false → fault ≢ DiskFailed
not_of_disk fault is same = let out = ap is_of_outside same in cc

pub old_untouched : {D : Type 0} (fault : RecoveringFault) (r : Result Plan PlanError) (old new : D) → (fault ≢ DiskFailed → new ≡ old) → IfOk r (λ plan. PrintsFault plan × (is_of_outside fault ≡ false)) → IfOk r (λ plan. PrintsFault plan → new ≡ old)
old_untouched {D = D} fault r old new untouched printed =
    ok_map r (λ plan. PrintsFault plan × (is_of_outside fault ≡ false)) (λ plan. PrintsFault plan → new ≡ old) (λ plan t fault_printed. untouched (not_of_disk fault t.1)) printed

-- and the source was read as far as it has to be
pub old_ended : (fault : RecoveringFault) (r : Result Plan PlanError) (ended : Bool) → (is_source_read fault ≡ true → ended ≡ true) → IfOk r (λ plan. (output_of_plan plan).whole ≡ is_source_read fault) → IfOk r (λ plan. EndsSource (output_of_plan plan) ended)
old_ended fault r ended read whole =
    ok_map r (λ plan. (output_of_plan plan).whole ≡ is_source_read fault) (λ plan. EndsSource (output_of_plan plan) ended) (λ plan is all. read (sym is ∙ all)) whole
