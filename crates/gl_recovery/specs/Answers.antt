-- What a call answers of the bytes that a source has to give.
use Rattle.std.specs.Prelude.{◌≡◌, ℕ, List, Option, Result, Ok, Err}
use Rattle.gl_base.specs.declared.or_no_memory.OrNoMemory.{OrNoMemory}
use Rattle.gl_base.specs.declared.or_no_memory.OrNoMemory.TheVariants.{NoMemory, Fault}
use Rattle.gl_entry.specs.SourceBytes.{OfBytes}
use Rattle.gl_recovery.specs.declared.fault.RecoveryFault.{RecoveryFault}
use Rattle.gl_recovery.specs.declared.fault.RecoveryFault.TheVariants.{SourceFailed}

-- Memory ran out, or the source failed, or this is the fault that the reading gives.
abbrev pub FailsOn : {Y : Type 0} → Option (List ℕ) → OrNoMemory RecoveryFault →
    (List ℕ → Result Y RecoveryFault) → Type 0
FailsOn given NoMemory reading = Unit {0}
FailsOn given (Fault SourceFailed) reading = Unit {0}
FailsOn given (Fault fault) reading = OfBytes given (λ bytes. reading bytes ≡ Err fault)

-- The call answers what this reading gives of the bytes, or memory ran out, or the source failed.
-- `view` turns what the call gives into what the reading gives.
abbrev pub AnswersOn : {X Y : Type 0} → Option (List ℕ) → (X → Y) →
    Result X (OrNoMemory RecoveryFault) → (List ℕ → Result Y RecoveryFault) → Type 0
AnswersOn given view (Ok x) reading = OfBytes given (λ bytes. reading bytes ≡ Ok (view x))
AnswersOn given view (Err e) reading = FailsOn given e reading
