-- What calls answer that may run out of memory, and the readings that they answer.
use Rattle.std.specs.Prelude.{◌≡◌, Result, Ok, Err}
use Rattle.gl_base.specs.declared.or_no_memory.OrNoMemory.{OrNoMemory}
use Rattle.gl_base.specs.declared.or_no_memory.OrNoMemory.TheVariants.{NoMemory, Fault}

-- Memory ran out, which may come at any time, or this is the fault that the reading gives.
abbrev pub Fails : {Y F : Type 0} → OrNoMemory F → Result Y F → Type 0
Fails NoMemory reading = Unit {0}
Fails (Fault fault) reading = reading ≡ Err fault

-- The call answers what this reading gives, or memory ran out. `view` turns what the call gives
-- into what the reading gives: for a call that leaves a rest, it adds the rest.
abbrev pub Answers : {X Y F : Type 0} → (X → Y) → Result X (OrNoMemory F) → Result Y F → Type 0
Answers view (Ok x) reading = reading ≡ Ok (view x)
Answers view (Err e) reading = Fails e reading

-- It is a fault of which this holds.
abbrev pub IsFault : {F : Type 0} → OrNoMemory F → (F → Type 0) → Type 0
IsFault {F} e P = (fault : F) × (P fault) × (e ≡ Fault fault)

-- The second is the first as a fault of a wider kind, given by a conversion.
abbrev pub Widens : {F G : Type 0} → (F → G → Type 0) → OrNoMemory F → OrNoMemory G → Type 0
Widens gives NoMemory wider = wider ≡ NoMemory
Widens gives (Fault fault) wider = IsFault wider (gives fault)
