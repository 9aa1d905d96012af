-- What holds where a call failed.
use Rattle.std.proofs.Common.{Result, Ok, Err, OnErr}

pub on_err_too : {T E P Q : Type 0} (result : Result T E) → (P → Q) → OnErr result P → OnErr result Q
on_err_too (Ok x) then failed = tt
on_err_too (Err e) then failed = then failed
