-- Parts are read one after the other.
use Rattle.std.proofs.Common.{Result, refl}
use Rattle.gl_base.specs.Cut.{Unread}
use Rattle.gl_base.specs.declared.fault.CodeFault.{CodeFault}
use Rattle.gl_base.proofs.Repeated.{Repeats}
use Rattle.gl_requests.specs.Parsing.{repeated_at}

pub repeats : {X : Type 0} → (one : Unread → Result (X × Unread) CodeFault) → Repeats one (repeated_at one)
unfolding repeated_at
repeats one = record { none = λ unread. refl; more = λ n unread. refl }
