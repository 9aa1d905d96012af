-- The numbers by which a program reports why an operation failed.
use Rattle.std.specs.Prelude.{ℕ}
use Rattle.gl_tx.specs.declared.abort.Cause.{Cause}
use Rattle.gl_tx.specs.declared.abort.Cause.TheVariants.{NotPublic, Reserved, NotNumber, Overflow, Check, BadKey}

abbrev pub number_of : Cause → ℕ
number_of NotPublic = 1
number_of Reserved = 2
number_of NotNumber = 3
number_of Overflow = 4
number_of Check = 5
number_of BadKey = 6
