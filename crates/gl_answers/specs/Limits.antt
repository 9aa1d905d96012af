-- What a store gives to requests keeps the limit of answers.
use Rattle.std.specs.Prelude.{◌≤◌, length}
use Rattle.gl_base.specs.Bytes.{mebibyte}
use Rattle.gl_ledger.specs.declared.response.Response.{Response}
use Rattle.gl_ledger.specs.declared.response.Response.TheVariants.{Replied, Governed}
use Rattle.gl_tx.specs.Request.{reply_bytes}

-- A reply has 1 MiB at most.
abbrev pub FitsGiven : Response → Type 0
FitsGiven (Replied answers) = length (reply_bytes answers) ≤ mebibyte
FitsGiven (Governed status) = Unit {0}
