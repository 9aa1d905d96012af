-- What `verify` does with a receipt, under the key of a service.
use Rattle.std.specs.Prelude.{◌≡◌, ℕ, List, Option, Ok}
use Rattle.std.specs.Io.KnownBytes.{Appends}
use Rattle.gl_base.specs.declared.tx_id.TxId.{TxId}
use Rattle.gl_entry.specs.SourceBytes.{OfBytes}
use Rattle.gl_receipt.specs.Form.{receipt_from}
use Rattle.gl_receipt.specs.Receipt.{Accepts}
use Rattle.gl_receipt.specs.declared.components.Receipt.{Receipt}
use Rattle.ccfg.specs.ExpectedOutput.{output_of_receipt, valid_line}
use Rattle.ccfg.specs.Exits.{ExitsBy}
use Rattle.ccfg.specs.Run.{LeavesDisk, Run}
use Rattle.ccfg.specs.declared.ending.Ending.{Ending}
use Rattle.ccfg.specs.declared.ending.Ending.TheVariants.{Done}

-- The bytes are a receipt that is accepted for a transaction under this key, and exactly the line
-- of this transaction was written.
abbrev pub PrintsAccepted : List ℕ → List ℕ → Option (List ℕ) → Option (List ℕ) → Type 0
PrintsAccepted identity given held holds =
    (receipt : Receipt) × (receipt_from given ≡ Ok receipt)
    × (id : TxId) × Accepts identity receipt id × Appends held holds (valid_line id)

pub record VerifyDoes {S D : Type 0} (identity : List ℕ) (r : Run S D) (e : Ending) : Type 0 where
  -- It ends, and writes, by the limit, the form and the verdict of the bytes.
  pub exact : ExitsBy r e (output_of_receipt identity)
  -- What is valid is accepted.
  pub accepted : e ≡ Done →
      OfBytes r.source.given (λ given. PrintsAccepted identity given r.sink.held r.sink.holds)
  pub disk : LeavesDisk r.disk e
