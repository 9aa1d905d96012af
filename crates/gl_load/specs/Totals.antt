-- What is counted of a ledger that is audited entry by entry.
use Rattle.std.specs.Prelude.{◌≡◌, ◌≤◌, ◌*◌, ◌^◌, List, length}
use Rattle.gl_entry.specs.declared.entry.Entry.{Entry}
use Rattle.gl_audit.specs.Kept.{IsStateOf}
use Rattle.gl_load.specs.Report.{file_of, signatures_in}
use Rattle.gl_load.specs.declared.totals.Totals.{Totals}

-- It was counted of this ledger, none of whose entries breaks a rule of the audit.
pub record AreTotalsOf (ledger : List Entry) (t : Totals) : Type 0 where
  pub state : IsStateOf ledger t.state
  pub signatures : t.signatures ≡ length (signatures_in ledger)
  pub few : t.signatures ≤ length ledger
  pub bytes : t.bytes ≡ length (file_of ledger)
  pub small : t.bytes ≤ length ledger * 2 ^ 21
