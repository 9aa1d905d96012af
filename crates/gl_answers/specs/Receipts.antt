-- A service's ledger as receipts see it.
use Rattle.std.specs.Prelude.{ℕ, List, take}
use Rattle.gl_entry.specs.declared.entry.Entry.{Entry}
use Rattle.gl_ledger.specs.ServiceRow.{identity_in}
use Rattle.gl_ledger.specs.Tree.{leaves_of, tables_of}
use Rattle.gl_receipt.specs.Made.{Ledger}

-- The ledger with its leaves and the service's keys, committed up to a seqno: of the entries up to
-- the base the views alone are still known.
abbrev pub receipts_of : ℕ → List Entry → ℕ → Ledger
receipts_of base ledger commit = record {
  base = base;
  entries = ledger;
  leaves = leaves_of ledger;
  commit = commit;
  identity = λ seqno. identity_in (tables_of (take seqno ledger));
}
