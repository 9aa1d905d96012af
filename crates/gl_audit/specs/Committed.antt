-- A ledger and its commit, as a store holds them.
use Rattle.std.specs.Prelude.{ℕ, List, take}
use Rattle.gl_entry.specs.declared.entry.Entry.{Entry}
use Rattle.gl_ledger.specs.ServiceRow.{identity_in}
use Rattle.gl_ledger.specs.Tree.{tables_of, leaves_of}
use Rattle.gl_receipt.specs.Made.{Ledger}

-- What a store holds: its ledger, and up to which seqno it is committed.
pub record Held : Type 0 where
  pub ledger : List Entry
  pub commit : ℕ

-- What a store holds, as receipts see it.
abbrev pub receipts_of : Held → Ledger
receipts_of held = record {
  base = 0;
  entries = held.ledger;
  leaves = leaves_of held.ledger;
  commit = held.commit;
  identity = λ seqno. identity_in (tables_of (take seqno held.ledger));
}
