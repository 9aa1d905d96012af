-- What a load tells of its ledger.
use Rattle.std.specs.Prelude.{ℕ, List, Option, None, Some, filter, length, option_map}
use Rattle.std.specs.List.{flat_map}
use Rattle.gl_base.specs.declared.tx_id.TxId.{TxId}
use Rattle.gl_merkle.specs.Tree.{root_of}
use Rattle.gl_vmaps.specs.Tables.{size_of}
use Rattle.gl_entry.specs.Entry.{frame_bytes, is_signature}
use Rattle.gl_entry.specs.Leaf.{id_of}
use Rattle.gl_entry.specs.declared.entry.Entry.{Entry}
use Rattle.gl_ledger.specs.Recordings.{last_entry}
use Rattle.gl_ledger.specs.Tree.{leaves_of, tables_of}
use Rattle.gl_load.specs.Requests.{load_map}
use Rattle.gl_load.specs.declared.report.Report.{Report}

-- The signatures of a ledger.
abbrev pub signatures_in : List Entry → List Entry
signatures_in ledger = filter (λ (e : Entry). is_signature e.content) ledger

-- A ledger as a file: the frames of its entries, one after the other.
abbrev pub file_of : List Entry → List ℕ
file_of ledger = flat_map frame_bytes ledger

-- A transaction, 0.0 where there is none.
abbrev pub id_or_none : Option TxId → TxId
id_or_none None = record { view = 0; seqno = 0 }
id_or_none (Some id) = id

-- How many entries and signatures it has, how many bytes, how many keys of the map that the
-- requests write to, the transaction of its last entry, and the root of the tree over all its
-- leaves.
abbrev pub report_of : List Entry → Report
report_of ledger = record {
  entries = length ledger;
  signatures = length (signatures_in ledger);
  bytes = length (file_of ledger);
  keys = size_of (tables_of ledger) load_map;
  last = id_or_none (option_map id_of (last_entry ledger));
  root = root_of (leaves_of ledger);
}
