-- The book of a service whose ledger takes no entry, for tests. There are no configurations, and
-- each key has 32 leaves.
use Rattle.std.specs.Prelude.{[], None, Some, Err}
use Rattle.gl_entry.specs.Entry.{frame_size, is_evidence, is_signature, recorded_commit}
use Rattle.gl_entry.specs.declared.entry.Entry.{Entry}
use Rattle.gl_rules.specs.Identity.{NodeId}
use Rattle.gl_ledger.specs.LedgerBook.{ServiceBook}
use Rattle.gl_ledger.specs.declared.response.Rejection.TheVariants.{NoEntry, NotAfterSignature}
use Rattle.gl_replication.specs.Holding.{Holding}

abbrev pub empty_book : ServiceBook
empty_book = record {
  view_of = λ e. e.view;
  is_signature = λ e. is_signature e.content;
  is_evidence = λ e. is_evidence e.content;
  recorded_commit = λ e. recorded_commit e.content;
  frame_size = frame_size;
  configuration = λ log. None;
  recorded_nodes = λ log. [];
  removal = λ log y. None;
  mark = λ log y. None;
  leaves = λ y. 32;
  execute = λ log view q. Err NoEntry;
  govern = λ log view g. Err NoEntry;
  sign = λ x leaf log view commit. Err NoEntry;
  evidence = λ log view. Err NotAfterSignature;
  marked_node = λ g. None;
  mark_refusal = λ log y. None;
  conflict = λ base log len reads. None;
  breaks = λ base log e. Some NoEntry;
}

-- What a store without an entry holds for a node.
abbrev pub empty_holding : NodeId → Holding Entry
empty_holding me = record { me = me; base = 0; log = [] }
