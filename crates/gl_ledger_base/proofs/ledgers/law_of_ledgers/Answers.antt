use Rattle.gl_ledger_base.proofs.LedgersHeld.{held_base, held_entry, held_length, held_requests, held_root, held_snapshot, held_tables, held_view}
use Rattle.gl_ledger_base.proofs.ledgers.law_of_ledgers.Goals as goal

pub returns : goal.returns
returns c = record {
  base = held_base;
  length = held_length;
  entries = held_entry;
  views = held_view;
  tables = held_tables;
  root = held_root;
  requests = held_requests;
  snapshot = held_snapshot;
}
