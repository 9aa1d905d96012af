use Rattle.std.proofs.Common.{◌≤◌}
use Rattle.gl_ledger.specs.NodeKeys.{NodeKeys, service_layers}
use Rattle.gl_ledger.specs.LedgerBook.{ledger_book}
use Rattle.gl_store_book.proofs.Batches.{Fit}
use Rattle.gl_store_book.proofs.batch.fitting_len.Given as goal

-- those so far fit
abbrev pub invariant-loop-count : goal.invariant-loop-count
invariant-loop-count l = record {
  few : l.count ≤ l.most;
  fit : (keys : NodeKeys) → Fit (ledger_book service_layers keys) l.entries l.most l.room l.count l.left;
}
