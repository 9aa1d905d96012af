use Rattle.std.proofs.Common.{◌≡◌, ◌≤◌, ◌-◌, length}
use Rattle.gl_rules.specs.Replication.{greatest_evidence}
use Rattle.gl_ledger.specs.NodeKeys.{NodeKeys, service_layers}
use Rattle.gl_ledger.specs.LedgerBook.{ledger_book}
use Rattle.gl_store_book.proofs.evidence.last_evidence.Given as goal

-- no evidence stands above it
abbrev pub invariant-loop-place : goal.invariant-loop-place
invariant-loop-place l = record {
  within : l.place ≤ length l.entries;
  none : (keys : NodeKeys) → greatest_evidence (ledger_book service_layers keys) l.entries 0 l.place ≡ greatest_evidence (ledger_book service_layers keys) l.entries 0 (l.upto - l.base);
}

abbrev pub decreases-loop-place : goal.decreases-loop-place
decreases-loop-place l = l.place
