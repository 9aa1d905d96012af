use Rattle.std.proofs.Common.{◌≡◌, ◌++◌}
use Rattle.gl_ledger.specs.NodeKeys.{service_layers}
use Rattle.gl_ledger.specs.Audit.{fault_from}
use Rattle.gl_store.proofs.store.Store.apply_all.Given as goal

-- the entries that are left follow as all did
abbrev pub invariant-loop-entry : goal.invariant-loop-entry
invariant-loop-entry l = record {
  grown : l.self.ledger ++ l.entry-iterator.rest.items ≡ l.fn.self.ledger ++ l.fn.entries.items;
  commit : l.self.commit ≡ l.fn.self.commit;
  fault : fault_from service_layers l.self.ledger l.entry-iterator.rest.items ≡ fault_from service_layers l.fn.self.ledger l.fn.entries.items;
}
