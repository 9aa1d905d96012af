use Rattle.std.proofs.Common.{refl, arith}
use Rattle.gl_ledger.specs.LedgerBook.{ledger_book}
use Rattle.gl_ledger.specs.NodeKeys.{NodeKeys, service_layers}
use Rattle.t_snapshots.proofs.joiner.joiner.Goals as goal

pub returns-in-Ok : goal.returns-in-Ok
returns-in-Ok c =
    let keys : NodeKeys = record { key_of = λ x. c.in_ok-key.key } in
    record {
      rules = ledger_book service_layers keys;
      me = _;
      node = _;
      standing = c.joiner.ensures (ledger_book service_layers keys) _ (c.in-Ok.ensures.stands keys refl) refl refl (omega arith);
    }
