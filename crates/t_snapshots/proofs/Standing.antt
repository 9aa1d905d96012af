-- A core that stands for a node stands for one after each step.
use Rattle.std.proofs.Common.{Result, Ok, Err, IfOk, OnErr}
use Rattle.gl_entry.specs.declared.entry.Entry.{Entry}
use Rattle.gl_node.specs.Persistence.{StandsForSome}
use Rattle.gl_replication.specs.Holding.{Holding}
use Rattle.gl_replication.specs.Stands.{KeepsAll, Steps}
use Rattle.gl_replication.specs.declared.done.Done.{Done}
use Rattle.gl_replication.specs.declared.node.Core.{Core}
use Rattle.gl_rules.specs.Book.{Book}
use Rattle.gl_rules.specs.Identity.{NodeId}
use Rattle.gl_rules.specs.Node.{Node}
use Rattle.gl_rules.specs.Outcome.{Step}

pub some_after : {S Q G R A F W : Type 0} (stands : S → Book Entry Q G R A F → Holding Entry → Type 0) (rule : Book Entry Q G R A F → NodeId → Node Entry → Step Entry A F)
    (old new : Core S Q G R A F) (r : Result (Done S Q G R A F) W) → StandsForSome stands old →
    IfOk r (λ done. Steps stands rule old done new) → OnErr r (KeepsAll stands old new) → StandsForSome stands new
some_after stands rule old new (Ok done) some steps err = record {
  rules = some.rules;
  me = some.me;
  node = (rule some.rules some.me some.node).node;
  standing = (steps some.rules some.me some.node some.standing).node;
}
some_after stands rule old new (Err why) some steps err = record {
  rules = some.rules;
  me = some.me;
  node = some.node;
  standing = err some.rules some.me some.node some.standing;
}
