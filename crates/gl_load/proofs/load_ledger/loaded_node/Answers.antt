use Rattle.std.proofs.Common.{arith}
use Rattle.gl_load.proofs.NodeEvents.{none_after}
use Rattle.gl_load.proofs.load_ledger.loaded_node.Goals as goal

pub loop-done-init : goal.loop-done-init
loop-done-init g c =
    (none_after g.B.Book.stands c.args.seed.now c.args.count c.in_ok-node.node c.from_seed-words.result c.in_ok-node.ensures c.from_seed-words.ensures, omega arith)
