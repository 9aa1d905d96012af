use Rattle.std.proofs.Common.{◌≡◌, map}
use Rattle.gl_world.specs.Founding.{id_of, numbers_from}
use Rattle.gl_world.proofs.Starting.{AreEmpty}
use Rattle.gl_world.proofs.world.nodes.Nodes.start.Given as goal

-- the identifiers of the nodes so far, and a list without entries for each
abbrev pub invariant-loop-node : goal.invariant-loop-node
invariant-loop-node g l = (l.ids.items ≡ map (id_of l.settings) (numbers_from 1 l.node-index)) × AreEmpty l.node-index l.below.items
