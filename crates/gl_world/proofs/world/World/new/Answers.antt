use Rattle.gl_world.proofs.Histories.{at_first}
use Rattle.gl_world.proofs.world.World.new.Goals as goal

pub invariant_of-result : goal.invariant_of-result
invariant_of-result g c =
    at_first g.N.WorldNode.stands c.in_ok-nodes.nodes c.args.settings c.new.result.items c.new.ensures c.in_ok-nodes.ensures
