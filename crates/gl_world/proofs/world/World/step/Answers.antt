use Rattle.gl_world.specs.Held.{seen_events}
use Rattle.gl_world.proofs.Groups.{group_retires, group_safe}
use Rattle.gl_world.proofs.world.World.step.Goals as goal

pub returns-clause-headline : goal.returns-clause-headline
returns-clause-headline g c =
    group_safe c.settle.new.self.settings c.settle.ensures.group (seen_events c.settle.new.self)

pub returns-clause-retirement : goal.returns-clause-retirement
returns-clause-retirement g c =
    group_retires c.settle.new.self.settings c.settle.ensures.group (seen_events c.settle.new.self)
