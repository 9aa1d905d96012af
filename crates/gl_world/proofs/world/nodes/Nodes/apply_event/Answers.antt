use Rattle.std.proofs.Common.{IfOk, subst, sym}
use Rattle.gl_world.specs.declared.event.Event.{Event}
use Rattle.gl_world.specs.Running.{Moves}
use Rattle.gl_world.proofs.world.nodes.Nodes.apply_event.Goals as goal

pub returns-in-Install-clause-moved : goal.returns-in-Install-clause-moved
returns-in-Install-clause-moved g c =
    subst (λ (event : Event). IfOk c.install.result (λ outcome. Moves g.N.WorldNode.stands event c.args.self.now outcome c.install.new.self)) (sym c.in-Install.is) c.install.ensures.moved
