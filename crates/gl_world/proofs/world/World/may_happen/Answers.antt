use Rattle.std.proofs.Common.{rules, ◌≡◌, ◌∙◌}
use Rattle.gl_world.specs.Held.{Held}
use Rattle.gl_world.proofs.Histories.{may_here}
use Rattle.gl_world.proofs.world.World.may_happen.Goals as goal

pub returns : goal.returns
returns g c =
    let h : Held = record { settings = c.self.inside.settings; events = c.self.inside.history.items } in
    let is : c.args.self.now ≡ h = search rules in
    c.may_happen.ensures ∙ may_here g.N.WorldNode.stands h c.args.self.now c.args.event.now is c.self.invariant
