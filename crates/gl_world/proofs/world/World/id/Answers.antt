use Rattle.std.proofs.Common.{rules, ◌≡◌, ◌-◌, refl}
use Rattle.std.proofs.lemmas.Option.{slice_get_read}
use Rattle.gl_world.specs.Held.{Held}
use Rattle.gl_world.proofs.Histories.{core_here, id_here}
use Rattle.gl_world.proofs.world.World.id.Goals as goal

pub returns : goal.returns
returns g c =
    let h : Held = record { settings = c.self.inside.settings; events = c.self.inside.history.items } in
    let is : c.args.self.now ≡ h = search rules in
    let low = (core_here g.N.WorldNode.stands h c.args.self.now c.args.node is c.self.invariant c.requires.here).1 in
    id_here g.N.WorldNode.stands h c.args.self.now c.args.node _ is c.self.invariant c.requires.here (slice_get_read _ _ (c.args.node - 1) _ refl low (search rules))
