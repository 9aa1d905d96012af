use Rattle.std.proofs.Common.{rules, ◌≡◌, ◌-◌, refl}
use Rattle.std.proofs.lemmas.Option.{slice_get_read}
use Rattle.gl_world.specs.Held.{Held}
use Rattle.gl_world.proofs.Histories.{core_here, stands_here}
use Rattle.gl_world.proofs.world.World.committed_entries.Goals as goal

pub index-requires : goal.index-requires
index-requires g c =
    let h : Held = record { settings = c.self.inside.settings; events = c.self.inside.history.items } in
    let is : c.args.self.now ≡ h = search rules in
    let low = (core_here g.N.WorldNode.stands h c.args.self.now c.args.node is c.self.invariant c.requires.here).0 in
    search (rules, low)

pub returns : goal.returns
returns g c =
    let h : Held = record { settings = c.self.inside.settings; events = c.self.inside.history.items } in
    let is : c.args.self.now ≡ h = search rules in
    let low = (core_here g.N.WorldNode.stands h c.args.self.now c.args.node is c.self.invariant c.requires.here).0 in
    let core_at = slice_get_read _ _ (c.args.node - 1) c.index.result.now refl low (search rules) in
    c.committed.ensures _ _ _ (c.core.ensures _ _ _ (stands_here g.N.WorldNode.stands h c.args.self.now c.args.node c.index.result.now is c.self.invariant c.requires.here core_at))
