use Rattle.std.proofs.Common.{rules, ◌≡◌, ◌-◌, refl, ap, ◌∙◌}
use Rattle.std.proofs.lemmas.Option.{slice_get_read}
use Rattle.gl_rules.specs.Retirement.{stage_at}
use Rattle.gl_world.specs.Founding.{id_of}
use Rattle.gl_world.specs.Group.{book_of}
use Rattle.gl_world.specs.Held.{Held, node_now}
use Rattle.gl_world.proofs.Histories.{core_here, stands_here}
use Rattle.gl_world.proofs.world.World.stage.Goals as goal

pub index-requires : goal.index-requires
index-requires g c =
    let h : Held = record { settings = c.self.inside.settings; events = c.self.inside.history.items } in
    let is : c.args.self.now ≡ h = search rules in
    let low = (core_here g.N.WorldNode.stands h c.args.self.now c.args.node is c.self.invariant c.requires.here).0 in
    search (rules, low)

pub returns : goal.returns
returns g c =
    let h : Held = record { settings = c.self.inside.settings; events = c.self.inside.history.items } in
    let is : c.args.self.now ≡ h = search rules in
    let low = (core_here g.N.WorldNode.stands h c.args.self.now c.args.node is c.self.invariant c.requires.here).0 in
    let core_at = slice_get_read _ _ (c.args.node - 1) c.index.result.now refl low (search rules) in
    let old = c.args.self.now in
    c.stage.ensures (book_of old.settings) (id_of old.settings c.args.node) (node_now old c.args.node) (c.core.ensures (book_of old.settings) (id_of old.settings c.args.node) (node_now old c.args.node) (stands_here g.N.WorldNode.stands h old c.args.node c.index.result.now is c.self.invariant c.requires.here core_at))
    ∙ ap (stage_at (book_of old.settings) (node_now old c.args.node)) c.id-id.ensures
