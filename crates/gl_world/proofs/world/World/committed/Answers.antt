use Rattle.std.proofs.Common.{rules, ◌≡◌, ap, sym, ◌∙◌}
use Rattle.std.proofs.lemmas.Result.{IfOk-weaker}
use Rattle.gl_rules.specs.Safety.{committed_ledger}
use Rattle.gl_world.specs.Held.{Held, node_now, world_now}
use Rattle.gl_world.proofs.Histories.{named_here}
use Rattle.gl_world.proofs.world.World.committed.Goals as goal

pub committed-requires : goal.committed-requires
committed-requires g c =
    let h : Held = record { settings = c.self.inside.settings; events = c.self.inside.history.items } in
    record { running = record { settings = h.settings; world = world_now h; running = c.self.invariant }; here = named_here g.N.WorldNode.stands h c.args.self.now c.args.node (search rules) c.self.invariant c.requires.here }

pub returns : goal.returns
returns g c =
    let h : Held = record { settings = c.self.inside.settings; events = c.self.inside.history.items } in
    let is : c.args.self.now ≡ h = search rules in
    IfOk-weaker c.committed.result _ _ (λ all f. f h.settings (world_now h) c.self.invariant ∙ ap (λ (m : Held). committed_ledger (node_now m c.args.node)) (sym is)) c.committed.ensures
