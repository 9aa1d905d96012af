use Rattle.std.proofs.Common.{rules, ap, ◌∙◌}
use Rattle.gl_turn.proofs.Draws.{draws}
use Rattle.gl_turn.proofs.shared.Shared.draw.Goals as goal

pub compare_exchange-found-requires : goal.compare_exchange-found-requires
compare_exchange-found-requires g c =
    let key = c.args.self.now.table.shared.key in (
      search rules,
      search rules,
      draws g.S.Stands.stands key.first key.start.value _ _ _ _ (ap (λ m. m.0.stage) c.loop.invariant.1 ∙ c.requires.idle.0) (search rules),
    )
