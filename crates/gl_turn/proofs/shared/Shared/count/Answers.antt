use Rattle.std.proofs.Common.{rules}
use Rattle.gl_turn.proofs.Counts.{counts}
use Rattle.gl_turn.proofs.shared.Shared.count.Goals as goal

pub fetch_add-requires : goal.fetch_add-requires
fetch_add-requires g c =
    let key = c.args.self.now.table.shared.key in (
      search rules,
      search rules,
      counts g.S.Stands.stands key.first key.start.value _ _ _ _ _ _ c.args.state.now c.requires.turn.1 (search rules) (search rules),
    )
