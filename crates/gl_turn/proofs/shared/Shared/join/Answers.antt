use Rattle.std.proofs.Common.{rules}
use Rattle.gl_turn.proofs.Passes.{joins, learns}
use Rattle.gl_turn.proofs.shared.Shared.join.Goals as goal

pub join_seat-requires : goal.join_seat-requires
join_seat-requires g c =
    let key = c.args.self.now.table.shared.key in (
      search rules,
      search rules,
      search rules,
      search rules,
      joins g.S.Stands.stands key.first key.start.value _ _ _ _ c.requires.idle.0.0 c.requires.idle.1.0,
    )

pub load-requires : goal.load-requires
load-requires g c =
    let key = c.args.self.now.table.shared.key in
    (search rules, search rules, learns g.S.Stands.stands key.first key.start.value _ _ _)
