use Rattle.std.proofs.Common.{rules}
use Rattle.gl_turn.proofs.Counts.{hands_after}
use Rattle.gl_turn.proofs.shared.Shared.give.Goals as goal

pub fetch_add-requires : goal.fetch_add-requires
fetch_add-requires g c =
    let key = c.args.self.now.table.shared.key in
    let has = c.requires.turn in (
      search rules,
      search rules,
      hands_after g.S.Stands.stands key.first key.start.value _ _ c.args.pass.now.me c.count.new.pass.me c.exchange.new.seat.me has.0 c.args.made.now c.args.state c.count.ensures.seen c.exchange.ensures.3 has.1 has.2 c.requires.stands,
    )
