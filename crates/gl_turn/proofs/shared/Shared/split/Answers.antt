use Rattle.std.proofs.Common.{rules}
use Rattle.gl_turn.proofs.Passes.{splits}
use Rattle.gl_turn.proofs.shared.Shared.split.Goals as goal

pub split_seat-requires : goal.split_seat-requires
split_seat-requires g c =
    let key = c.args.self.now.table.shared.key in
    (search rules, search rules, splits g.S.Stands.stands key.first key.start.value _ _ c.requires.known)
