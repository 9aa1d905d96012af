use Rattle.std.proofs.Common.{◌≡◌, ◌+◌, List, ℕ, ◌++◌, length, drop, sym, subst}
use Rattle.gl_base.proofs.Pieces.{rest_after}
use Rattle.gl_base.proofs.tx_id_text.put.Goals as goal

pub returns-clause-rest : goal.returns-clause-rest
returns-clause-rest c =
    let same = λ (piece : List ℕ). drop (c.args.at + length c.args.piece.now) (c.split_at_mut-room.result.0.now ++ (piece ++ c.split_at_mut-room-2.result.1.now)) ≡ drop (c.args.at + length c.args.piece.now) c.args.out.now in
    subst same (sym c.copy_from_slice.ensures.after)
    (rest_after _ _ _ _ c.split_at_mut-room.result.1.now _ c.split_at_mut-room.ensures.front_len c.split_at_mut-room.ensures.back c.split_at_mut-room-2.ensures.back)
