use Rattle.std.proofs.Common.{sym, arith, append_assoc, append-nil}
use Rattle.gl_merkle.proofs.TreeLemmas.{path_of-one, path_of-left, path_of-right}
use Rattle.gl_merkle.proofs.tree.+push_path.Goals as goal

pub returns-then-leaves-eq1 : goal.returns-then-leaves-eq1
returns-then-leaves-eq1 t c = rw (path_of-one c.args.leaves.now c.args.index (omega arith)) (sym (append-nil _))

pub returns-in_ok-push : goal.returns-in_ok-push
returns-in_ok-push t c =
    let w = c.split_of.ensures.power in
    let whole = path_of-left w.0 _ c.args.leaves.now c.args.index w.1 c.split_of.ensures.below c.split_of.ensures.greatest (omega arith) in
    rw (whole, c.in_ok-push.ensures.items, c.in_ok-push_path.ensures, c.root.ensures, c.split_at.ensures.front, c.split_at.ensures.back, append_assoc)

pub returns-in_ok-push-2 : goal.returns-in_ok-push-2
returns-in_ok-push-2 t c =
    let w = c.split_of.ensures.power in
    let whole = path_of-right w.0 _ c.args.leaves.now c.args.index w.1 c.split_of.ensures.below c.split_of.ensures.greatest (omega arith) in
    rw (whole, c.in_ok-push-2.ensures.items, c.in_ok-push_path-2.ensures, c.root-else-index-left.ensures, c.split_at.ensures.front_len, c.split_at.ensures.front, c.split_at.ensures.back, append_assoc)
