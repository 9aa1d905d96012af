use Rattle.std.proofs.Common.{sym, ◌∙◌, arith}
use Rattle.gl_merkle.specs.Tree.{root_within}
use Rattle.gl_merkle.proofs.TreeLemmas.{root_of-within, root_of-split}
use Rattle.gl_merkle.proofs.tree.+root.Goals as goal

pub returns-then-leaves-eq1 : goal.returns-then-leaves-eq1
unfolding root_within
returns-then-leaves-eq1 t c = sym (root_of-within 0 c.args.leaves.now (omega arith))

pub returns : goal.returns
returns t c =
    let w = c.split_of.ensures.power in
    c.inner.ensures
    ∙ rw (c.root.ensures, c.root-2.ensures, c.split_at.ensures.front, c.split_at.ensures.back)
    (sym (root_of-split w.0 _ c.args.leaves.now w.1 c.split_of.ensures.below c.split_of.ensures.greatest))
