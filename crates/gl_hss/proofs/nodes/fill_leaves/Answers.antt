use Rattle.std.proofs.Common.{◌≡◌, ◌+◌, ◌-◌, ◌^◌, sym, ap, ◌∙◌, arith}
use Rattle.gl_hss.specs.Types.{height}
use Rattle.gl_hss.specs.Tree.{leaf_node}
use Rattle.gl_hss.specs.Secrets.{node, key_of_leaf}
use Rattle.gl_hss.specs.Source.{private_of}
use Rattle.gl_hss.proofs.Trees.{node-leaf, filled_more}
use Rattle.gl_hss.proofs.nodes.fill_leaves.Goals as goal

pub loop-q-preserved : goal.loop-q-preserved
loop-q-preserved c = λ r above below.
    let k = private_of c.args.source.now in
    let leaves = 2 ^ height k.types in
    let count : c.leaf_count-count.result ≡ leaves = c.leaf_count-count.ensures.value in
    let at = c.leaf_count-count.result + c.loop-q.q in
    let offset : at - leaves ≡ c.loop-q.q = omega arith in
    let value : c.leaf_node.result ≡ node k at =
    c.leaf_node.ensures ∙ ap (leaf_node k.identifier at) (c.key_of_leaf-key.ensures ∙ ap (key_of_leaf k) (sym offset)) ∙ sym (node-leaf k at (omega arith)) in
    filled_more (node k) c.loop-q.nodes leaves at c.leaf_node.result (omega arith) value (λ n lo hi. c.loop-q.invariant n lo (omega arith)) r above (omega arith)
