use Rattle.std.proofs.Common.{◌≡◌, ◌+◌, ◌-◌, ◌*◌, ◌^◌, [], get_or, sym, ap₂, ◌∙◌, arith}
use Rattle.gl_hss.specs.Types.{height}
use Rattle.gl_hss.specs.Tree.{inner_node}
use Rattle.gl_hss.specs.Secrets.{node}
use Rattle.gl_hss.specs.Source.{private_of}
use Rattle.gl_hss.proofs.Trees.{node-inner, filled_less}
use Rattle.gl_hss.proofs.nodes.fill_inner.Goals as goal

pub loop-done-preserved : goal.loop-done-preserved
loop-done-preserved c = λ r above below.
    let k = private_of c.args.source.now in
    let nodes = c.loop-done.nodes in
    let count : c.leaf_count-count.result ≡ 2 ^ height k.types = c.leaf_count-count.ensures.value in
    let at = c.leaf_count-count.result - c.loop-done.done in
    let left : get_or nodes (2 * at) [] ≡ node k (2 * at) = c.loop-done.invariant (2 * at) (omega arith) (omega arith) in
    let right : get_or nodes (2 * at + 1) [] ≡ node k (2 * at + 1) = c.loop-done.invariant (2 * at + 1) (omega arith) (omega arith) in
    let value : c.inner_node.result ≡ node k at =
    c.inner_node.ensures ∙ ap₂ (inner_node k.identifier at) left right ∙ sym (node-inner k at (omega arith) (omega arith)) in
    filled_less (node k) nodes at (2 * 2 ^ height k.types) c.inner_node.result (omega arith) value (λ n lo hi. c.loop-done.invariant n (omega arith) hi) r (omega arith) below
