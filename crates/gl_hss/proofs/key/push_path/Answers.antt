use Rattle.std.proofs.Common.{◌≡◌, ◌+◌, ◌/◌, ◌^◌, ◌≤◌, ◌++◌, ℕ, List, [], get_or, append-nil, append_assoc, sym, ap, ◌∙◌, arith}
use Rattle.std.proofs.Math.Nat.{div-le_self}
use Rattle.gl_hss.specs.Types.{height}
use Rattle.gl_hss.specs.Secrets.{node, sibling, siblings}
use Rattle.gl_hss.specs.Source.{private_of}
use Rattle.gl_hss.proofs.Climbing.{halved-more}
use Rattle.gl_hss.proofs.Paths.{siblings-none, siblings-more, above_one, sibling_within}
use Rattle.gl_hss.proofs.key.push_path.Goals as goal

pub loop-i-init : goal.loop-i-init
loop-i-init c =
    (omega (arith, c.leaf_count.ensures.value), rw (siblings-none (private_of c.args.source.now) (2 ^ height c.args.source.now.types + c.args.q), append-nil))

pub sibling-requires-clause-low : goal.sibling-requires-clause-low
sibling-requires-clause-low c =
    let h = height c.args.source.now.types in
    omega (arith, above_one h (2 ^ h + c.args.q) c.loop-i.i (omega arith) (omega (arith, c.height-i-end.ensures)), c.loop-i.invariant.0)

pub loop-i-preserved : goal.loop-i-preserved
loop-i-preserved c =
    let k = private_of c.args.source.now in
    let h = height k.types in
    let r = 2 ^ h + c.args.q in
    let i = c.loop-i.i in
    let at : c.loop-i.node ≡ r / 2 ^ i = c.loop-i.invariant.0 in
    let low : 2 ≤ c.loop-i.node = omega (arith, above_one h r i (omega arith) (omega (arith, c.height-i-end.ensures))) in
    let within = sibling_within c.loop-i.node (2 ^ h) low (omega (arith, div-le_self r (2 ^ i))) in
    let read : get_or c.args.nodes.now c.sibling.result [] ≡ node k (sibling (r / 2 ^ i)) =
    ap (λ (n : ℕ). get_or c.args.nodes.now n []) c.sibling.ensures ∙ c.requires.nodes.nodes_are (sibling c.loop-i.node) within.0 within.1 ∙ ap (λ (n : ℕ). node k (sibling n)) at in
    let added : c.extend_from_slice.new.self.items ≡ c.loop-i.out.items ++ get_or c.args.nodes.now c.sibling.result [] = c.in_ok-extend_from_slice.ensures.items in (
      ap (λ (n : ℕ). n / 2) at ∙ halved-more r i,
      added ∙ ap (λ (l : List ℕ). l ++ get_or c.args.nodes.now c.sibling.result []) c.loop-i.invariant.1
          ∙ append_assoc c.args.out.now.items (siblings k r i) (get_or c.args.nodes.now c.sibling.result [])
          ∙ ap (λ (l : List ℕ). c.args.out.now.items ++ l) (ap (λ (l : List ℕ). siblings k r i ++ l) read ∙ sym (siblings-more k r i)),
    )
