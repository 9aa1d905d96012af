use Rattle.std.proofs.Common.{◌/◌, ℕ, sym, ap, ◌∙◌, arith}
use Rattle.gl_hss.proofs.Climbing.{climb-none, climb-more, halved-more}
use Rattle.gl_hss.proofs.tree.climb.Goals as goal

pub loop-i-init : goal.loop-i-init
loop-i-init c = (sym (climb-none c.args.identifier.now c.args.path.now c.args.node c.args.value), omega arith)

pub loop-i-preserved : goal.loop-i-preserved
loop-i-preserved c =
    let more = climb-more c.args.identifier.now c.args.path.now c.args.node c.loop-i.i c.args.value in
    let here = c.loop-i.invariant.0 in
    let node = c.loop-i.invariant.1 in
    (cc, ap (λ (n : ℕ). n / 2) node ∙ halved-more c.args.node c.loop-i.i)
