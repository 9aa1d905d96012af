use Rattle.std.proofs.Common.{suc, ◌*◌, ap, ◌∙◌, sym, arith}
use Rattle.std.proofs.Math.Nat.{pow-suc}
use Rattle.gl_merkle.proofs.tree.split_of.Goals as goal

pub loop-width-preserved : goal.loop-width-preserved
loop-width-preserved c =
    let p = c.loop-width.invariant.power in
    record { below = omega arith; power = (suc p.0, ap (λ n. n * 2) p.1 ∙ sym (pow-suc 2 p.0)) }
