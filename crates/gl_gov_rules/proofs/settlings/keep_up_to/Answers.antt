use Rattle.std.proofs.Common.{None, sym, ap, ◌∙◌, arith}
use Rattle.gl_gov_rules.specs.Proposals.{settling_up_to}
use Rattle.gl_gov_rules.proofs.Settled.{settle_one, map_same}
use Rattle.gl_gov_rules.proofs.settlings.keep_up_to.Goals as goal

pub loop-i-init : goal.loop-i-init
loop-i-init c = sym (map_same _)

pub loop-i-preserved : goal.loop-i-preserved
loop-i-preserved c =
    settle_one (settling_up_to c.args.to) (λ x. x) c.args.settlings.now c.loop-i.settlings c.loop-i.i None None c.settling_up_to.result (omega arith) c.loop-i.invariant
    (λ read. c.settling_up_to.ensures ∙ ap (settling_up_to c.args.to) read)
