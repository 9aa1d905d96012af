use Rattle.std.proofs.Common.{◌++◌, get_or, None, sym, ap, ◌∙◌, arith}
use Rattle.std.specs.Option.{option_or}
use Rattle.gl_gov_rules.specs.Proposals.{settling_in}
use Rattle.gl_gov_rules.proofs.Settled.{settle_one, settling-append}
use Rattle.gl_gov_rules.proofs.settlings.settle.Goals as goal

pub loop-i-preserved : goal.loop-i-preserved
loop-i-preserved c = λ cs are.
    settle_one (settling_in (cs ++ c.args.more.now)) (settling_in cs) c.args.proposals.now c.loop-i.settlings c.loop-i.i c.index-proposals-i.result None c.settled_by.result
    (omega (arith, c.requires)) (c.loop-i.invariant cs are)
    (λ read. c.settled_by.ensures ∙ ap (λ o. option_or o (settling_in c.args.more.now c.index-proposals-i.result)) read
    ∙ ap (λ p. option_or (settling_in cs (get_or c.args.proposals.now c.loop-i.i c.index-proposals-i.result)) (settling_in c.args.more.now p)) c.index-proposals-i.is
    ∙ sym (settling-append cs c.args.more.now _))
