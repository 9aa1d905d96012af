use Rattle.std.proofs.Common.{ap, ◌∙◌, arith}
use Rattle.gl_consortium.specs.Dealt.{dealing_of}
use Rattle.gl_consortium.proofs.DealtLemmas.{dealing_fits, read_as}
use Rattle.gl_consortium.proofs.MemberLemmas.{deals}
use Rattle.gl_consortium.proofs.text.deal_text.Goals as goal

pub overflow_cast-threshold : goal.overflow_cast-threshold
overflow_cast-threshold c = let can = deals c.args.threshold c.args.numbers.now c.requires in omega (arith, can.byte)

pub returns-clause-reads_back : goal.returns-clause-reads_back
returns-clause-reads_back c =
    let made = c.in_ok-dealing.ensures ∙ ap (dealing_of c.args.threshold c.args.secret.now) (c.deref.ensures.value ∙ c.in_ok-shares.ensures) in
    read_as c.in_ok-dealing.dealing _ c.in_ok-text.text.items made
    (dealing_fits c.args.threshold c.args.numbers.now c.args.secret.now c.args.seed c.requires)
    c.in_ok-text.ensures.text c.in_ok-text.ensures.reads_back
