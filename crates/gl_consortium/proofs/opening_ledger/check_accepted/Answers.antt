use Rattle.std.proofs.Common.{Err, sym, ◌∙◌, ap}
use Rattle.gl_gov_rules.specs.History.{no_history}
use Rattle.gl_consortium.specs.ExpectedOutput.{is_accepted, unless_refused}
use Rattle.gl_consortium.proofs.Foundings.{answered, refused_so}
use Rattle.gl_consortium.proofs.opening_ledger.check_accepted.Goals as goal

pub founding_fault-requires : goal.founding_fault-requires
founding_fault-requires c =
    let is = answered c.new.result c.in_ok-copy.field-0 c.args.genesis.now c.in_ok-why.field-0 c.new.ensures c.in_ok-copy.ensures c.in_ok-why.ensures.refusal in
    refused_so no_history c.args.genesis.now c.in-Some.why (is ∙ c.in-Some.is)

pub returns-in-Some-clause-exact : goal.returns-in-Some-clause-exact
unfolding is_accepted
returns-in-Some-clause-exact c =
    let is = answered c.new.result c.in_ok-copy.field-0 c.args.genesis.now c.in_ok-why.field-0 c.new.ensures c.in_ok-copy.ensures c.in_ok-why.ensures.refusal in
    ap unless_refused (is ∙ c.in-Some.is) ∙ ap Err (sym c.founding_fault.ensures)

pub returns-clause-exact : goal.returns-clause-exact
unfolding is_accepted
returns-clause-exact c =
    let is = answered c.new.result c.in_ok-copy.field-0 c.args.genesis.now c.in_ok-why.field-0 c.new.ensures c.in_ok-copy.ensures c.in_ok-why.ensures.refusal in
    ap unless_refused (is ∙ c.in-None.is)

pub returns-clause-accepted : goal.returns-clause-accepted
returns-clause-accepted c =
    answered c.new.result c.in_ok-copy.field-0 c.args.genesis.now c.in_ok-why.field-0 c.new.ensures c.in_ok-copy.ensures c.in_ok-why.ensures.refusal ∙ c.in-None.is
