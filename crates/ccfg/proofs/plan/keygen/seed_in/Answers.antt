use Rattle.std.proofs.Common.{◌∙◌}
use Rattle.std.proofs.lemmas.List.{take_all}
use Rattle.ccfg.proofs.plan.keygen.seed_in.Goals as goal

pub returns-in-Some-clause-seed : goal.returns-in-Some-clause-seed
returns-in-Some-clause-seed c = c.in-Some.ensures.cases.same ∙ take_all 32 c.args.text.now c.requires
