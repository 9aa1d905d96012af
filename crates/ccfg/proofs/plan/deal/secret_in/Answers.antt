use Rattle.std.proofs.Common.{◌≤◌, length, ◌∙◌, arith}
use Rattle.std.proofs.lemmas.List.{take_all}
use Rattle.ccfg.proofs.plan.deal.secret_in.Goals as goal

pub returns-in-Some-first_chunk-clause-seed : goal.returns-in-Some-first_chunk-clause-seed
returns-in-Some-first_chunk-clause-seed c =
    let cut = c.in-Some.ensures.cases in
    let few : length c.in-Some.rest.now ≤ 32 = omega (arith, cut.2, c.requires) in
    c.in-Some-first_chunk.ensures.cases.same ∙ take_all 32 c.in-Some.rest.now few ∙ cut.1
