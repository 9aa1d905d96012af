use Rattle.std.proofs.Common.{◌≡◌, ◌∙◌, None, Some, find, option_map, sym, ap, rules, tests}
use Rattle.std.proofs.lemmas.Iterator.{YieldsList-from_slice}
use Rattle.std.proofs.lemmas.Iterator.Search.{find_from_yields_List}
use Rattle.gl_gov_rules.specs.declared.request_facts.Retirement.{Retirement}
use Rattle.gl_gov_rules.specs.Index.{is_retirement_of}
use Rattle.gl_gov_rules.proofs.HistoryIndex.{removal_is}
use Rattle.gl_gov_rules.proofs.history.History.removal.Goals as goal

pub returns-in-None : goal.returns-in-None
returns-in-None c =
    let found : None ≡ find (λ (r : Retirement). is_retirement_of c.args.node.now r) c.retirements.result.now =
    find_from_yields_List (λ (r : Retirement). is_retirement_of c.args.node.now r) c.find.new.self _ None c.in-None.ensures.ran (YieldsList-from_slice c.retirements.result.now cc) (λ x b q k. search (rules, tests)) in
    ap (option_map (λ (r : Retirement). r.seqno)) (found ∙ ap (find (λ (r : Retirement). is_retirement_of c.args.node.now r)) c.retirements.ensures) ∙ sym (removal_is c.args.self.now c.args.node.now)

pub returns-in-Some : goal.returns-in-Some
returns-in-Some c =
    let found : Some c.in-Some.retirement.now ≡ find (λ (r : Retirement). is_retirement_of c.args.node.now r) c.retirements.result.now =
    find_from_yields_List (λ (r : Retirement). is_retirement_of c.args.node.now r) c.find.new.self _ (Some c.in-Some.retirement) c.in-Some.ensures.ran (YieldsList-from_slice c.retirements.result.now cc) (λ x b q k. search (rules, tests)) in
    ap (option_map (λ (r : Retirement). r.seqno)) (found ∙ ap (find (λ (r : Retirement). is_retirement_of c.args.node.now r)) c.retirements.ensures) ∙ sym (removal_is c.args.self.now c.args.node.now)
