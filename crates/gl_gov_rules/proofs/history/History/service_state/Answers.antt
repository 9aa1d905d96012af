use Rattle.std.proofs.Common.{◌≡◌, ◌∙◌, None, Some, is_some, ap, rules, tests}
use Rattle.std.proofs.lemmas.Iterator.Adapters.{YieldsList-from_rev_slice}
use Rattle.std.proofs.lemmas.Iterator.Search.{find_from_yields_List}
use Rattle.gl_vmaps.specs.LastWrite.{last_such}
use Rattle.gl_gov_rules.specs.declared.change.Changed.{Changed}
use Rattle.gl_gov_rules.specs.History.{set_by, last_set}
use Rattle.gl_gov_rules.specs.Service.{service_state, sets_state}
use Rattle.gl_gov_rules.proofs.history.History.service_state.Goals as goal

pub returns-in-None : goal.returns-in-None
unfolding service_state
returns-in-None c =
    let back = c.is_recovered-recovered.result in
    let found : None ≡ last_such (λ (x : Changed). is_some (sets_state back x.change)) c.changes.result.now =
    find_from_yields_List (λ (x : Changed). is_some (sets_state back x.change)) c.find.new.self _ None c.in-None.ensures.ran (YieldsList-from_rev_slice c.changes.result.now cc) (λ x b q k. search (rules, tests)) in
    ap (set_by (sets_state back)) (found ∙ ap (last_such (λ (x : Changed). is_some (sets_state back x.change))) c.changes.ensures)
    ∙ ap (λ b. last_set (sets_state b) c.args.self.now.changes) c.is_recovered-recovered.ensures

pub returns-in-Some : goal.returns-in-Some
unfolding service_state
returns-in-Some c =
    let back = c.is_recovered-recovered.result in
    let found : Some c.in-Some.changed.now ≡ last_such (λ (x : Changed). is_some (sets_state back x.change)) c.changes.result.now =
    find_from_yields_List (λ (x : Changed). is_some (sets_state back x.change)) c.find.new.self _ (Some c.in-Some.changed) c.in-Some.ensures.ran (YieldsList-from_rev_slice c.changes.result.now cc) (λ x b q k. search (rules, tests)) in
    c.sets_state.ensures ∙ ap (set_by (sets_state back)) (found ∙ ap (last_such (λ (x : Changed). is_some (sets_state back x.change))) c.changes.ensures)
    ∙ ap (λ b. last_set (sets_state b) c.args.self.now.changes) c.is_recovered-recovered.ensures
