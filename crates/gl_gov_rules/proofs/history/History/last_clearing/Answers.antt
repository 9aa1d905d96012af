use Rattle.std.proofs.Common.{◌≡◌, ◌∙◌, None, Some, ap, rules, tests}
use Rattle.std.proofs.lemmas.Iterator.Adapters.{YieldsList-from_rev_slice}
use Rattle.std.proofs.lemmas.Iterator.Search.{find_from_yields_List}
use Rattle.gl_vmaps.specs.LastWrite.{last_such}
use Rattle.gl_gov_rules.specs.declared.change.Changed.{Changed}
use Rattle.gl_gov_rules.specs.History.{seqno_of}
use Rattle.gl_gov_rules.specs.Service.{last_clearing, clears_shares}
use Rattle.gl_gov_rules.proofs.history.History.last_clearing.Goals as goal

pub returns-in-None : goal.returns-in-None
unfolding last_clearing
returns-in-None c =
    let found : None ≡ last_such (λ (x : Changed). clears_shares x.change) c.changes.result.now =
    find_from_yields_List (λ (x : Changed). clears_shares x.change) c.find.new.self _ None c.in-None.ensures.ran (YieldsList-from_rev_slice c.changes.result.now cc) (λ x b q k. search (rules, tests)) in
    ap seqno_of (found ∙ ap (last_such (λ (x : Changed). clears_shares x.change)) c.changes.ensures)

pub returns-in-Some : goal.returns-in-Some
unfolding last_clearing
returns-in-Some c =
    let found : Some c.in-Some.changed.now ≡ last_such (λ (x : Changed). clears_shares x.change) c.changes.result.now =
    find_from_yields_List (λ (x : Changed). clears_shares x.change) c.find.new.self _ (Some c.in-Some.changed) c.in-Some.ensures.ran (YieldsList-from_rev_slice c.changes.result.now cc) (λ x b q k. search (rules, tests)) in
    ap seqno_of (found ∙ ap (last_such (λ (x : Changed). clears_shares x.change)) c.changes.ensures)
