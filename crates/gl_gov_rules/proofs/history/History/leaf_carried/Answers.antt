use Rattle.std.proofs.Common.{◌≡◌, ◌∙◌, None, Some, find, ap, rules, tests}
use Rattle.std.proofs.lemmas.Iterator.{YieldsList-from_slice}
use Rattle.std.proofs.lemmas.Iterator.Search.{find_from_yields_List}
use Rattle.gl_gov_rules.specs.Members.{is_signer, leaf_carried}
use Rattle.gl_gov_rules.proofs.history.History.leaf_carried.Goals as goal

pub returns-in-None : goal.returns-in-None
returns-in-None c =
    let found : None ≡ find (is_signer c.args.number) c.carried_signers.result.now =
    find_from_yields_List (is_signer c.args.number) c.find.new.self _ None c.in-None.ensures.ran (YieldsList-from_slice c.carried_signers.result.now cc) (λ x b q k. search (rules, tests)) in
    ap leaf_carried (found ∙ ap (find (is_signer c.args.number)) c.carried_signers.ensures)

pub returns-in-Some : goal.returns-in-Some
returns-in-Some c =
    let found : Some c.in-Some.signer.now ≡ find (is_signer c.args.number) c.carried_signers.result.now =
    find_from_yields_List (is_signer c.args.number) c.find.new.self _ (Some c.in-Some.signer) c.in-Some.ensures.ran (YieldsList-from_slice c.carried_signers.result.now cc) (λ x b q k. search (rules, tests)) in
    ap leaf_carried (found ∙ ap (find (is_signer c.args.number)) c.carried_signers.ensures)
