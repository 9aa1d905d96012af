use Rattle.std.proofs.Common.{◌≡◌, ◌∙◌, None, Some, find, option_map, sym, ap, rules, tests}
use Rattle.std.proofs.lemmas.Iterator.{YieldsList-from_slice}
use Rattle.std.proofs.lemmas.Iterator.Search.{find_from_yields_List}
use Rattle.gl_base.specs.Bytes.{same_bytes}
use Rattle.gl_gov_rules.specs.declared.request_facts.Mark.{Mark}
use Rattle.gl_gov_rules.proofs.HistoryIndex.{mark_is}
use Rattle.gl_gov_rules.proofs.history.History.mark.Goals as goal

pub returns-in-None : goal.returns-in-None
returns-in-None c =
    let found : None ≡ find (λ (m : Mark). same_bytes c.args.id.now m.id) c.marks.result.now =
    find_from_yields_List (λ (m : Mark). same_bytes c.args.id.now m.id) c.find.new.self _ None c.in-None.ensures.ran (YieldsList-from_slice c.marks.result.now cc) (λ x b q k. search (rules, tests)) in
    ap (option_map (λ (m : Mark). m.seqno)) (found ∙ ap (find (λ (m : Mark). same_bytes c.args.id.now m.id)) c.marks.ensures) ∙ sym (mark_is c.args.self.now c.args.id.now)

pub returns-in-Some : goal.returns-in-Some
returns-in-Some c =
    let found : Some c.in-Some.mark.now ≡ find (λ (m : Mark). same_bytes c.args.id.now m.id) c.marks.result.now =
    find_from_yields_List (λ (m : Mark). same_bytes c.args.id.now m.id) c.find.new.self _ (Some c.in-Some.mark) c.in-Some.ensures.ran (YieldsList-from_slice c.marks.result.now cc) (λ x b q k. search (rules, tests)) in
    ap (option_map (λ (m : Mark). m.seqno)) (found ∙ ap (find (λ (m : Mark). same_bytes c.args.id.now m.id)) c.marks.ensures) ∙ sym (mark_is c.args.self.now c.args.id.now)
