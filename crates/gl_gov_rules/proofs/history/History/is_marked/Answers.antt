use Rattle.std.proofs.Common.{◌∙◌, sym, ap, rules, tests}
use Rattle.std.specs.List.{list_any}
use Rattle.std.proofs.lemmas.Iterator.{YieldsList-from_slice}
use Rattle.std.proofs.lemmas.Iterator.Search.{any_from_yields_List}
use Rattle.gl_base.specs.Bytes.{same_bytes}
use Rattle.gl_gov_rules.specs.declared.request_facts.Mark.{Mark}
use Rattle.gl_gov_rules.proofs.HistoryIndex.{marked_is}
use Rattle.gl_gov_rules.proofs.history.History.is_marked.Goals as goal

pub returns : goal.returns
returns c =
    any_from_yields_List (λ (m : Mark). same_bytes c.args.id.now m.id) _ _ _ c.any.ensures.ran (YieldsList-from_slice c.marks.result.now cc) (λ x b q k. search (rules, tests))
    ∙ ap (list_any (λ (m : Mark). same_bytes c.args.id.now m.id)) c.marks.ensures ∙ sym (marked_is c.args.self.now c.args.id.now)
