use Rattle.std.proofs.Common.{◌∙◌, sym, ap, rules, tests}
use Rattle.std.specs.List.{list_any}
use Rattle.std.proofs.lemmas.Iterator.{YieldsList-from_slice}
use Rattle.std.proofs.lemmas.Iterator.Search.{any_from_yields_List}
use Rattle.gl_base.specs.Bytes.{same_bytes}
use Rattle.gl_gov_rules.specs.declared.request_facts.Trust.{Trust}
use Rattle.gl_gov_rules.proofs.HistoryIndex.{trust_is}
use Rattle.gl_gov_rules.proofs.history.History.is_trust_applied.Goals as goal

pub returns : goal.returns
returns c =
    any_from_yields_List (λ (t : Trust). same_bytes c.args.id.now t.id) _ _ _ c.any.ensures.ran (YieldsList-from_slice c.trusts.result.now cc) (λ x b q k. search (rules, tests))
    ∙ ap (list_any (λ (t : Trust). same_bytes c.args.id.now t.id)) c.trusts.ensures ∙ sym (trust_is c.args.self.now c.args.id.now)
