use Rattle.std.proofs.Common.{◌∙◌, sym, ap, rules, tests, nat_eq, ℕ}
use Rattle.std.specs.List.{list_any}
use Rattle.std.proofs.lemmas.Iterator.{YieldsList-from_slice}
use Rattle.std.proofs.lemmas.Iterator.Search.{any_from_yields_List}
use Rattle.gl_gov_rules.proofs.HistoryIndex.{removed_is}
use Rattle.gl_gov_rules.proofs.history.History.is_removed.Goals as goal

pub returns : goal.returns
returns c =
    any_from_yields_List (λ (other : ℕ). nat_eq other c.args.number) _ _ _ c.any.ensures.ran (YieldsList-from_slice c.removed.result.now cc) (λ x b q k. search (rules, tests))
    ∙ ap (list_any (λ (other : ℕ). nat_eq other c.args.number)) c.removed.ensures ∙ sym (removed_is c.args.self.now c.args.number)
