use Rattle.std.proofs.Common.{rules, tests, sym, ◌∙◌}
use Rattle.std.proofs.lemmas.Iterator.{YieldsList-from_slice}
use Rattle.std.proofs.lemmas.Iterator.Search.{any_from_yields_List}
use Rattle.gl_rules.specs.Identity.{member}
use Rattle.gl_config.specs.declared.configuration.Configuration.{Configuration}
use Rattle.gl_config.proofs.Scans.{in_some-any}
use Rattle.gl_config.proofs.active.Active.holds.Goals as goal

pub returns : goal.returns
returns c =
    any_from_yields_List (λ (s : Configuration). member c.args.node.now s.nodes) _ _ _ c.any.ensures.ran (YieldsList-from_slice c.args.self.now cc) (λ x b q k. search (rules, tests))
    ∙ sym (in_some-any c.args.node.now c.args.self.now)
