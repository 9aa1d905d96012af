use Rattle.std.proofs.Common.{rules, tests, sym, ◌∙◌}
use Rattle.std.proofs.lemmas.Iterator.{YieldsList-from_slice}
use Rattle.std.proofs.lemmas.Iterator.Search.{all_from_yields_List}
use Rattle.gl_rules.specs.Identity.{NodeId, member}
use Rattle.gl_rules.specs.Majority.{majority}
use Rattle.gl_config.specs.declared.configuration.Configuration.{Configuration}
use Rattle.gl_config.proofs.Scans.{quorum-all}
use Rattle.gl_config.proofs.active.Active.quorum.Goals as goal

pub returns : goal.returns
returns c =
    all_from_yields_List (λ (s : Configuration). majority (λ (y : NodeId). member y c.args.votes.now) s.nodes) _ _ _ c.all.ensures.ran (YieldsList-from_slice c.args.self.now cc) (λ x b q k. search (rules, tests))
    ∙ sym (quorum-all (λ (y : NodeId). member y c.args.votes.now) c.args.self.now)
