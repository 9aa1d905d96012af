use Rattle.std.proofs.Common.{rules, tests, sym, ◌∙◌}
use Rattle.std.proofs.lemmas.Iterator.{YieldsList-from_slice}
use Rattle.std.proofs.lemmas.Iterator.Search.{any_from_yields_List}
use Rattle.gl_rules.specs.Identity.{NodeId, same}
use Rattle.gl_config.proofs.Scans.{member-any}
use Rattle.gl_config.proofs.node_set.is_member.Goals as goal

pub returns : goal.returns
returns c =
    any_from_yields_List (λ (y : NodeId). same c.args.x.now y) _ _ _ c.any.ensures.ran (YieldsList-from_slice c.args.nodes.now cc) (λ x b q k. search (rules, tests))
    ∙ sym (member-any c.args.x.now c.args.nodes.now)
