use Rattle.std.proofs.Common.{rules, tests, ◌≡◌, ap, sym, ◌∙◌, List}
use Rattle.std.proofs.lemmas.Iterator.{YieldsList-from_slice}
use Rattle.std.proofs.lemmas.Iterator.Search.{all_from_yields_List}
use Rattle.gl_rules.specs.Majority.{majority, quorum}
use Rattle.gl_config.specs.declared.configuration.Configuration.{Configuration}
use Rattle.gl_config.specs.Active.{sets_of, active_of}
use Rattle.gl_config.proofs.Scans.{quorum-all}
use Rattle.gl_replication.specs.Pairs.{held, holds}
use Rattle.gl_replication.proofs.holders.is_quorum_holding.Goals as goal

pub returns : goal.returns
returns c =
    let active : c.as_slice.result.now ≡ active_of c.args.configurations.now c.args.commit = search rules in
    all_from_yields_List (λ (s : Configuration). majority (holds c.args.me.now c.args.seqno (held c.args.matched.now)) s.nodes) _ _ _ c.all.ensures.ran (YieldsList-from_slice c.as_slice.result.now cc) (λ x b q k. search (rules, tests))
    ∙ sym (quorum-all (holds c.args.me.now c.args.seqno (held c.args.matched.now)) c.as_slice.result.now)
    ∙ ap (λ (cs : List Configuration). quorum (holds c.args.me.now c.args.seqno (held c.args.matched.now)) (sets_of cs)) active
