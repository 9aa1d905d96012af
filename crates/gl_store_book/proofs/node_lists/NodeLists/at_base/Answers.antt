use Rattle.std.proofs.Common.{ap, ◌∙◌}
use Rattle.gl_config.specs.NodeSet.{are_distinct}
use Rattle.gl_gov_rules.specs.Nodes as nodes
use Rattle.gl_store_book.proofs.Growing.{configured_at_base}
use Rattle.gl_store_book.proofs.RecordedPrefixes.{ids}
use Rattle.gl_store_book.proofs.TrustedSets.{trusted_distinct}
use Rattle.gl_store_book.proofs.node_lists.NodeLists.at_base.Goals as goal

pub new-requires : goal.new-requires
new-requires c =
    ap are_distinct (c.in_ok-nodes.ensures ∙ ap nodes.trusted c.history.ensures.history) ∙ trusted_distinct c.args.gov.now c.requires.governed

pub returns : goal.returns
returns c = record {
  configured = configured_at_base c.args.base c.args.gov.now c.new-configurations.result.items _ c.new.result c.requires.above c.requires.none c.in_ok-push.ensures.items
      c.new-configurations.ensures.items (c.new.ensures ∙ c.in_ok-nodes.ensures ∙ ap nodes.trusted c.history.ensures.history);
  recorded = c.in_ok-push_recorded.ensures.pushed ∙ ap ids (c.nodes.ensures ∙ ap nodes.nodes c.history-2.ensures.history);
}
