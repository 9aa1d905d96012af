use Rattle.std.proofs.Common.{ℕ, take, ap, ◌∙◌}
use Rattle.gl_gov_rules.specs.Nodes as nodes
use Rattle.gl_store_book.proofs.Cuts.{count_configurations, count_nodes, listed_cut}
use Rattle.gl_store_book.proofs.node_lists.NodeLists.cut.Goals as goal

pub returns : goal.returns
returns c = λ base count stand are low within.
    listed_cut base count c.args.to c.args.gov.now c.args.self.now _ stand are low within
    (c.truncate.ensures.items ∙ ap (λ (n : ℕ). take n c.args.self.now.configurations.items)
    (c.count_upto-configurations.ensures ∙ ap (count_configurations c.args.to) c.deref.ensures.value))
    (c.truncate-2.ensures.items ∙ ap (λ (n : ℕ). take n c.args.self.now.recorded.items)
    (c.count_upto-recorded.ensures ∙ ap (count_nodes c.args.to) (c.nodes.ensures ∙ ap nodes.nodes c.history.ensures.history)))
