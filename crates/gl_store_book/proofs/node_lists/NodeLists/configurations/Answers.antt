use Rattle.std.proofs.Common.{ℕ, List, take, sym, ap, ap₂, ◌∙◌}
use Rattle.gl_config.specs.declared.configuration.Configuration.{Configuration}
use Rattle.gl_config.specs.Active.{upto}
use Rattle.gl_store_book.proofs.Cuts.{count_configurations}
use Rattle.gl_store_book.proofs.ListPrefixes.{counted_prefix}
use Rattle.gl_store_book.proofs.node_lists.NodeLists.configurations.Goals as goal

pub returns-clause-prefix : goal.returns-clause-prefix
returns-clause-prefix c = (c.count_upto-count.result, ap (take c.count_upto-count.result) c.deref-2.ensures.value)

pub returns-clause-upto : goal.returns-clause-upto
returns-clause-upto c = λ base count g are low.
    ap₂ (λ (n : ℕ) (cs : List Configuration). take n cs)
    (c.count_upto-count.ensures ∙ ap (count_configurations c.args.seqno) c.deref.ensures.value) c.deref-2.ensures.value
    ∙ ap (λ (cs : List Configuration). take (count_configurations c.args.seqno cs) cs) are.configured
    ∙ counted_prefix base g count c.args.seqno low ∙ ap (upto c.args.seqno) (sym are.configured)
