use Rattle.std.proofs.Common.{rules, ◌≡◌, ℕ, List, length, take, sym, ap, ap₂, ◌∙◌}
use Rattle.gl_rules.specs.Identity.{NodeId}
use Rattle.gl_gov_rules.specs.Nodes as nodes
use Rattle.gl_store_book.specs.Lists.{nodes_of}
use Rattle.gl_store_book.proofs.RecordedPrefixes.{ids}
use Rattle.gl_store_book.proofs.Cuts.{pushed_prefix}
use Rattle.gl_store_book.proofs.Growing.{configured_next}
use Rattle.gl_store_book.proofs.node_lists.NodeLists.push_last.Goals as goal

pub push_recorded-requires : goal.push_recorded-requires
push_recorded-requires c =
    let now : ids c.nodes.result.now ≡ nodes_of c.args.gov.now = ap ids (c.nodes.ensures ∙ ap nodes.nodes c.history.ensures.history) in
    let before = c.args.self.now.recorded.items in
    pushed_prefix c.requires.0 c.requires.1 c.args.gov.now c.args.self.now c.requires.3 ∙ ap (λ (xs : List NodeId). take (length before) xs) (sym now)

pub push_configuration-requires : goal.push_configuration-requires
push_configuration-requires c = c.requires.3.stand.governed

pub returns-in-Err-clause-recorded : goal.returns-in-Err-clause-recorded
returns-in-Err-clause-recorded c =
    let before = c.args.self.now.recorded.items in
    let now : ids c.nodes.result.now ≡ nodes_of c.args.gov.now = ap ids (c.nodes.ensures ∙ ap nodes.nodes c.history.ensures.history) in
    let count : c.len-count.result ≡ length before = search (rules, c.len-count.ensures) in
    c.truncate.ensures.items ∙ ap₂ (λ (n : ℕ) (xs : List NodeId). take n xs) count (c.in_ok-push_recorded.ensures.pushed ∙ now)
    ∙ sym (pushed_prefix c.requires.0 c.requires.1 c.args.gov.now c.args.self.now c.requires.3)

pub returns-clause-pushed : goal.returns-clause-pushed
returns-clause-pushed c = λ base count at before. record {
  configured = c.in_default.ensures.pushed ∙ configured_next base count c.args.seqno c.args.gov.now c.args.self.now at before;
  recorded = c.in_ok-push_recorded.ensures.pushed ∙ ap ids (c.nodes.ensures ∙ ap nodes.nodes c.history.ensures.history);
}
