use Rattle.std.proofs.Common.{◌≡◌, ◌≤◌, ℕ, List, length, take, sym, ap, ap₂, ◌∙◌, arith}
use Rattle.std.proofs.lemmas.List.{length-take-le}
use Rattle.gl_rules.specs.Identity.{NodeId}
use Rattle.gl_gov_rules.specs.Nodes as nodes
use Rattle.gl_audit.specs.GovState.{history_of}
use Rattle.gl_store_book.specs.Lists.{nodes_of}
use Rattle.gl_store_book.proofs.Cuts.{count_nodes, counted_few, recorded_cut}
use Rattle.gl_store_book.proofs.Growing.{governed_all, up_to_beyond}
use Rattle.gl_store_book.proofs.node_lists.NodeLists.recorded_nodes.Goals as goal

pub slice_bounds-result-end : goal.slice_bounds-result-end
slice_bounds-result-end c =
    let g = c.args.gov.now in
    let ns : c.nodes.result.now ≡ nodes.nodes (history_of g) = c.nodes.ensures ∙ ap nodes.nodes c.history.ensures.history in
    let count : c.count_upto-count.result ≡ count_nodes c.args.upto (nodes.nodes (history_of g)) = c.count_upto-count.ensures ∙ ap (count_nodes c.args.upto) ns in
    let all : length c.deref-2.result.now ≡ length (nodes_of g) = ap (λ (xs : List NodeId). length xs) (c.deref-2.ensures.value ∙ c.requires) in
    let low = counted_few c.args.upto g in
    sym (length-take-le c.count_upto-count.result c.deref-2.result.now (omega (arith, low, count, all)))

pub returns-then-upto-last : goal.returns-then-upto-last
returns-then-upto-last c = λ base count stand at low.
    let g = c.args.gov.now in
    let late : c.args.last ≤ c.args.upto = c.if-upto-last.true in
    c.deref.ensures.value ∙ c.requires ∙ ap nodes_of (sym (governed_all c.args.upto g (up_to_beyond _ c.args.upto g.requests (omega (arith, late, at)) stand.within)))

pub returns : goal.returns
returns c = λ base count stand at low.
    let g = c.args.gov.now in
    let ns : c.nodes.result.now ≡ nodes.nodes (history_of g) = c.nodes.ensures ∙ ap nodes.nodes c.history.ensures.history in
    ap₂ (λ (n : ℕ) (xs : List NodeId). take n xs) (c.count_upto-count.ensures ∙ ap (count_nodes c.args.upto) ns) (c.deref-2.ensures.value ∙ c.requires)
    ∙ recorded_cut c.args.upto g stand.governed
