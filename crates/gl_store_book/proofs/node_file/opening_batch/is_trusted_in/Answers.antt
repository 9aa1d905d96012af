use Rattle.std.proofs.Common.{ap, ◌∙◌}
use Rattle.gl_rules.specs.Identity.{member}
use Rattle.gl_gov_rules.specs.History.{History}
use Rattle.gl_gov_rules.specs.Nodes.{is_trusted_status, node_status, nodes, trusted}
use Rattle.gl_gov_rules.specs.declared.change.RecordedNode.{RecordedNode}
use Rattle.gl_ledger.specs.Recordings.{trusted_nodes}
use Rattle.gl_store_book.proofs.OpeningSizes.{member-chosen}
use Rattle.gl_store_book.proofs.node_file.opening_batch.is_trusted_in.Goals as goal

pub returns : goal.returns
unfolding trusted_nodes trusted
returns c =
    let x = c.args.node.now in
    let past = c.history.result.now in
    c.is_trusted_now.ensures
    ∙ member-chosen x (λ (n : RecordedNode). is_trusted_status (node_status past n)) (nodes past)
    ∙ ap (λ (h : History). member x (trusted h)) c.history.ensures
