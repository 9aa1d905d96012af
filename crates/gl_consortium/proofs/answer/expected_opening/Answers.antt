use Rattle.std.proofs.Common.{◌≡◌, Ok, sym, ap₂, ◌∙◌}
use Rattle.gl_hss.specs.Secrets.{PrivateKey}
use Rattle.gl_requests.specs.declared.genesis.NewNode.{NewNode}
use Rattle.gl_consortium.specs.ExpectedOutput.{expected_opening, has_leaf, is_first_node, private_key}
use Rattle.gl_consortium.proofs.ExpectedOutputLaws.{opening_refused, refused_as}
use Rattle.gl_consortium.proofs.answer.expected_opening.Goals as goal

pub returns-in_err-check_accepted : goal.returns-in_err-check_accepted
returns-in_err-check_accepted c =
    let first : is_first_node (private_key c.args.key.now) c.args.genesis.nodes ≡ Ok tt = sym (c.in_ok-check_first_node.ensures ∙ ap₂ is_first_node c.in_ok-by.ensures c.as_slice.ensures) in
    let left : has_leaf c.args.key.now.types c.args.leaf ≡ Ok tt = sym c.in_ok-check_leaf.ensures.exact in
    let refused = opening_refused c.args.key.now c.args.leaf c.args.genesis c.in_err-check_accepted.field-0.0 first left c.in_err-check_accepted.ensures.exact in
    refused_as c.from_residual-in_err-check_accepted.result c.in_err-check_accepted.field-0.0 (expected_opening c.args.key.now c.args.leaf c.args.genesis) c.from_residual-in_err-check_accepted.ensures.0 c.from_residual-in_err-check_accepted.ensures.1 refused
