use Rattle.std.proofs.Common.{◌≡◌, Ok, sym, ap₂, ◌∙◌, subst}
use Rattle.gl_hss.specs.Secrets.{PrivateKey}
use Rattle.gl_entry.specs.SourceBytes.{OfBytes}
use Rattle.gl_recovery.specs.Answers.{FailsOn}
use Rattle.gl_recovery.specs.ExpectedOutput.{expected_recovery, in_frames}
use Rattle.gl_recovery.specs.RecoveryOutput.{has_leaf, is_first_node, private_key}
use Rattle.gl_recovery.proofs.Recovered.{refused_after, reported_after}
use Rattle.gl_recovery.proofs.recovery.start_with_key.Goals as goal

pub returns-in-Ok-clause-reported : goal.returns-in-Ok-clause-reported
returns-in-Ok-clause-reported g c =
    let first : is_first_node (private_key c.args.key.now) c.args.recovery.nodes ≡ Ok tt = sym (c.in_ok-check_first_node.ensures.exact ∙ ap₂ is_first_node c.in_ok-by.ensures c.as_slice.ensures) in
    let left : has_leaf c.args.key.now.types c.args.leaf ≡ Ok tt = sym c.in_ok-check_leaf.ensures.exact in
    let given = g.S.Source.left c.args.source.now in
    let of = λ (by : PrivateKey). OfBytes given (λ bytes. in_frames (expected_recovery c.args.recovery by c.args.leaf bytes) ≡ Ok c.in-Ok.reported.items) in
    reported_after c.args.key.now c.args.leaf c.args.recovery first left given c.in-Ok.reported.items (subst of c.in_ok-by.ensures c.in-Ok.ensures.reported)

pub returns-in-Err-clause-refused : goal.returns-in-Err-clause-refused
returns-in-Err-clause-refused g c fault is inside =
    let first : is_first_node (private_key c.args.key.now) c.args.recovery.nodes ≡ Ok tt = sym (c.in_ok-check_first_node.ensures.exact ∙ ap₂ is_first_node c.in_ok-by.ensures c.as_slice.ensures) in
    let left : has_leaf c.args.key.now.types c.args.leaf ≡ Ok tt = sym c.in_ok-check_leaf.ensures.exact in
    let given = g.S.Source.left c.args.source.now in
    let fails = λ (by : PrivateKey). FailsOn given c.in-Err.error (λ bytes. in_frames (expected_recovery c.args.recovery by c.args.leaf bytes)) in
    refused_after c.args.key.now c.args.leaf c.args.recovery first left given c.in-Err.error c.widen.result fault (subst fails c.in_ok-by.ensures c.in-Err.ensures.reported) c.widen.ensures (cc) inside
