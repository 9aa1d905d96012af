use Rattle.std.proofs.Common.{◌≡◌, ◌+◌, length, rules, Some, ap, ◌∙◌}
use Rattle.gl_hss.specs.Signer.{signature_size}
use Rattle.gl_recovery.proofs.Openings.{opening_small}
use Rattle.gl_recovery.proofs.opening_ledger.opening_entry.Goals as goal

pub returns-clause-small : goal.returns-clause-small
returns-clause-small c =
    let node : length c.id_of-node.result ≡ 32 = search rules in
    let root : length c.root-root.result ≡ 32 = search rules in
    let size : length c.from.result ≡ signature_size c.args.by.types (Some c.args.endorsement.items) = ap length c.from.ensures ∙ c.in_ok-signature.ensures.size in
    let seqno = c.ledger_len-seqno.result + 1 in
    opening_small c.args.view seqno seqno c.args.by.types c.id_of-node.result c.root-root.result c.args.endorsement.items c.from.result c.new.result c.new.ensures node root c.requires.short size
