use Rattle.std.proofs.Common.{◌≡◌, Some, length, rules}
use Rattle.gl_hss.specs.Signer.{signature_size}
use Rattle.gl_consortium.proofs.Openings.{opening_small}
use Rattle.gl_consortium.proofs.opening_ledger.signature_frame.Goals as goal

pub encode-requires : goal.encode-requires
encode-requires c =
    let node : length c.id_of-node.result ≡ 32 = search rules in
    let root : length c.args.root ≡ 32 = search rules in
    let size : length c.in_ok-signature.signature.items ≡ signature_size c.args.by.types (Some c.args.endorsement.items) = c.in_ok-signature.ensures.size in
    opening_small c.args.by.types c.id_of-node.result c.args.root c.args.endorsement.items c.in_ok-signature.signature.items c.opening_entry.result
    node root c.requires.short size c.opening_entry.ensures
