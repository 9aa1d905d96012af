use Rattle.std.proofs.Common.{length, refl, sym, ap, ◌∙◌}
use Rattle.gl_hss.specs.Types.{height}
use Rattle.gl_hss.specs.Tree.{signature_bytes}
use Rattle.gl_hss.specs.Secrets.{PrivateKey}
use Rattle.gl_hss.specs.Profile.{signature_by}
use Rattle.gl_hss.proofs.ValidSignatures.{length-node_above, signature_by-Signs}
use Rattle.gl_hss.proofs.key.LmsKey.push_signature.Goals as goal

pub returns-clause-valid : goal.returns-clause-valid
returns-clause-valid c =
    let k = c.args.self.now in
    signature_by-Signs k c.args.q c.args.message.now
    (signature_bytes k.types (signature_by k c.args.q c.args.message.now)) c.requires refl

pub returns-clause-form : goal.returns-clause-form
returns-clause-form c =
    let k = c.args.self.now in
    let view = ap (λ (x : PrivateKey). length x.identifier) c.self.view_is in
    record { identifier = sym view ∙ c.push_signature.ensures.identifier; root = length-node_above k (height k.types) 1 }
