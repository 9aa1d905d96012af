use Rattle.std.proofs.Common.{length, sym, ap, ◌∙◌}
use Rattle.gl_hss.specs.Types.{height}
use Rattle.gl_hss.specs.Secrets.{PrivateKey}
use Rattle.gl_hss.proofs.ValidSignatures.{length-node_above}
use Rattle.gl_hss.proofs.key.LmsKey.public.Goals as goal

pub returns-clause-form : goal.returns-clause-form
returns-clause-form c =
    let k = c.args.self.now in
    let view = ap (λ (x : PrivateKey). length x.identifier) c.self.view_is in
    record { identifier = sym view ∙ c.public_bytes.ensures.identifier; root = length-node_above k (height k.types) 1 }
