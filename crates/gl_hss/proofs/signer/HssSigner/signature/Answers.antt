use Rattle.gl_hss.proofs.Signers.{signer-IsValid, signer-HasLeaf}
use Rattle.gl_hss.proofs.signer.HssSigner.signature.Goals as goal

pub returns-in-Ok-clause-valid : goal.returns-in-Ok-clause-valid
returns-in-Ok-clause-valid c = λ hss_key stands.
    let s = c.args.self.now in
    signer-IsValid s.key s.endorsement c.in-Ok.signature.items s.used c.args.message.now hss_key c.in-Ok.ensures.form c.in-Ok.ensures.leaf c.in-Ok.ensures.bytes stands

pub returns-in-Ok-clause-leaf : goal.returns-in-Ok-clause-leaf
returns-in-Ok-clause-leaf c = λ hss_key stands.
    let s = c.args.self.now in
    signer-HasLeaf s.key s.endorsement c.in-Ok.signature.items s.used c.args.message.now hss_key c.in-Ok.ensures.form c.in-Ok.ensures.leaf c.in-Ok.ensures.bytes stands
