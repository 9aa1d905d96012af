use Rattle.std.proofs.Common.{ℕ, List, ◌++◌, ap, ◌∙◌}
use Rattle.gl_hss.specs.Tree.{signature_bytes}
use Rattle.gl_hss.specs.Profile.{signature_by}
use Rattle.gl_hss.proofs.ValidSignatures.{signature_by-Signs}
use Rattle.gl_hss.proofs.key.LmsKey.sign_leaf.Goals as goal

pub returns-clause-valid : goal.returns-clause-valid
returns-clause-valid c =
    let k = c.args.self.now in
    let bytes = signature_bytes k.types (signature_by k c.args.q c.args.message.now) in
    signature_by-Signs k c.args.q c.args.message.now c.push_signature.new.out.items c.requires
    (c.in_ok-push_signature.ensures.bytes ∙ ap (λ (l : List ℕ). l ++ bytes) c.in_ok-out.ensures.items)
