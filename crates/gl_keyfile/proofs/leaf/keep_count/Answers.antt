use Rattle.std.proofs.Common.{◌≡◌, Ok, OnOk, sym, subst}
use Rattle.gl_keyfile.specs.KeyFile.{opened, OpensOnlyTo}
use Rattle.gl_keyfile.specs.Leaf.{after_leaf}
use Rattle.gl_keyfile.specs.declared.leaf.LeafUse.{LeafUse}
use Rattle.gl_keyfile.specs.declared.leaf.LeafUse.TheVariants.{Signature, Start}
use Rattle.gl_keyfile.proofs.Folding.{signature_folds, start_folds}
use Rattle.gl_keyfile.proofs.leaf.keep_count.Goals as goal

pub returns-in-Signature-clause-kept : goal.returns-in-Signature-clause-kept
returns-in-Signature-clause-kept g c h goes_on state opens next below =
    subst (λ (u : LeafUse). OnOk c.keep.result (opened goes_on (g.D.Disk.bytes c.keep.new.self.gated.disk) ≡ Ok (after_leaf u state))) (sym c.in-Signature.is)
    (c.keep.ensures.kept h goes_on state (after_leaf Signature state) opens (signature_folds goes_on state c.args.reserved next below))

pub returns-in-Signature-clause-after : goal.returns-in-Signature-clause-after
returns-in-Signature-clause-after g c h goes_on state opens next below =
    subst (λ (u : LeafUse). OnOk c.keep.result (OpensOnlyTo goes_on (g.D.Disk.past c.keep.new.self.gated.disk) (after_leaf u state))) (sym c.in-Signature.is)
    (c.keep.ensures.after h goes_on state (after_leaf Signature state) opens (signature_folds goes_on state c.args.reserved next below))

pub returns-in-Start-clause-kept : goal.returns-in-Start-clause-kept
returns-in-Start-clause-kept g c h goes_on state opens next below =
    subst (λ (u : LeafUse). OnOk c.keep-in-Start.result (opened goes_on (g.D.Disk.bytes c.keep-in-Start.new.self.gated.disk) ≡ Ok (after_leaf u state))) (sym c.in-Start.is)
    (c.keep-in-Start.ensures.kept h goes_on state (after_leaf Start state) opens (start_folds goes_on state c.args.reserved next below))

pub returns-in-Start-clause-after : goal.returns-in-Start-clause-after
returns-in-Start-clause-after g c h goes_on state opens next below =
    subst (λ (u : LeafUse). OnOk c.keep-in-Start.result (OpensOnlyTo goes_on (g.D.Disk.past c.keep-in-Start.new.self.gated.disk) (after_leaf u state))) (sym c.in-Start.is)
    (c.keep-in-Start.ensures.after h goes_on state (after_leaf Start state) opens (start_folds goes_on state c.args.reserved next below))
