use Rattle.std.proofs.Common.{◌∷◌, ℕ, refl, ap, ◌∙◌}
use Rattle.std.specs.Prelude.{Vec}
use Rattle.std.specs.declared.alloc.Global.{Global}
use Rattle.gl_outside.specs.Disk.{Kept}
use Rattle.gl_outside.proofs.Tearing.{reads_kept}
use Rattle.ccfg.specs.Disk.{HeldDisk, past_of}
use Rattle.ccfg.specs.declared.schedule_nodes.disk.Deed.TheVariants.{Synced}
use Rattle.ccfg.proofs.DiskLemmas.{grown}
use Rattle.ccfg.proofs.schedule_nodes.disk.BytesDiskDisk.sync.Goals as goal

pub invariant_of-self : goal.invariant_of-self
invariant_of-self c =
    let deeds = c.self.inside.deeds.items in
    let bytes = c.self.inside.bytes.items in
    let same = ap (λ (v : Vec ℕ Global). Kept v.items) c.of-bytes.ensures in
    record {
      image = reads_kept (past_of deeds) _ bytes _ (grown deeds _ (Synced c.of-bytes.result) (Kept bytes) c.then-self-inside.ensures same) refl;
      within = c.self.invariant.within;
      fits = c.self.invariant.fits;
    }

pub returns-clause-kept : goal.returns-clause-kept
returns-clause-kept c h =
    let same = ap (λ (v : Vec ℕ Global). Kept v.items) c.of-bytes.ensures in
    grown c.self.inside.deeds.items _ (Synced c.of-bytes.result) (Kept c.self.inside.bytes.items) c.then-self-inside.ensures same
    ∙ ap (λ (d : HeldDisk). Kept d.bytes ∷ d.past) c.self.view_is
