use Rattle.std.proofs.Common.{◌≤◌, ◌+◌, ◌∷◌, length, refl, sym, ap, subst, ◌∙◌, arith}
use Rattle.gl_outside.specs.Disk.{Touched}
use Rattle.gl_outside.proofs.Tearing.{length-written, reads_written}
use Rattle.ccfg.specs.Disk.{HeldDisk, past_of}
use Rattle.ccfg.specs.declared.schedule_nodes.disk.Deed.TheVariants.{Wrote}
use Rattle.ccfg.proofs.DiskLemmas.{grown}
use Rattle.ccfg.proofs.schedule_nodes.disk.BytesDiskDisk.write_at.Goals as goal

pub invariant_of-self : goal.invariant_of-self
invariant_of-self c =
    let n = length c.args.piece.now in
    let joined : c.args.at ≤ length c.self.inside.bytes.items = subst (λ (d : HeldDisk). c.args.at ≤ length d.bytes) (sym c.self.view_is) (c.requires.joined refl) in
    let room : c.args.at + n ≤ c.self.inside.room_end = subst (λ (d : HeldDisk). c.args.at + n ≤ d.room_end) (sym c.self.view_is) c.requires.room in
    let longer_past = grown c.self.inside.deeds.items _ (Wrote c.args.at n) (Touched c.args.at n) c.then-self-inside.ensures refl in
    let longer = ap length c.overwrite.ensures.written ∙ length-written c.self.inside.bytes.items c.args.at c.args.piece.now joined in
    record {
      image = reads_written (past_of c.self.inside.deeds.items) _ c.self.inside.bytes.items _ c.args.at c.args.piece.now joined longer_past c.overwrite.ensures.written c.self.invariant.image;
      within = omega (arith, longer, joined, room, c.self.invariant.within);
      fits = omega (arith, c.self.invariant.fits, c.overwrite.ensures.capacity);
    }

pub returns-clause-past : goal.returns-clause-past
returns-clause-past c h =
    let n = length c.args.piece.now in
    grown c.self.inside.deeds.items _ (Wrote c.args.at n) (Touched c.args.at n) c.then-self-inside.ensures refl
    ∙ ap (λ (d : HeldDisk). Touched c.args.at n ∷ d.past) c.self.view_is
