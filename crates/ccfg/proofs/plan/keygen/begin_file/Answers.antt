use Rattle.std.proofs.Common.{Err, ap, subst}
use Rattle.gl_outside.specs.Disk.{IsImage}
use Rattle.ccfg.proofs.ShownLemmas.{beside}
use Rattle.ccfg.proofs.KeyLemmas.{begin_output, begun_output}
use Rattle.ccfg.proofs.KeyLifeLemmas.{gated}
use Rattle.ccfg.proofs.plan.keygen.begin_file.Goals as goal

pub returns-in-Err-clause-output : goal.returns-in-Err-clause-output
returns-in-Err-clause-output g c =
    begin_output g.D.Disk.honest _ _ c.in-Err.error c.begin_stop.result c.requires.empty
    (λ honest len is. c.in-Err.ensures.not_empty honest len c.in-Err.disk (ap Err (beside _ _ c.in-Err.disk is)))
    c.begin_stop.ensures.not_empty

pub returns-in-Ok-create-clause-output : goal.returns-in-Ok-create-clause-output
returns-in-Ok-create-clause-output g c =
    begun_output g.D.Disk.honest (g.D.Disk.bytes c.args.disk) c.args.key c.in-Ok.line.items c.requires.empty c.in-Ok.ensures

pub returns-in-Ok-create-clause-kept : goal.returns-in-Ok-create-clause-kept
returns-in-Ok-create-clause-kept g c = λ honest image left.
    let file = c.in-Ok-create.file in
    let here = subst (λ (d : g.row.D.Denot). IsImage (g.D.Disk.past d) image) c.into_disk.ensures left in
    (gated g.D.Disk.bytes g.D.Disk.past file.journal image (c.in-Ok-create.ensures.open honest).kept here, c.in-Ok-create.ensures.after honest image here)
