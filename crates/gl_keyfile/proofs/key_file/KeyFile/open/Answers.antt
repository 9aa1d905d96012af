use Rattle.std.proofs.Common.{◌≡◌, refl, sym, ◌∙◌, ap}
use Rattle.std.proofs.lemmas.Result.{IfErr-at_err}
use Rattle.gl_base.specs.Answers.{Widens}
use Rattle.gl_base.specs.declared.or_no_memory.OrNoMemory.{OrNoMemory}
use Rattle.gl_base.specs.declared.or_no_memory.OrNoMemory.TheVariants.{NoMemory, Fault}
use Rattle.gl_journal.specs.declared.fault.JournalFault.{JournalFault}
use Rattle.gl_journal.specs.declared.fault.JournalFault.TheVariants.{DiskFault}
use Rattle.gl_keyfile.specs.declared.fault.KeyFileFault.{KeyFileFault}
use Rattle.gl_keyfile.specs.declared.fault.KeyFileFault.TheVariants.{Journal}
use Rattle.gl_keyfile.proofs.key_file.KeyFile.open.Goals as goal

-- what a fault of its journal is as one of the file
widened : (error : OrNoMemory JournalFault) (wider : OrNoMemory KeyFileFault) (fault : JournalFault) → Widens (λ narrow wide. wide ≡ Journal narrow) error wider → error ≡ Fault fault → wider ≡ Fault (Journal fault)
widened NoMemory wider fault widens is = cc
widened (Fault narrow) wider fault widens is =
    let same : narrow ≡ fault = cc in
    widens.2 ∙ ap (λ (f : KeyFileFault). Fault f) (widens.1 ∙ ap Journal same)

pub returns-in-Err-clause-unopened_bytes : goal.returns-in-Err-clause-unopened_bytes
returns-in-Err-clause-unopened_bytes g c h fault damaged error back is other =
    let pair = IfErr-at_err (λ e. ◌≡◌ {A = OrNoMemory KeyFileFault × g.row.D.Denot} (c.widen.result, c.in-Err.disk) e) is refl in
    let wide : c.widen.result ≡ error = ap (λ (p : OrNoMemory KeyFileFault × g.row.D.Denot). p.0) pair in
    let there : c.in-Err.disk ≡ back = ap (λ (p : OrNoMemory KeyFileFault × g.row.D.Denot). p.1) pair in
    let stays = c.in-Err.ensures.unopened_bytes h fault damaged c.in-Err.error c.in-Err.disk refl
    (λ failed. other (sym wide ∙ widened c.in-Err.error c.widen.result DiskFault c.widen.ensures failed)) in
    ap g.D.Disk.bytes (sym there) ∙ stays
