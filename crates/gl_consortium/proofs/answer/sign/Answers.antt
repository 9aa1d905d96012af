use Rattle.std.proofs.Common.{◌≡◌, Err, sym, ap, arith}
use Rattle.gl_base.specs.declared.or_no_memory.OrNoMemory.TheVariants.{Fault}
use Rattle.gl_journal.specs.declared.fault.JournalFault.TheVariants.{DiskFault}
use Rattle.gl_keyfile.specs.KeyFile.{held}
use Rattle.gl_keyfile.specs.Leaf.{after_leaf}
use Rattle.gl_keyfile.specs.SigningRequest.{use_of}
use Rattle.gl_keyfile.specs.declared.fault.KeyFileFault.TheVariants.{Journal}
use Rattle.gl_journal.proofs.UnwrittenFiles.{none_done}
use Rattle.gl_consortium.specs.declared.fault.SigningFault.TheVariants.{DiskFailed}
use Rattle.gl_consortium.proofs.KeptLeaves.{failed_so, of_keeping}
use Rattle.gl_consortium.proofs.ExpectedOutputLaws.{expected_fault, expected_no_disk, left_of_reported}
use Rattle.gl_consortium.proofs.answer.sign.Goals as goal

pub returns-in-Err-clause-any_moment : goal.returns-in-Err-clause-any_moment
returns-in-Err-clause-any_moment g c h =
    let file = c.args.file in
    none_done g.L.EntryLog.goes_on g.D.Disk.bytes g.D.Disk.past file.journal (g.D.Disk.past c.into_disk.result) (held g.L.EntryLog.frames file) (after_leaf (use_of c.args.signing.now) (held g.L.EntryLog.frames file)) (c.requires.open h).kept (c.requires.open h).state (ap g.D.Disk.past c.into_disk.ensures)

pub returns-in-Err-clause-disk_fault : goal.returns-in-Err-clause-disk_fault
returns-in-Err-clause-disk_fault g c is =
    let same : c.in-Err.error ≡ Fault DiskFailed = cc in
    absurd (expected_no_disk c.args.signing.now (held g.L.EntryLog.frames c.args.file) c.args.text.now (expected_fault c.in-Err.error _ DiskFailed (c.in-Err.ensures (held g.L.EntryLog.frames c.args.file) (sym c.key.ensures) (sym c.reserved.ensures)) same))

pub keeping_fault-requires : goal.keeping_fault-requires
keeping_fault-requires g c =
    let file = c.args.file in
    let reported = c.in-Ok.ensures (held g.L.EntryLog.frames file) (sym c.key.ensures) (sym c.reserved.ensures) in
    let left = left_of_reported c.args.signing.now (held g.L.EntryLog.frames file) c.args.text.now c.in-Ok.reported.items reported in
    of_keeping c.in-Err-take_leaf.error c.in-Err-take_leaf.disk (held g.L.EntryLog.frames file).reserved
    (λ fault back is. c.in-Err-take_leaf.ensures.only fault back (ap Err is))
    (λ back is. let spent = c.in-Err-take_leaf.ensures.exhausted_only (held g.L.EntryLog.frames file).reserved back (ap Err is) in omega (arith, left, spent))

pub returns-in-Err-take_leaf-clause-disk_fault : goal.returns-in-Err-take_leaf-clause-disk_fault
returns-in-Err-take_leaf-clause-disk_fault g c is =
    let file = c.args.file in
    let said = c.in-Ok.ensures (held g.L.EntryLog.frames file) (sym c.key.ensures) (sym c.reserved.ensures) in
    let left = left_of_reported c.args.signing.now (held g.L.EntryLog.frames file) c.args.text.now c.in-Ok.reported.items said in
    let keeping = of_keeping c.in-Err-take_leaf.error c.in-Err-take_leaf.disk (held g.L.EntryLog.frames file).reserved
    (λ fault back is. c.in-Err-take_leaf.ensures.only fault back (ap Err is))
    (λ back is. let spent = c.in-Err-take_leaf.ensures.exhausted_only (held g.L.EntryLog.frames file).reserved back (ap Err is) in omega (arith, left, spent)) in
    let reported : c.keeping_fault.result ≡ Fault DiskFailed = cc in
    let failed = failed_so c.in-Err-take_leaf.error c.keeping_fault.result keeping c.keeping_fault.ensures reported in
    c.in-Err-take_leaf.ensures.disk_fault c.in-Err-take_leaf.disk (ap (λ e. Err (e, c.in-Err-take_leaf.disk)) failed)
