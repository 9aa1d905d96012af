use Rattle.std.proofs.Common.{◌≡◌, Err, refl, ap, ◌∙◌}
use Rattle.std.proofs.lemmas.Result.{IfErr-at_err}
use Rattle.gl_base.specs.declared.or_no_memory.OrNoMemory.{OrNoMemory}
use Rattle.gl_base.specs.declared.or_no_memory.OrNoMemory.TheVariants.{Fault}
use Rattle.gl_journal.proofs.UnwrittenFiles.{none_done}
use Rattle.gl_store_book.specs.Frames.{goes_on_ledger}
use Rattle.gl_store_book.specs.FromSnapshot.{installed_state}
use Rattle.gl_store_book.specs.NodeFile.{seen_state}
use Rattle.gl_store_book.specs.declared.node_file.fault.SnapshotOpening.{SnapshotOpening}
use Rattle.gl_store_book.specs.declared.node_file.fault.SnapshotOpening.TheVariants.{DiskFault}
use Rattle.gl_store_book.proofs.FromSnapshots.{behind_folds}
use Rattle.gl_store_book.proofs.node_file.from_snapshot.keep_snapshot.Goals as goal

pub returns-in-Err-NoMemory-clause-any_moment : goal.returns-in-Err-NoMemory-clause-any_moment
returns-in-Err-NoMemory-clause-any_moment g c h s verified =
    let d = seen_state c.args.state.now in
    none_done goes_on_ledger g.D.Disk.bytes g.D.Disk.past c.args.journal.now (g.D.Disk.past c.args.journal.now.gated.disk) d (installed_state s.body d) (c.requires.file.kept h) (c.requires.file.opens h) refl

pub returns-in-Ok-keep_body-clause-open : goal.returns-in-Ok-keep_body-clause-open
returns-in-Ok-keep_body-clause-open g c s verified =
    let d = seen_state c.args.state.now in
    let folds = behind_folds c.args.bytes.now c.deref.result.now c.in-Ok.behind d s c.requires.none c.in-Ok.ensures.behind c.deref.ensures.value verified in
    record {
      kept = λ h. c.in-Ok-keep_body.ensures.open h;
      opens = λ h. c.in-Ok-keep_body.ensures.kept h d (installed_state s.body d) (c.requires.file.opens h) folds;
    }

pub returns-in-Ok-keep_body-clause-any_moment : goal.returns-in-Ok-keep_body-clause-any_moment
returns-in-Ok-keep_body-clause-any_moment g c h s verified =
    let d = seen_state c.args.state.now in
    let folds = behind_folds c.args.bytes.now c.deref.result.now c.in-Ok.behind d s c.requires.none c.in-Ok.ensures.behind c.deref.ensures.value verified in
    c.keep_body.ensures.any_moment h d (installed_state s.body d) (c.requires.file.opens h) folds

pub returns-in-Err-clause-any_moment : goal.returns-in-Err-clause-any_moment
returns-in-Err-clause-any_moment g c h s verified =
    let d = seen_state c.args.state.now in
    let folds = behind_folds c.args.bytes.now c.deref.result.now c.in-Ok.behind d s c.requires.none c.in-Ok.ensures.behind c.deref.ensures.value verified in
    c.keep_body.ensures.any_moment h d (installed_state s.body d) (c.requires.file.opens h) folds

pub returns-in-Err-clause-disk_fault : goal.returns-in-Err-clause-disk_fault
returns-in-Err-clause-disk_fault g c is =
    let fault : c.in-Err.error ≡ Fault DiskFault = IfErr-at_err (λ e. c.in-Err.error ≡ e) is refl in
    c.keep_body.ensures.disk_fault (c.in-Err.is ∙ ap (λ (e : OrNoMemory SnapshotOpening). Err e) fault)
