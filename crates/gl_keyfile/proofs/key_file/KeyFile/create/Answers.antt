use Rattle.std.proofs.Common.{◌≡◌, Err, refl, ap}
use Rattle.std.proofs.lemmas.Result.{IfErr-at_err}
use Rattle.gl_base.specs.Answers.{Widens}
use Rattle.gl_base.specs.declared.or_no_memory.OrNoMemory.{OrNoMemory}
use Rattle.gl_base.specs.declared.or_no_memory.OrNoMemory.TheVariants.{NoMemory, Fault}
use Rattle.gl_journal.specs.declared.fault.JournalFault.{JournalFault}
use Rattle.gl_journal.specs.declared.fault.JournalFault.TheVariants.{NotEmpty}
use Rattle.gl_keyfile.specs.declared.fault.KeyFileFault.{KeyFileFault}
use Rattle.gl_keyfile.specs.declared.fault.KeyFileFault.TheVariants.{Journal}
use Rattle.gl_keyfile.proofs.key_file.KeyFile.create.Goals as goal

-- what a fault of the file was as one of its journal
narrowed : (error : OrNoMemory JournalFault) (wider : OrNoMemory KeyFileFault) (fault : JournalFault) → Widens (λ narrow wide. wide ≡ Journal narrow) error wider → wider ≡ Fault (Journal fault) → error ≡ Fault fault
narrowed NoMemory wider fault widens is = cc
narrowed (Fault narrow) wider fault widens is = cc

-- and with the disk that is given back
narrowed_back : {D : Type 0} (error : OrNoMemory JournalFault) (wider : OrNoMemory KeyFileFault) (fault : JournalFault) (disk back : D) → Widens (λ narrow wide. wide ≡ Journal narrow) error wider → ◌≡◌ {A = OrNoMemory KeyFileFault × D} (wider, disk) (Fault (Journal fault), back)
    → ◌≡◌ {A = OrNoMemory JournalFault × D} (error, disk) (Fault fault, back)
narrowed_back {D = D} error wider fault disk back widens is =
    let narrow : error ≡ Fault fault = narrowed error wider fault widens (ap (λ (p : OrNoMemory KeyFileFault × D). p.0) is) in
    let there : disk ≡ back = ap (λ (p : OrNoMemory KeyFileFault × D). p.1) is in
    cc

pub returns-in-Err-clause-not_empty_stays : goal.returns-in-Err-clause-not_empty_stays
returns-in-Err-clause-not_empty_stays g c = λ honest len back is.
    let pair = IfErr-at_err (λ e. ◌≡◌ {A = OrNoMemory KeyFileFault × g.row.D.Denot} (c.widen.result, c.in-Err.disk) e) is refl in
    c.in-Err.ensures.not_empty_stays honest len back (ap Err (narrowed_back c.in-Err.error c.widen.result (NotEmpty len) c.in-Err.disk back c.widen.ensures pair))
