use Rattle.std.proofs.Common.{Err, ap}
use Rattle.gl_journal.proofs.UnwrittenFiles.{none_done}
use Rattle.ccfg.specs.KeyFiles.{held}
use Rattle.gl_store_book.specs.Frames.{goes_on_ledger}
use Rattle.ccfg.proofs.SigningLemmas.{long_texts}
use Rattle.ccfg.proofs.plan.signature.plan_with_key.Goals as goal

pub returns-in-Err-TooLong-clause-output : goal.returns-in-Err-TooLong-clause-output
returns-in-Err-TooLong-clause-output g c =
    long_texts c.args.signing.now (held c.args.file) (g.S.Source.left c.args.source.now) (c.in-Err-TooLong.ensures.long (ap Err c.in-Err-TooLong.field-0-is))

pub returns-in-Err-TooLong-clause-any_moment : goal.returns-in-Err-TooLong-clause-any_moment
returns-in-Err-TooLong-clause-any_moment g c = λ honest.
    let file = c.requires.open honest in
    none_done goes_on_ledger g.D.Disk.bytes g.D.Disk.past c.args.file.journal _ (held c.args.file) _ file.kept file.state (ap g.D.Disk.past c.into_disk.ensures)

pub returns-in-Err-Memory-clause-any_moment : goal.returns-in-Err-Memory-clause-any_moment
returns-in-Err-Memory-clause-any_moment g c = λ honest.
    let file = c.requires.open honest in
    none_done goes_on_ledger g.D.Disk.bytes g.D.Disk.past c.args.file.journal _ (held c.args.file) _ file.kept file.state (ap g.D.Disk.past c.into_disk-in-Err-Memory.ensures)

pub returns-in-Err-Failed-clause-any_moment : goal.returns-in-Err-Failed-clause-any_moment
returns-in-Err-Failed-clause-any_moment g c = λ honest.
    let file = c.requires.open honest in
    none_done goes_on_ledger g.D.Disk.bytes g.D.Disk.past c.args.file.journal _ (held c.args.file) _ file.kept file.state (ap g.D.Disk.past c.into_disk-in-Err-Failed.ensures)
