use Rattle.std.proofs.Common.{refl}
use Rattle.gl_journal.proofs.UnwrittenFiles.{none_done}
use Rattle.gl_store_book.specs.Frames.{goes_on_ledger}
use Rattle.gl_store_book.proofs.node_file.persist.keep_opening.Goals as goal

pub returns-in_err-records-clause-any_moment : goal.returns-in_err-records-clause-any_moment
returns-in_err-records-clause-any_moment g c h state next opens folds =
    none_done goes_on_ledger g.D.Disk.bytes g.D.Disk.past c.args.journal.now (g.D.Disk.past c.args.journal.now.gated.disk) state next (c.requires.open h) opens refl
