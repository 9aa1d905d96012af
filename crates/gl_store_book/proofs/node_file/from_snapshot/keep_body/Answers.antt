use Rattle.gl_store_book.specs.Frames.{goes_on_ledger}
use Rattle.gl_store_book.proofs.FromSnapshots.{folds_alone}
use Rattle.gl_store_book.proofs.node_file.from_snapshot.keep_body.Goals as goal

pub returns-in-Ok-clause-kept : goal.returns-in-Ok-clause-kept
returns-in-Ok-clause-kept g c h state next opens folds =
    c.in-Ok.ensures.kept h goes_on_ledger state next opens (folds_alone state next c.args.body.now folds)
