use Rattle.std.proofs.Common.{refl}
use Rattle.gl_journal.proofs.UnwrittenFiles.{none_done}
use Rattle.gl_store_book.specs.AtOpening.{opened_state}
use Rattle.gl_store_book.specs.Frames.{goes_on_ledger}
use Rattle.gl_store_book.specs.NodeFile.{seen_state}
use Rattle.gl_store_book.proofs.NodeFiles.{read_folds, without_snapshot}
use Rattle.gl_store_book.proofs.node_file.persist.keep_start.Goals as goal

pub returns-in-Err-NoMemory-clause-any_moment : goal.returns-in-Err-NoMemory-clause-any_moment
returns-in-Err-NoMemory-clause-any_moment g c h s starts =
    let d = seen_state c.args.state.now in
    none_done goes_on_ledger g.D.Disk.bytes g.D.Disk.past c.args.journal.now (g.D.Disk.past c.args.journal.now.gated.disk) d (opened_state s d) (c.requires.file.kept h) (c.requires.file.opens h) refl

pub returns-in-Ok-keep_opening-clause-open : goal.returns-in-Ok-keep_opening-clause-open
returns-in-Ok-keep_opening-clause-open g c s starts =
    let d = seen_state c.args.state.now in
    record {
      kept = λ h. c.in-Ok-keep_opening.ensures.open h;
      opens = λ h.
          let alone = without_snapshot (g.D.Disk.bytes c.args.journal.now.gated.disk) d c.requires.none (c.requires.file.opens h) in
          let folds = read_folds c.args.bytes.now c.in-Ok.opening.ledger c.in-Ok.opening.first d c.at_opening-turn.result c.entries.result.now s c.in-Ok.ensures.opened c.at_opening-turn.ensures
          c.entries.ensures.entries alone.0 alone.1 starts in
          c.in-Ok-keep_opening.ensures.kept h d (opened_state s d) (c.requires.file.opens h) folds;
    }

pub returns-in-Ok-keep_opening-clause-any_moment : goal.returns-in-Ok-keep_opening-clause-any_moment
returns-in-Ok-keep_opening-clause-any_moment g c h s starts =
    let d = seen_state c.args.state.now in
    let alone = without_snapshot (g.D.Disk.bytes c.args.journal.now.gated.disk) d c.requires.none (c.requires.file.opens h) in
    let folds = read_folds c.args.bytes.now c.in-Ok.opening.ledger c.in-Ok.opening.first d c.at_opening-turn.result c.entries.result.now s c.in-Ok.ensures.opened c.at_opening-turn.ensures
    c.entries.ensures.entries alone.0 alone.1 starts in
    c.keep_opening.ensures.any_moment h d (opened_state s d) (c.requires.file.opens h) folds

pub returns-in-Err-clause-any_moment : goal.returns-in-Err-clause-any_moment
returns-in-Err-clause-any_moment g c h s starts =
    let d = seen_state c.args.state.now in
    let alone = without_snapshot (g.D.Disk.bytes c.args.journal.now.gated.disk) d c.requires.none (c.requires.file.opens h) in
    let folds = read_folds c.args.bytes.now c.in-Ok.opening.ledger c.in-Ok.opening.first d c.at_opening-turn.result c.entries.result.now s c.in-Ok.ensures.opened c.at_opening-turn.ensures
    c.entries.ensures.entries alone.0 alone.1 starts in
    c.keep_opening.ensures.any_moment h d (opened_state s d) (c.requires.file.opens h) folds
