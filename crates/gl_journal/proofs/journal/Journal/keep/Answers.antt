use Rattle.std.proofs.Common.{◌≡◌, Ok, ◌∙◌, ap, rules}
use Rattle.gl_journal.specs.Durable.{durable}
use Rattle.gl_journal.proofs.UnwrittenFiles.{none_done, of_ok}
use Rattle.gl_journal.proofs.journal.Journal.keep.Goals as goal

pub returns-in_err-room-clause-any_moment : goal.returns-in_err-room-clause-any_moment
returns-in_err-room-clause-any_moment g c h goes_on state next opens folds =
    none_done goes_on g.D.Disk.bytes g.D.Disk.past c.args.self.now (g.D.Disk.past c.room.new.self.gated.disk) state next (c.requires.open h) opens (c.room.ensures.past h)

pub returns-clause-kept : goal.returns-clause-kept
returns-clause-kept g c h goes_on state next opens folds =
    let before : durable goes_on (g.D.Disk.bytes c.room.new.self.gated.disk) ≡ Ok state = ap (durable goes_on) (c.room.ensures.bytes h) ∙ opens in
    of_ok c.commit_batch.result _ (search rules) (c.commit_batch.ensures.kept h goes_on state next before folds)

pub returns-clause-after : goal.returns-clause-after
returns-clause-after g c h goes_on state next opens folds =
    let before : durable goes_on (g.D.Disk.bytes c.room.new.self.gated.disk) ≡ Ok state = ap (durable goes_on) (c.room.ensures.bytes h) ∙ opens in
    of_ok c.commit_batch.result _ (search rules) (c.commit_batch.ensures.after h goes_on state next before folds)
