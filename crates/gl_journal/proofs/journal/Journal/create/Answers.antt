use Rattle.std.proofs.Common.{◌≡◌, Err, refl, ap}
use Rattle.std.proofs.lemmas.Result.{IfErr-at_err}
use Rattle.gl_outside.proofs.Moments.{stayed}
use Rattle.gl_journal.specs.Durable.{OpensToKeyAlone}
use Rattle.gl_journal.proofs.JournalMoments.{begun_leaves, key_leaves}
use Rattle.gl_journal.proofs.journal.Journal.create.Goals as goal

pub returns-in-Err-clause-not_empty_stays : goal.returns-in-Err-clause-not_empty_stays
returns-in-Err-clause-not_empty_stays g c = λ honest len back is.
    c.in-Err.ensures.not_empty_stays honest len back (ap Err (IfErr-at_err (λ e. c.in-Err.error ≡ e) is refl))

pub returns-in-Err-clause-any_moment_err : goal.returns-in-Err-clause-any_moment_err
returns-in-Err-clause-any_moment_err g c h goes_on =
    begun_leaves goes_on c.args.key (g.D.Disk.past c.args.disk) (g.D.Disk.past c.in-Err.error.1) (c.in-Err.ensures.any_moment_err h)

pub returns-then-is_err-clause-any_moment_err : goal.returns-then-is_err-clause-any_moment_err
returns-then-is_err-clause-any_moment_err g c h goes_on =
    let past = g.D.Disk.past c.args.disk in
    let mid = g.D.Disk.past c.in-Ok.gated.disk in
    let begun = begun_leaves goes_on c.args.key past mid (c.in-Ok.ensures.any_moment h) in
    stayed (OpensToKeyAlone goes_on c.args.key past) past mid (g.D.Disk.past c.room.new.self.gated.disk) begun (c.room.ensures.past h)

pub returns-in-Ok-keep_key-clause-any_moment : goal.returns-in-Ok-keep_key-clause-any_moment
returns-in-Ok-keep_key-clause-any_moment g c h goes_on =
    key_leaves goes_on c.args.key (g.D.Disk.past c.args.disk) (g.D.Disk.past c.in-Ok.gated.disk) (g.D.Disk.past c.room.new.self.gated.disk) (g.D.Disk.past c.keep_key.new.self.gated.disk)
    (c.in-Ok.ensures.any_moment h) (c.room.ensures.past h) (c.keep_key.ensures.any_moment h goes_on)

pub returns-in-Err-keep_key-clause-any_moment_err : goal.returns-in-Err-keep_key-clause-any_moment_err
returns-in-Err-keep_key-clause-any_moment_err g c h goes_on =
    key_leaves goes_on c.args.key (g.D.Disk.past c.args.disk) (g.D.Disk.past c.in-Ok.gated.disk) (g.D.Disk.past c.room.new.self.gated.disk) (g.D.Disk.past c.keep_key.new.self.gated.disk)
    (c.in-Ok.ensures.any_moment h) (c.room.ensures.past h) (c.keep_key.ensures.any_moment h goes_on)
