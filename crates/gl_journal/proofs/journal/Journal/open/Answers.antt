use Rattle.std.proofs.Common.{◌≡◌, ℕ, List, length, refl, sym, ◌∙◌, ap, subst, arith}
use Rattle.gl_journal.specs.Parts.{FileParts}
use Rattle.gl_journal.specs.Durable.{journal_header}
use Rattle.gl_journal.proofs.DurableLaws.{durable_same}
use Rattle.gl_journal.proofs.JournalMoments.{read_leaves, end_leaves}
use Rattle.gl_journal.proofs.PartLaws.{opens_by_parts}
use Rattle.gl_journal.proofs.journal.Journal.open.Goals as goal

pub returns-in-Err-clause-any_moment_err : goal.returns-in-Err-clause-any_moment_err
returns-in-Err-clause-any_moment_err g c h has =
    read_leaves g.L.EntryLog.goes_on (g.D.Disk.bytes c.args.disk) (g.D.Disk.past c.args.disk) (g.D.Disk.past c.read_all.new.disk) (c.read_all.ensures.images h)

pub returns-in-Err-open_file-clause-any_moment_err : goal.returns-in-Err-open_file-clause-any_moment_err
returns-in-Err-open_file-clause-any_moment_err g c h has =
    read_leaves g.L.EntryLog.goes_on (g.D.Disk.bytes c.args.disk) (g.D.Disk.past c.args.disk) (g.D.Disk.past c.read_all.new.disk) (c.read_all.ensures.images h)

pub returns-in-Err-close_end-clause-any_moment_err : goal.returns-in-Err-close_end-clause-any_moment_err
returns-in-Err-close_end-clause-any_moment_err g c h has =
    end_leaves g.L.EntryLog.goes_on (g.D.Disk.bytes c.args.disk) (g.D.Disk.bytes c.read_all.new.disk) c.len.result (g.D.Disk.past c.args.disk) (g.D.Disk.past c.read_all.new.disk) (g.D.Disk.past c.close_end.new.disk) has
    (omega (arith, ap length (c.in-Ok.ensures.bytes h), c.len.ensures)) (c.in-Ok.ensures.same h) (c.read_all.ensures.images h) (c.close_end.ensures.torn h)

pub returns-clause-any_moment : goal.returns-clause-any_moment
returns-clause-any_moment g c h has =
    end_leaves g.L.EntryLog.goes_on (g.D.Disk.bytes c.args.disk) (g.D.Disk.bytes c.read_all.new.disk) c.len.result (g.D.Disk.past c.args.disk) (g.D.Disk.past c.read_all.new.disk) (g.D.Disk.past c.close_end.new.disk) has
    (omega (arith, ap length (c.in-Ok.ensures.bytes h), c.len.ensures)) (c.in-Ok.ensures.same h) (c.read_all.ensures.images h) (c.close_end.ensures.torn h)

pub returns-clause-open : goal.returns-clause-open
returns-clause-open g c h =
    let base = g.D.Disk.bytes c.args.disk in
    let bytes' = g.D.Disk.bytes c.close_end.new.disk in
    let place = c.in-Ok-open_file.found.0 in
    let found = c.in-Ok-open_file.ensures.parts in
    let file : c.deref.result.now ≡ base = c.deref.ensures.value ∙ c.in-Ok.ensures.bytes h in
    let parts : FileParts journal_header base found.0 place found.1 = subst (λ (l : List ℕ). FileParts journal_header l found.0 place found.1) file found.2 in
    let is = c.in-Ok-close_end.ensures.settled h journal_header found.0 found.1 (subst (λ (l : List ℕ). FileParts journal_header l found.0 place found.1) (sym (c.in-Ok.ensures.same h)) parts) in
    (record { header = refl; settled = is.0 }, durable_same g.L.EntryLog.goes_on bytes' base (is.1 ∙ sym (opens_by_parts journal_header base found.0 place found.1 parts)))
