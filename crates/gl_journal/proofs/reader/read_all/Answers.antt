use Rattle.std.proofs.Common.{◌∙◌, rules}
use Rattle.gl_outside.specs.Disk.{IsImage}
use Rattle.gl_journal.proofs.Settling.{still_kept}
use Rattle.gl_journal.proofs.reader.read_all.Goals as goal

pub returns-in_err-map_err-clause-images : goal.returns-in_err-map_err-clause-images
returns-in_err-map_err-clause-images g c h =
    let left : IsImage (g.D.Disk.past c.len.new.self) (g.D.Disk.bytes c.len.new.self) = search rules in
    still_kept (g.D.Disk.past c.args.disk.now) (g.D.Disk.past c.len.new.self) (g.D.Disk.past c.read_at.new.self) (g.D.Disk.bytes c.len.new.self) left (c.len.ensures.past h) (c.read_at.ensures.past h ∙ c.in_ok-keep.ensures.kept h)

pub returns-clause-images : goal.returns-clause-images
returns-clause-images g c h =
    let left : IsImage (g.D.Disk.past c.len.new.self) (g.D.Disk.bytes c.len.new.self) = search rules in
    still_kept (g.D.Disk.past c.args.disk.now) (g.D.Disk.past c.len.new.self) (g.D.Disk.past c.read_at.new.self) (g.D.Disk.bytes c.len.new.self) left (c.len.ensures.past h) (c.read_at.ensures.past h ∙ c.in_ok-keep.ensures.kept h)
