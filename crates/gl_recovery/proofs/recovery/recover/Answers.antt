use Rattle.std.proofs.Common.{ap}
use Rattle.gl_keyfile.specs.KeyFile.{held}
use Rattle.gl_keyfile.specs.Leaf.{after_leaf}
use Rattle.gl_keyfile.specs.declared.leaf.LeafUse.TheVariants.{Start}
use Rattle.gl_journal.proofs.UnwrittenFiles.{none_done}
use Rattle.gl_recovery.proofs.recovery.recover.Goals as goal

pub returns-in-Err-clause-any_moment : goal.returns-in-Err-clause-any_moment
returns-in-Err-clause-any_moment g c h =
    let file = c.args.file in
    none_done g.L.EntryLog.goes_on g.D.Disk.bytes g.D.Disk.past file.journal (g.D.Disk.past c.into_disk.result) (held g.L.EntryLog.frames file) (after_leaf Start (held g.L.EntryLog.frames file)) (c.requires.open h).kept (c.requires.open h).state (ap g.D.Disk.past c.into_disk.ensures)
