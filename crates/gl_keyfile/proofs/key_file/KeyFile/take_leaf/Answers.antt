use Rattle.std.proofs.Common.{refl}
use Rattle.gl_keyfile.specs.KeyFile.{held}
use Rattle.gl_keyfile.specs.Leaf.{after_leaf}
use Rattle.gl_journal.proofs.UnwrittenFiles.{none_done}
use Rattle.gl_keyfile.proofs.Bounds.{durable_within}
use Rattle.gl_keyfile.proofs.key_file.KeyFile.take_leaf.Goals as goal

pub returns-then-leaf-leaf_count-clause-any_moment_err : goal.returns-then-leaf-leaf_count-clause-any_moment_err
returns-then-leaf-leaf_count-clause-any_moment_err g c h =
    let file = c.args.self in
    none_done g.L.EntryLog.goes_on g.D.Disk.bytes g.D.Disk.past file.journal (g.D.Disk.past file.journal.gated.disk) (held g.L.EntryLog.frames file) (after_leaf c.args.leaf_use (held g.L.EntryLog.frames file)) (c.requires.open h).kept (c.requires.open h).state refl

pub returns-then-leaf-leaf_count-clause-within : goal.returns-then-leaf-leaf_count-clause-within
returns-then-leaf-leaf_count-clause-within g c h =
    let file = c.args.self in
    durable_within g.L.EntryLog.goes_on (g.D.Disk.bytes file.journal.gated.disk) (held g.L.EntryLog.frames file) (c.requires.open h).state
