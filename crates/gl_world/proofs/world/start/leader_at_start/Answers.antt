use Rattle.std.proofs.Common.{refl}
use Rattle.gl_world.specs.AtStart.{held_at_start}
use Rattle.gl_world.specs.Group.{book_of}
use Rattle.gl_world.specs.World.{start_of}
use Rattle.gl_world.proofs.Starting.{starting_log, stood_first}
use Rattle.gl_world.proofs.world.start.leader_at_start.Goals as goal

pub returns : goal.returns
returns g c =
    let s = c.args.settings.now in
    stood_first g.B.Book.stands s c.requires.group _
    (c.leader.ensures (book_of s) (held_at_start s 1) c.requires.book (start_of s) refl (starting_log s c.requires.group 1 c.requires.group.first) refl)
