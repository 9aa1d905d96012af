use Rattle.std.proofs.Common.{arith, rules, ◌≤◌, ◌<◌, refl, sym}
use Rattle.gl_world.specs.AtStart.{held_at_start}
use Rattle.gl_world.specs.Group.{book_of}
use Rattle.gl_world.specs.World.{start_of}
use Rattle.gl_world.proofs.Starting.{joining_log, starting_log, stood_joining, stood_starting}
use Rattle.gl_world.proofs.world.start.core_at_start.Goals as goal

pub returns-then-number-settings : goal.returns-then-number-settings
returns-then-number-settings g c =
    let s = c.args.settings.now in
    let low : 2 ≤ c.args.number = search rules in
    let high : c.args.number ≤ s.starting = search rules in
    stood_starting g.B.Book.stands s c.requires.group _ c.args.number low high
    (c.starter.ensures (book_of s) (held_at_start s c.args.number) c.requires.book (start_of s) refl (starting_log s c.requires.group c.args.number high) (sym c.requires.first) (omega arith))

pub returns-else-number-settings : goal.returns-else-number-settings
returns-else-number-settings g c =
    let s = c.args.settings.now in
    let low : s.starting < c.args.number = search rules in
    stood_joining g.B.Book.stands s c.requires.group _ c.args.number low c.requires.high
    (c.joiner.ensures (book_of s) (held_at_start s c.args.number) c.requires.book refl (joining_log s c.requires.group c.args.number low) (omega arith))
