use Rattle.std.proofs.Common.{◌≡◌, [], ◌∷◌, length, ◌∙◌, ap, rules, arith, length-append}
use Rattle.gl_outside.specs.Disk.{LeavesOnly, written}
use Rattle.gl_journal.proofs.Settling.{settled_at_first, begun_kept, begun_torn}
use Rattle.gl_journal.proofs.open.write_header.Goals as goal

pub returns-in_err-room-clause-any_moment : goal.returns-in_err-room-clause-any_moment
returns-in_err-room-clause-any_moment g c h =
    begun_kept (g.D.Disk.past c.args.disk.now) (g.D.Disk.past c.keep.new.disk) (g.D.Disk.past c.room.new.self) (g.D.Disk.bytes c.args.disk.now) (c.requires.empty h) (c.in_ok-keep.ensures.kept h) (c.room.ensures.past h)

pub returns-in_err-map_err-clause-any_moment : goal.returns-in_err-map_err-clause-any_moment
returns-in_err-map_err-clause-any_moment g c h =
    let past = g.D.Disk.past c.args.disk.now in
    let mid = g.D.Disk.past c.room.new.self in
    let base = g.D.Disk.bytes c.room.new.self in
    let begun = begun_kept past (g.D.Disk.past c.keep.new.disk) mid (g.D.Disk.bytes c.args.disk.now) (c.requires.empty h) (c.in_ok-keep.ensures.kept h) (c.room.ensures.past h) in
    let none : base ≡ [] = c.room.ensures.bytes h ∙ c.in_ok-keep.ensures.same h ∙ c.requires.empty h in
    begun_torn past mid (g.D.Disk.past c.write_kept.new.disk) base (length c.header_and_gate.result) none
    (omega (arith, ap length c.header_and_gate.ensures, c.told-header, length-append c.args.header.now (0 ∷ []))) begun (c.write_kept.ensures.torn h)

pub returns-clause-any_moment : goal.returns-clause-any_moment
returns-clause-any_moment g c h =
    let past = g.D.Disk.past c.args.disk.now in
    let mid = g.D.Disk.past c.room.new.self in
    let base = g.D.Disk.bytes c.room.new.self in
    let begun = begun_kept past (g.D.Disk.past c.keep.new.disk) mid (g.D.Disk.bytes c.args.disk.now) (c.requires.empty h) (c.in_ok-keep.ensures.kept h) (c.room.ensures.past h) in
    let none : base ≡ [] = c.room.ensures.bytes h ∙ c.in_ok-keep.ensures.same h ∙ c.requires.empty h in
    begun_torn past mid (g.D.Disk.past c.write_kept.new.disk) base (length c.header_and_gate.result) none
    (omega (arith, ap length c.header_and_gate.ensures, c.told-header, length-append c.args.header.now (0 ∷ []))) begun (c.write_kept.ensures.torn h)

pub returns-clause-settled : goal.returns-clause-settled
returns-clause-settled g c h =
    let header = c.args.header.now in
    let base = g.D.Disk.bytes c.room.new.self in
    let bytes' = g.D.Disk.bytes c.write_kept.new.disk in
    let none : base ≡ [] = c.room.ensures.bytes h ∙ c.in_ok-keep.ensures.same h ∙ c.requires.empty h in
    let is : bytes' ≡ written base 0 c.header_and_gate.result = search rules in
    let only : LeavesOnly (g.D.Disk.past c.write_kept.new.disk) bytes' = search rules in
    settled_at_first header base 8 bytes' (g.D.Disk.past c.write_kept.new.disk) none (omega (arith, c.told-header)) (is ∙ ap (written base 0) c.header_and_gate.ensures) only
