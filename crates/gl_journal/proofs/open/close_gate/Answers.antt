use Rattle.std.proofs.Common.{◌≡◌, [], ◌∷◌, sym, subst, rules, arith}
use Rattle.gl_outside.specs.Disk.{Torn, written}
use Rattle.gl_outside.proofs.Moments.{stayed}
use Rattle.gl_outside.proofs.Tearing.{tears_from, tears_on, torn_whole}
use Rattle.gl_journal.proofs.Settling.{sync_leaves, sync_only}
use Rattle.gl_journal.proofs.open.close_gate.Goals as goal

pub returns-in_err-map_err-clause-torn : goal.returns-in_err-map_err-clause-torn
returns-in_err-map_err-clause-torn g c h only =
    let base = g.D.Disk.bytes c.args.disk.now in
    let past = g.D.Disk.past c.args.disk.now in
    let at = c.args.at in
    let roomed = stayed (Torn at 1 base) past past (g.D.Disk.past c.room.new.self) (tears_from base at 1 past only) (c.room.ensures.past h) in
    tears_on base at 1 at 1 past (g.D.Disk.past c.room.new.self) (g.D.Disk.past c.write_at.new.self) (omega arith) (omega arith) roomed (c.write_at.ensures.past h)

pub returns-clause-torn : goal.returns-clause-torn
returns-clause-torn g c h only =
    let base = g.D.Disk.bytes c.args.disk.now in
    let past = g.D.Disk.past c.args.disk.now in
    let at = c.args.at in
    let roomed = stayed (Torn at 1 base) past past (g.D.Disk.past c.room.new.self) (tears_from base at 1 past only) (c.room.ensures.past h) in
    let one = tears_on base at 1 at 1 past (g.D.Disk.past c.room.new.self) (g.D.Disk.past c.write_at.new.self) (omega arith) (omega arith) roomed (c.write_at.ensures.past h) in
    let is : g.D.Disk.bytes c.write_at.new.self ≡ written base at (0 ∷ []) = search rules in
    let here : Torn at 1 base (g.D.Disk.bytes c.write_at.new.self) = subst (Torn at 1 base) (sym is) (torn_whole base at (0 ∷ []) (c.requires.joined h)) in
    sync_leaves c.keep.result (Torn at 1 base) past (g.D.Disk.past c.write_at.new.self) (g.D.Disk.past c.keep.new.disk) (g.D.Disk.bytes c.write_at.new.self) (c.keep.ensures.kept h) (c.keep.ensures.failed h) one here

pub returns-clause-kept : goal.returns-clause-kept
returns-clause-kept g c h = sync_only c.keep.result (g.D.Disk.past c.write_at.new.self) (g.D.Disk.past c.keep.new.disk) (g.D.Disk.bytes c.write_at.new.self) (g.D.Disk.bytes c.keep.new.disk) (c.keep.ensures.kept h) (c.keep.ensures.same h)
