use Rattle.std.proofs.Common.{◌≡◌, length, sym, subst, arith}
use Rattle.gl_outside.specs.Disk.{Torn, written}
use Rattle.gl_outside.proofs.Tearing.{tears_from, tears_on, torn_whole}
use Rattle.gl_journal.proofs.Settling.{sync_leaves, sync_only}
use Rattle.gl_journal.proofs.gated.write_kept.Goals as goal

pub returns-in_err-write_at-clause-torn : goal.returns-in_err-write_at-clause-torn
returns-in_err-write_at-clause-torn g c h =
    let base = g.D.Disk.bytes c.args.disk.now in
    let past = g.D.Disk.past c.args.disk.now in
    let at = c.args.at in
    let size = length c.args.piece.now in
    tears_on base at size at size past past (g.D.Disk.past c.write_at.new.self) (omega arith) (omega arith) (tears_from base at size past (c.requires.kept h)) (c.write_at.ensures.past h)

pub returns-clause-torn : goal.returns-clause-torn
returns-clause-torn g c h =
    let base = g.D.Disk.bytes c.args.disk.now in
    let past = g.D.Disk.past c.args.disk.now in
    let at = c.args.at in
    let size = length c.args.piece.now in
    let one = tears_on base at size at size past past (g.D.Disk.past c.write_at.new.self) (omega arith) (omega arith) (tears_from base at size past (c.requires.kept h)) (c.write_at.ensures.past h) in
    let is : g.D.Disk.bytes c.write_at.new.self ≡ written base at c.args.piece.now = c.in_ok-write_at.ensures.written h in
    let here : Torn at size base (g.D.Disk.bytes c.write_at.new.self) = subst (Torn at size base) (sym is) (torn_whole base at c.args.piece.now (c.requires.joined h)) in
    sync_leaves c.sync.result (Torn at size base) past (g.D.Disk.past c.write_at.new.self) (g.D.Disk.past c.sync.new.self) (g.D.Disk.bytes c.write_at.new.self) (c.sync.ensures.kept h) (c.sync.ensures.failed h) one here

pub returns-clause-kept : goal.returns-clause-kept
returns-clause-kept g c h = sync_only c.sync.result (g.D.Disk.past c.write_at.new.self) (g.D.Disk.past c.sync.new.self) (g.D.Disk.bytes c.write_at.new.self) (g.D.Disk.bytes c.sync.new.self) (c.sync.ensures.kept h) (c.sync.ensures.bytes h)
