use Rattle.std.proofs.Common.{◌≡◌, ◌≤◌, [], ◌∷◌, length, refl, arith}
use Rattle.gl_outside.specs.Disk.{LeavesOnly, written}
use Rattle.gl_journal.proofs.Settling.{settled_by_gate, settled_by_closing, both_ok}
use Rattle.gl_journal.proofs.open.close_end.Goals as goal

pub returns-then-place-len-clause-settled : goal.returns-then-place-len-clause-settled
returns-then-place-len-clause-settled g c h header payloads rest parts =
    settled_by_gate header (g.D.Disk.bytes c.args.disk.now) payloads c.args.place rest (g.D.Disk.bytes c.args.disk.now) (g.D.Disk.past c.args.disk.now) parts (omega (arith, c.requires.size h)) refl (c.requires.kept h)

pub returns-clause-settled : goal.returns-clause-settled
returns-clause-settled g c h header payloads rest parts =
    let base = g.D.Disk.bytes c.args.disk.now in
    let bytes' = g.D.Disk.bytes c.close_gate.new.disk in
    let past' = g.D.Disk.past c.close_gate.new.disk in
    let above : length base ≤ c.args.place = omega (arith, c.requires.size h) in
    both_ok c.close_gate.result (c.close_gate.ensures.written h) (c.close_gate.ensures.kept h)
    (λ (is : bytes' ≡ written base c.args.place (0 ∷ [])) (only : LeavesOnly past' bytes'). settled_by_closing header base payloads c.args.place rest bytes' past' parts above is only)
