use Rattle.std.proofs.Common.{ℕ, ◌+◌, ◌^◌, ◌≤◌, length, ap, arith}
use Rattle.gl_entry.specs.Entry.{frame_bytes}
use Rattle.gl_load.proofs.Auditing.{counted}
use Rattle.gl_load.proofs.totals.Totals.add.Goals as goal

pub audit-requires : goal.audit-requires
audit-requires c = (c.requires.next.0, c.requires.next.1.state, c.requires.next.2)

pub returns : goal.returns
returns c = λ ledger at.
    let t = c.args.self.now in
    let e = c.args.entry.now in
    let state = c.in_ok-audit.ensures ledger at.state in
    let signatures = ap (λ (k : ℕ). t.signatures + k) c.signature_count.ensures in
    let bytes = ap (λ (k : ℕ). t.bytes + k) c.frame_len.ensures.exact in
    let small : length (frame_bytes e) ≤ 2 ^ 21 = omega (arith, c.frame_len.ensures.exact, c.frame_len.ensures.small) in
    counted ledger e t _ at state signatures bytes small
