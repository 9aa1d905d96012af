use Rattle.std.proofs.Common.{◌≡◌, ◌+◌, ◌∙◌, length, ap, arith}
use Rattle.gl_snapshot_body.specs.Body.{no_body}
use Rattle.gl_audit.specs.Committed.{Held}
use Rattle.gl_store.proofs.store.Store.next_seqno.Goals as goal

pub returns : goal.returns
returns c =
    let next : c.next_seqno.result ≡ 0 + length c.self.inside.tail.entries + 1 = c.next_seqno.ensures no_body c.self.invariant.stands in
    let same : c.next_seqno.result ≡ length c.self.inside.tail.entries + 1 = omega (arith, next) in
    same ∙ ap (λ (h : Held). length h.ledger + 1) c.self.view_is
