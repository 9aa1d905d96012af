use Rattle.std.proofs.Common.{◌≡◌, ◌-◌, ◌≤◌, ◌∙◌, ℕ, take, ap, subst, arith}
use Rattle.gl_ledger.specs.Past.{last_signed}
use Rattle.gl_audit.specs.Committed.{Held}
use Rattle.gl_store.proofs.KeptEntries.{state_of}
use Rattle.gl_store.proofs.store.Store.signature_upto.Goals as goal

pub returns : goal.returns
returns c =
    let ledger = c.self.inside.tail.entries in
    let low : 0 ≤ c.args.seqno = omega arith in
    let all : c.args.seqno - 0 ≡ c.args.seqno = omega arith in
    subst (λ (h : Held). c.last_signed_up_to.result ≡ last_signed (take c.args.seqno h.ledger)) c.self.view_is
    (c.last_signed_up_to.ensures _ ledger (state_of c.self.inside.tail _ c.state.result.now c.self.invariant c.state.ensures.state) low ∙ ap (λ (n : ℕ). last_signed (take n ledger)) all)
