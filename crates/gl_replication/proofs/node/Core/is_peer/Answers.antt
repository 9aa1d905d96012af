use Rattle.std.proofs.Common.{◌≤◌, rules, ◌∙◌, arith}
use Rattle.gl_rules.specs.Identity.{same}
use Rattle.gl_config.specs.Active.{sets_of}
use Rattle.gl_replication.proofs.PeerSteps.{active_now}
use Rattle.gl_replication.proofs.Peers.{peer_is}
use Rattle.gl_replication.proofs.node.Core.is_peer.Goals as goal

pub returns : goal.returns
unfolding same
returns g c = λ b x n s.
    let low : n.base ≤ c.ledger_len-len.result = omega (arith, c.ledger_len-len.ensures.value b _ s.ledger, c.ledger_len-len.ensures.base b _ s.ledger) in
    c.is_to_have.ensures
    ∙ peer_is g.B.Book.stands s c.args.to.now c.me.result (sets_of c.of.result) c.removal.result c.mark.result
    c.eq-is_me.result c.holds-is_active.result c.is_some-is_removed.result c.is_reached-is_marked.result
    c.eq-is_me.ensures (c.me.ensures b _ s.ledger) c.holds-is_active.ensures
    (active_now g.B.Book.stands s c.ledger_len-len.result c.configurations.result.now c.of.result (c.ledger_len-len.ensures.value b _ s.ledger) c.of.ensures (c.configurations.ensures.active b _ s.ledger low))
    (search rules) (c.removal.ensures b _ s.ledger) c.is_reached-is_marked.ensures (c.mark.ensures b _ s.ledger)
