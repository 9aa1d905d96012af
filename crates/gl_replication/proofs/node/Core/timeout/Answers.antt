use Rattle.std.proofs.Common.{ap, sym, ◌∙◌}
use Rattle.gl_config.specs.Active.{sets_of}
use Rattle.gl_rules.specs.Elections.{timeout}
use Rattle.gl_election.specs.Elections.{at_timeout}
use Rattle.gl_election.specs.Bridge.{step_of}
use Rattle.gl_election.proofs.Bridging.{timeout_is}
use Rattle.gl_replication.proofs.PeerSteps.{campaigning, peer_of, refuses, turned}
use Rattle.gl_replication.proofs.Sending.{timeout_fits, sent_fits}
use Rattle.gl_replication.proofs.node.Core.timeout.Goals as goal

pub returns-in-Ok-timeout-clause-steps : goal.returns-in-Ok-timeout-clause-steps
returns-in-Ok-timeout-clause-steps g c = λ b x n s.
    let p = c.args.self.now.peer in
    let asked = campaigning g.B.Book.stands s (λ m l a o. at_timeout m l a o p) c.me-me.result c.last_signature-last.result c.configurations.result.now c.of-active.result c.deref.result.now
    (c.me-me.ensures b _ s.ledger) (c.last_signature-last.ensures.value b _ s.ledger) c.of-active.ensures (c.configurations.ensures.active b _ s.ledger (c.last_signature-last.ensures.base b _ s.ledger)) (c.deref.ensures.value ∙ c.in-Ok.ensures b x n s (c.last_signature-last.ensures.base b _ s.ledger)) in
    turned g.B.Book.stands s c.timeout.new.self c.in-Ok-timeout.elected c.settle.result
    (at_timeout c.me-me.result c.last_signature-last.result (sets_of c.of-active.result) c.deref.result.now p) (timeout b x n)
    (timeout_is b x p n (peer_of g.B.Book.stands s) ∙ ap (λ t. step_of b t n) (sym asked)) c.in-Ok-timeout.ensures.exact c.settle.ensures.settles

pub returns-clause-refused : goal.returns-clause-refused
returns-clause-refused g c = λ b x n s.
    let p = c.args.self.now.peer in
    let asked = campaigning g.B.Book.stands s (λ m l a o. at_timeout m l a o p) c.me-me.result c.last_signature-last.result c.configurations.result.now c.of-active.result c.deref.result.now
    (c.me-me.ensures b _ s.ledger) (c.last_signature-last.ensures.value b _ s.ledger) c.of-active.ensures (c.configurations.ensures.active b _ s.ledger (c.last_signature-last.ensures.base b _ s.ledger)) (c.deref.ensures.value ∙ c.in-Ok.ensures b x n s (c.last_signature-last.ensures.base b _ s.ledger)) in
    refuses g.B.Book.stands b n c.refusal_of.result c.in-Err-timeout.why
    (at_timeout c.me-me.result c.last_signature-last.result (sets_of c.of-active.result) c.deref.result.now p) (timeout b x n)
    c.refusal_of.ensures (timeout_is b x p n (peer_of g.B.Book.stands s) ∙ ap (λ t. step_of b t n) (sym asked)) c.in-Err-timeout.ensures.exact

pub returns-in-Ok-timeout-clause-fits : goal.returns-in-Ok-timeout-clause-fits
returns-in-Ok-timeout-clause-fits g c =
    sent_fits (at_timeout c.me-me.result c.last_signature-last.result (sets_of c.of-active.result) c.deref.result.now c.args.self.now.peer) c.in-Ok-timeout.elected c.timeout.new.self c.settle.result.sent (timeout_fits c.me-me.result c.last_signature-last.result (sets_of c.of-active.result) c.deref.result.now c.args.self.now.peer) c.in-Ok-timeout.ensures.exact c.settle.ensures.sent
