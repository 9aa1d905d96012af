use Rattle.std.proofs.Common.{ap, sym, ◌∙◌}
use Rattle.gl_config.specs.Active.{sets_of}
use Rattle.gl_rules.specs.Message.{ProposeVote}
use Rattle.gl_rules.specs.World.{on_message}
use Rattle.gl_election.specs.Elections.{at_propose_vote}
use Rattle.gl_election.specs.Bridge.{message_to, step_of}
use Rattle.gl_election.proofs.Bridging.{propose_vote_is}
use Rattle.gl_replication.proofs.PeerSteps.{campaigning, peer_of, refuses, turned}
use Rattle.gl_replication.proofs.Sending.{propose_vote_fits, sent_fits}
use Rattle.gl_replication.proofs.node.Core.on_propose_vote.Goals as goal

pub returns-in-Ok-on_propose_vote-clause-steps : goal.returns-in-Ok-on_propose_vote-clause-steps
returns-in-Ok-on_propose_vote-clause-steps g c = λ b x n s.
    let p = c.args.self.now.peer in
    let asked = campaigning g.B.Book.stands s (λ m l a o. at_propose_vote m l a o c.args.view p) c.me-me.result c.last_signature-last.result c.configurations.result.now c.of-active.result c.deref.result.now
    (c.me-me.ensures b _ s.ledger) (c.last_signature-last.ensures.value b _ s.ledger) c.of-active.ensures (c.configurations.ensures.active b _ s.ledger (c.last_signature-last.ensures.base b _ s.ledger)) (c.deref.ensures.value ∙ c.in-Ok.ensures b x n s (c.last_signature-last.ensures.base b _ s.ledger)) in
    turned g.B.Book.stands s c.on_propose_vote.new.self c.in-Ok-on_propose_vote.elected c.settle.result
    (at_propose_vote c.me-me.result c.last_signature-last.result (sets_of c.of-active.result) c.deref.result.now c.args.view p) (on_message b (message_to x c.args.from c.args.view ProposeVote) n)
    (propose_vote_is b x c.args.from c.args.view p n (peer_of g.B.Book.stands s) ∙ ap (λ t. step_of b t n) (sym asked)) c.in-Ok-on_propose_vote.ensures.exact c.settle.ensures.settles

pub returns-clause-refused : goal.returns-clause-refused
returns-clause-refused g c = λ b x n s.
    let p = c.args.self.now.peer in
    let asked = campaigning g.B.Book.stands s (λ m l a o. at_propose_vote m l a o c.args.view p) c.me-me.result c.last_signature-last.result c.configurations.result.now c.of-active.result c.deref.result.now
    (c.me-me.ensures b _ s.ledger) (c.last_signature-last.ensures.value b _ s.ledger) c.of-active.ensures (c.configurations.ensures.active b _ s.ledger (c.last_signature-last.ensures.base b _ s.ledger)) (c.deref.ensures.value ∙ c.in-Ok.ensures b x n s (c.last_signature-last.ensures.base b _ s.ledger)) in
    refuses g.B.Book.stands b n c.refusal_of.result c.in-Err-on_propose_vote.why
    (at_propose_vote c.me-me.result c.last_signature-last.result (sets_of c.of-active.result) c.deref.result.now c.args.view p) (on_message b (message_to x c.args.from c.args.view ProposeVote) n)
    c.refusal_of.ensures (propose_vote_is b x c.args.from c.args.view p n (peer_of g.B.Book.stands s) ∙ ap (λ t. step_of b t n) (sym asked)) c.in-Err-on_propose_vote.ensures.exact

pub returns-in-Ok-on_propose_vote-clause-fits : goal.returns-in-Ok-on_propose_vote-clause-fits
returns-in-Ok-on_propose_vote-clause-fits g c =
    sent_fits (at_propose_vote c.me-me.result c.last_signature-last.result (sets_of c.of-active.result) c.deref.result.now c.args.view c.args.self.now.peer) c.in-Ok-on_propose_vote.elected c.on_propose_vote.new.self c.settle.result.sent (propose_vote_fits c.me-me.result c.last_signature-last.result (sets_of c.of-active.result) c.deref.result.now c.args.view c.args.self.now.peer) c.in-Ok-on_propose_vote.ensures.exact c.settle.ensures.sent
