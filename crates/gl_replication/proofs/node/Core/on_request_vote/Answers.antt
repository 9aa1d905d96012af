use Rattle.std.proofs.Common.{ap, sym, ◌∙◌}
use Rattle.gl_rules.specs.Message.{RequestVote}
use Rattle.gl_rules.specs.World.{on_message}
use Rattle.gl_election.specs.Elections.{at_request_vote, position}
use Rattle.gl_election.specs.Bridge.{message_to, step_of}
use Rattle.gl_election.proofs.Bridging.{request_vote_is}
use Rattle.gl_replication.proofs.PeerSteps.{peer_of, refuses, same2, turned}
use Rattle.gl_replication.proofs.Sending.{request_vote_fits, sent_fits}
use Rattle.gl_replication.proofs.node.Core.on_request_vote.Goals as goal

pub returns-in-Ok-clause-steps : goal.returns-in-Ok-clause-steps
returns-in-Ok-clause-steps g c = λ b x n s.
    let p = c.args.self.now.peer in
    let asked = same2 (λ m l. at_request_vote m l c.args.from c.args.view c.args.theirs p) (c.me-me.ensures b _ s.ledger) (c.last_signature-signed.ensures.value b _ s.ledger) in
    turned g.B.Book.stands s c.on_request_vote.new.self c.in-Ok.elected c.settle.result
    (at_request_vote c.me-me.result c.last_signature-signed.result c.args.from c.args.view c.args.theirs p) (on_message b (message_to x c.args.from c.args.view (RequestVote (position c.args.theirs))) n)
    (request_vote_is b x c.args.from c.args.view c.args.theirs p n (peer_of g.B.Book.stands s) ∙ ap (λ t. step_of b t n) (sym asked)) c.in-Ok.ensures.exact c.settle.ensures.settles

pub returns-in-Err-clause-refused : goal.returns-in-Err-clause-refused
returns-in-Err-clause-refused g c = λ b x n s.
    let p = c.args.self.now.peer in
    let asked = same2 (λ m l. at_request_vote m l c.args.from c.args.view c.args.theirs p) (c.me-me.ensures b _ s.ledger) (c.last_signature-signed.ensures.value b _ s.ledger) in
    refuses g.B.Book.stands b n c.refusal_of.result c.in-Err.why
    (at_request_vote c.me-me.result c.last_signature-signed.result c.args.from c.args.view c.args.theirs p) (on_message b (message_to x c.args.from c.args.view (RequestVote (position c.args.theirs))) n)
    c.refusal_of.ensures (request_vote_is b x c.args.from c.args.view c.args.theirs p n (peer_of g.B.Book.stands s) ∙ ap (λ t. step_of b t n) (sym asked)) c.in-Err.ensures.exact

pub returns-in-Ok-clause-fits : goal.returns-in-Ok-clause-fits
returns-in-Ok-clause-fits g c =
    sent_fits (at_request_vote c.me-me.result c.last_signature-signed.result c.args.from c.args.view c.args.theirs c.args.self.now.peer) c.in-Ok.elected c.on_request_vote.new.self c.settle.result.sent (request_vote_fits c.me-me.result c.last_signature-signed.result c.args.from c.args.view c.args.theirs c.args.self.now.peer) c.in-Ok.ensures.exact c.settle.ensures.sent
