use Rattle.std.proofs.Common.{◌≤◌, ap, sym, ◌∙◌, arith}
use Rattle.gl_config.specs.Active.{sets_of}
use Rattle.gl_rules.specs.Message.{VoteReply}
use Rattle.gl_rules.specs.World.{on_message}
use Rattle.gl_election.specs.Elections.{at_vote_reply}
use Rattle.gl_election.specs.Bridge.{message_to, step_of}
use Rattle.gl_election.proofs.Bridging.{vote_reply_is}
use Rattle.gl_replication.proofs.PeerSteps.{active_now, peer_of, refuses, turned}
use Rattle.gl_replication.proofs.Sending.{vote_reply_fits, sent_fits}
use Rattle.gl_replication.proofs.node.Core.on_vote_reply.Goals as goal

pub returns-in-Ok-clause-steps : goal.returns-in-Ok-clause-steps
returns-in-Ok-clause-steps g c = λ b x n s.
    let low : n.base ≤ c.ledger_len-len.result = omega (arith, c.ledger_len-len.ensures.value b _ s.ledger, c.ledger_len-len.ensures.base b _ s.ledger) in
    let p = c.args.self.now.peer in
    let asked = ap (λ a. at_vote_reply a c.args.from c.args.view c.args.granted p) (active_now g.B.Book.stands s c.ledger_len-len.result c.configurations.result.now c.of-active.result (c.ledger_len-len.ensures.value b _ s.ledger) c.of-active.ensures (c.configurations.ensures.active b _ s.ledger low)) in
    turned g.B.Book.stands s c.on_vote_reply.new.self c.in-Ok.elected c.settle.result
    (at_vote_reply (sets_of c.of-active.result) c.args.from c.args.view c.args.granted p) (on_message b (message_to x c.args.from c.args.view (VoteReply c.args.granted)) n)
    (vote_reply_is b x c.args.from c.args.view c.args.granted p n (peer_of g.B.Book.stands s) ∙ ap (λ t. step_of b t n) (sym asked)) c.in-Ok.ensures.exact c.settle.ensures.settles

pub returns-in-Err-clause-refused : goal.returns-in-Err-clause-refused
returns-in-Err-clause-refused g c = λ b x n s.
    let low : n.base ≤ c.ledger_len-len.result = omega (arith, c.ledger_len-len.ensures.value b _ s.ledger, c.ledger_len-len.ensures.base b _ s.ledger) in
    let p = c.args.self.now.peer in
    let asked = ap (λ a. at_vote_reply a c.args.from c.args.view c.args.granted p) (active_now g.B.Book.stands s c.ledger_len-len.result c.configurations.result.now c.of-active.result (c.ledger_len-len.ensures.value b _ s.ledger) c.of-active.ensures (c.configurations.ensures.active b _ s.ledger low)) in
    refuses g.B.Book.stands b n c.refusal_of.result c.in-Err.why
    (at_vote_reply (sets_of c.of-active.result) c.args.from c.args.view c.args.granted p) (on_message b (message_to x c.args.from c.args.view (VoteReply c.args.granted)) n)
    c.refusal_of.ensures (vote_reply_is b x c.args.from c.args.view c.args.granted p n (peer_of g.B.Book.stands s) ∙ ap (λ t. step_of b t n) (sym asked)) c.in-Err.ensures.exact

pub returns-in-Ok-clause-fits : goal.returns-in-Ok-clause-fits
returns-in-Ok-clause-fits g c =
    sent_fits (at_vote_reply (sets_of c.of-active.result) c.args.from c.args.view c.args.granted c.args.self.now.peer) c.in-Ok.elected c.on_vote_reply.new.self c.settle.result.sent (vote_reply_fits (sets_of c.of-active.result) c.args.from c.args.view c.args.granted c.args.self.now.peer) c.in-Ok.ensures.exact c.settle.ensures.sent
