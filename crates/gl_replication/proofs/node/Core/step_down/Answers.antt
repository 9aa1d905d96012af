use Rattle.std.proofs.Common.{◌≤◌, ap, sym, ◌∙◌, arith}
use Rattle.gl_config.specs.Active.{sets_of}
use Rattle.gl_rules.specs.Elections.{step_down}
use Rattle.gl_election.specs.Elections.{at_step_down}
use Rattle.gl_election.specs.Bridge.{step_of}
use Rattle.gl_election.proofs.Bridging.{step_down_is}
use Rattle.gl_replication.proofs.PeerSteps.{active_now, peer_of, refuses, same2, turned}
use Rattle.gl_replication.proofs.Sending.{step_down_fits, sent_fits}
use Rattle.gl_replication.proofs.node.Core.step_down.Goals as goal

pub returns-in-Ok-clause-steps : goal.returns-in-Ok-clause-steps
returns-in-Ok-clause-steps g c = λ b x n s.
    let low : n.base ≤ c.ledger_len-len.result = omega (arith, c.ledger_len-len.ensures.value b _ s.ledger, c.ledger_len-len.ensures.base b _ s.ledger) in
    let p = c.args.self.now.peer in
    let asked = same2 (λ m a. at_step_down m a c.args.to p) (c.me-me.ensures b _ s.ledger) (active_now g.B.Book.stands s c.ledger_len-len.result c.configurations.result.now c.of-active.result (c.ledger_len-len.ensures.value b _ s.ledger) c.of-active.ensures (c.configurations.ensures.active b _ s.ledger low)) in
    turned g.B.Book.stands s c.step_down.new.self c.in-Ok.elected c.settle.result
    (at_step_down c.me-me.result (sets_of c.of-active.result) c.args.to p) (step_down b x c.args.to n)
    (step_down_is b x c.args.to p n (peer_of g.B.Book.stands s) ∙ ap (λ t. step_of b t n) (sym asked)) c.in-Ok.ensures.exact c.settle.ensures.settles

pub returns-in-Err-clause-refused : goal.returns-in-Err-clause-refused
returns-in-Err-clause-refused g c = λ b x n s.
    let low : n.base ≤ c.ledger_len-len.result = omega (arith, c.ledger_len-len.ensures.value b _ s.ledger, c.ledger_len-len.ensures.base b _ s.ledger) in
    let p = c.args.self.now.peer in
    let asked = same2 (λ m a. at_step_down m a c.args.to p) (c.me-me.ensures b _ s.ledger) (active_now g.B.Book.stands s c.ledger_len-len.result c.configurations.result.now c.of-active.result (c.ledger_len-len.ensures.value b _ s.ledger) c.of-active.ensures (c.configurations.ensures.active b _ s.ledger low)) in
    refuses g.B.Book.stands b n c.refusal_of.result c.in-Err.why
    (at_step_down c.me-me.result (sets_of c.of-active.result) c.args.to p) (step_down b x c.args.to n)
    c.refusal_of.ensures (step_down_is b x c.args.to p n (peer_of g.B.Book.stands s) ∙ ap (λ t. step_of b t n) (sym asked)) c.in-Err.ensures.exact

pub returns-in-Ok-clause-fits : goal.returns-in-Ok-clause-fits
returns-in-Ok-clause-fits g c =
    sent_fits (at_step_down c.me-me.result (sets_of c.of-active.result) c.args.to c.args.self.now.peer) c.in-Ok.elected c.step_down.new.self c.settle.result.sent (step_down_fits c.me-me.result (sets_of c.of-active.result) c.args.to c.args.self.now.peer) c.in-Ok.ensures.exact c.settle.ensures.sent
