use Rattle.std.proofs.Common.{None}
use Rattle.gl_serve.specs.Doing.{lines_of}
use Rattle.gl_serve.proofs.WorkingLaws.{went_one, ran_idle, event_of, lead_not, lead_does}
use Rattle.gl_serve.proofs.work.lead.Goals as goal

pub returns-then-not-session-clause-went : goal.returns-then-not-session-clause-went
returns-then-not-session-clause-went g c =
    (ran_idle _ _ _ _ _ _ c.requires.going (lead_not g.N.ServedNode.rules c.args.settings.now (record { node = c.args.node.now; session_state = c.args.session.now.session_state }) c.args.event c.if-not-session.true), c.requires.going)

pub returns-clause-went : goal.returns-clause-went
returns-clause-went g c =
    went_one _ _ _ _ _ _ (lines_of c.args.settings.now.peers.now None c.own-outcome.result) c.finish.result c.requires.going
    (lead_does g.N.ServedNode.rules c.args.settings.now (record { node = c.args.node.now; session_state = c.args.session.now.session_state }) c.args.event _ _ c.if-not-session.false
    (event_of _ _ _ _ c.finish.new.session.session_state c.own-outcome.result c.own-outcome.new.self c.own-outcome.ensures.done c.finish.ensures.session_state))
    c.finish.ensures.sent c.finish.ensures.some c.finish.ensures.going c.finish.ensures.end
