use Rattle.std.proofs.Common.{None, arith, ◌<◌, ◌≤◌, ◌+◌}
use Rattle.gl_serve.specs.Doing.{lines_of}
use Rattle.gl_serve.proofs.WorkingLaws.{went_one, ran_idle, event_of, beat_leads, beat_counts, beat_out}
use Rattle.gl_serve.proofs.work.beat.Goals as goal

pub returns-then-session-clause-went : goal.returns-then-session-clause-went
returns-then-session-clause-went g c =
    (ran_idle _ _ _ _ _ _ c.requires.going (beat_leads g.N.ServedNode.rules c.args.settings.now (record { node = c.args.node.now; session_state = c.args.session.now.session_state }) _ c.leads-session.ensures c.if-session.true), c.requires.going)

pub returns-then-session-settings-clause-went : goal.returns-then-session-settings-clause-went
returns-then-session-settings-clause-went g c =
    let early : c.args.session.now.session_state.idle + 1 < c.args.settings.now.ticks = omega (arith, c.if-session-settings.true, c.requires.ticks) in
    (ran_idle _ _ _ _ _ _ c.requires.going (beat_counts g.N.ServedNode.rules c.args.settings.now (record { node = c.args.node.now; session_state = c.args.session.now.session_state }) _ c.leads-session.ensures c.if-session.false early), c.requires.going)

pub returns-clause-went : goal.returns-clause-went
returns-clause-went g c =
    let late : c.args.settings.now.ticks ≤ c.args.session.now.session_state.idle + 1 = omega (arith, c.if-session-settings.false, c.requires.ticks) in
    went_one _ _ _ _ _ _ (lines_of c.args.settings.now.peers.now None c.own-outcome.result) c.finish.result c.requires.going
    (beat_out g.N.ServedNode.rules c.args.settings.now (record { node = c.args.node.now; session_state = c.args.session.now.session_state }) _ _ _ c.leads-session.ensures c.if-session.false late
    (event_of _ _ _ _ c.finish.new.session.session_state c.own-outcome.result c.own-outcome.new.self c.own-outcome.ensures.done c.finish.ensures.session_state))
    c.finish.ensures.sent c.finish.ensures.some c.finish.ensures.going c.finish.ensures.end
