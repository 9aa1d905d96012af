use Rattle.std.proofs.Common.{◌≡◌, List, [], ◌++◌, IsTrue, None}
use Rattle.gl_outside.specs.Link.{Arrival}
use Rattle.gl_serve.specs.Kept.{stream_at}
use Rattle.gl_serve.specs.Works.{script}
use Rattle.gl_serve.specs.Outbox.{Loses}
use Rattle.gl_serve.specs.Running.{Ran, stand}
use Rattle.gl_serve.specs.Progress.{Tracks}
use Rattle.gl_serve.specs.Serves.{first_session_state, calls_after}
use Rattle.gl_serve.proofs.service.serve.Given as goal

abbrev pub invariant-loop : goal.invariant-loop
invariant-loop g l = record {
  served : record {
    came : List Arrival;
    ran : Ran g.L.Link.honest g.N.ServedNode.rules l.settings (record { moment = record { node = l.fn.node; session_state = first_session_state }; past = g.L.Link.past l.fn.link; lost = 0 }) (script l.settings.peers.now [] came) came
        (stand l.node l.session (g.L.Link.past l.link)) [] [];
    tracks : Tracks (stream_at l.streams) came;
    taken : IsTrue g.L.Link.honest → (g.L.Link.inward l.fn.link).coming ≡ came ++ (g.L.Link.inward l.link).coming;
  };
  going : l.session.session_state.over ≡ None;
  calls : (g.L.Link.inward l.link).calls ≡ calls_after l.counter (g.L.Link.inward l.fn.link).calls;
  faults : (g.L.Link.inward l.link).faults ≡ (g.L.Link.inward l.fn.link).faults;
  ended : (g.L.Link.inward l.link).ended ≡ (g.L.Link.inward l.fn.link).ended;
  lost : Loses 0 l.session.lost (g.L.Link.send_faults l.fn.link) (g.L.Link.send_faults l.link);
}
