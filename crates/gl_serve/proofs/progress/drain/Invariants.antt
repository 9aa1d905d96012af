use Rattle.std.proofs.Common.{◌≡◌, ℕ, List, [], ◌++◌, map, length, IsTrue, None}
use Rattle.gl_serve.specs.Kept.{payloads_of, rest_of, stream_at}
use Rattle.gl_serve.specs.Works.{Handle}
use Rattle.gl_serve.specs.Outbox.{Loses}
use Rattle.gl_serve.specs.Running.{Ran, stand}
use Rattle.gl_serve.proofs.progress.drain.Given as goal

abbrev pub invariant-loop-payload : goal.invariant-loop-payload
invariant-loop-payload g l = record {
  done : List (List ℕ);
  payloads : payloads_of (stream_at l.fn.streams l.conn) ≡ done ++ payloads_of (stream_at l.streams l.conn);
  ran : Ran g.L.Link.honest g.N.ServedNode.rules l.settings (stand l.fn.node l.fn.session (g.L.Link.past l.fn.link)) (map (Handle l.conn) done) []
      (stand l.node l.session (g.L.Link.past l.link)) [] [];
  rest : rest_of (stream_at l.fn.streams l.conn) ≡ rest_of (stream_at l.streams l.conn);
  others : (other : ℕ) → (l.conn ≡ other → ⊥) → stream_at l.streams other ≡ stream_at l.fn.streams other;
  going : l.session.session_state.over ≡ None;
  inward : g.L.Link.inward l.link ≡ g.L.Link.inward l.fn.link;
  lost : Loses l.fn.session.lost l.session.lost (g.L.Link.send_faults l.fn.link) (g.L.Link.send_faults l.link);
}

abbrev pub decreases-loop-payload : goal.decreases-loop-payload
decreases-loop-payload g l = length (payloads_of (stream_at l.streams l.conn))
