use Rattle.std.proofs.Common.{◌≡◌, [], map, take, IsTrue, None}
use Rattle.gl_serve.specs.declared.node.OwnEvent.TheVariants.{Replicate}
use Rattle.gl_serve.specs.Works.{Lead}
use Rattle.gl_serve.specs.Outbox.{Loses}
use Rattle.gl_serve.specs.Running.{Ran, stand}
use Rattle.gl_serve.proofs.work.replicate.Given as goal

abbrev pub invariant-loop-peer : goal.invariant-loop-peer
invariant-loop-peer g l = record {
  ran : Ran g.L.Link.honest g.N.ServedNode.rules l.settings (stand l.fn.node l.fn.session (g.L.Link.past l.fn.link)) (map Lead (map Replicate (take l.peer-index l.settings.peers.now))) []
      (stand l.node l.session (g.L.Link.past l.link)) [] [];
  going : l.session.session_state.over ≡ None;
  inward : g.L.Link.inward l.link ≡ g.L.Link.inward l.fn.link;
  lost : Loses l.fn.session.lost l.session.lost (g.L.Link.send_faults l.fn.link) (g.L.Link.send_faults l.link);
}
