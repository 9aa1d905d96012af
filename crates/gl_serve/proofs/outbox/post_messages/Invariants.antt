use Rattle.std.proofs.Common.{◌≡◌, take, IsTrue}
use Rattle.std.specs.List.{flat_map}
use Rattle.gl_serve.specs.Doing.{message_line}
use Rattle.gl_serve.specs.Outbox.{Sends, Loses}
use Rattle.gl_serve.proofs.outbox.post_messages.Given as goal

abbrev pub invariant-loop-message : goal.invariant-loop-message
invariant-loop-message g l = record {
  sent : Sends g.L.Link.honest (g.L.Link.past l.fn.link) l.fn.lost (g.L.Link.past l.link) l.lost (flat_map (message_line l.peers) (take l.message-index l.messages));
  inward : g.L.Link.inward l.link ≡ g.L.Link.inward l.fn.link;
  lost : Loses l.fn.lost l.lost (g.L.Link.send_faults l.fn.link) (g.L.Link.send_faults l.link);
}
