use Rattle.std.proofs.Common.{sym, ◌∙◌, arith}
use Rattle.gl_serve.specs.Doing.{message_line}
use Rattle.gl_serve.proofs.Losing.{loses_then}
use Rattle.gl_serve.proofs.SendingLaws.{on_err, sent_then, sent_is, sent_no_more, sent_prefix, flat_next, flat_parts}
use Rattle.gl_serve.proofs.outbox.post_messages.Goals as goal

pub returns-in_err-post_message-clause-some : goal.returns-in_err-post_message-clause-some
returns-in_err-post_message-clause-some g c = on_err _ (
    sent_prefix _ _ _ _ _ _ _ _ (flat_parts (message_line c.args.peers.now) c.args.messages.now c.loop-message.message-index)
    (sent_no_more _ _ _ _ _ _ _ _ c.loop-message.invariant.sent c.in_err-post_message.ensures.unsent))

pub loop-message-preserved : goal.loop-message-preserved
loop-message-preserved g c = record {
  sent =
      sent_is _ _ _ _ _ _ _ (sym (flat_next (message_line c.args.peers.now) c.args.messages.now c.loop-message.message-index c.message-item.result (omega (arith, c.loop-message-test.true, c.loop-message.auto.message-index-end)) c.message-item.is))
      (sent_then _ _ _ _ _ _ _ _ _ c.loop-message.invariant.sent c.in_ok-post_message.ensures.sent);
  inward = c.in_ok-post_message.ensures.inward ∙ c.loop-message.invariant.inward;
  lost = loses_then _ _ _ _ _ _ c.loop-message.invariant.lost c.in_ok-post_message.ensures.lost;
}
