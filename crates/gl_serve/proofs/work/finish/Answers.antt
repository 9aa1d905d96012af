use Rattle.std.proofs.Common.{List, ◌++◌, sym, ap, ◌∙◌}
use Rattle.std.specs.List.{flat_map}
use Rattle.gl_messages.specs.declared.message.Message.{Message}
use Rattle.gl_serve.specs.Doing.{lines_of, message_line, answer_line}
use Rattle.gl_serve.proofs.SendingLaws.{on_err, sent_then, sent_is, some_more, sent_prefix, sent_no_more}
use Rattle.gl_serve.proofs.work.finish.Goals as goal

pub returns-in_err-post_messages-in-Done-clause-some :
    goal.returns-in_err-post_messages-in-Done-clause-some
returns-in_err-post_messages-in-Done-clause-some g c =
    let is = ap (lines_of c.args.settings.now.peers.now c.args.asker) c.in-Done.is ∙ ap (λ (ms : List Message). flat_map (message_line c.args.settings.now.peers.now) ms ++ answer_line c.args.asker c.in-Done.answer) (sym c.as_slice.ensures) in
    on_err _ (some_more _ _ _ _ _ _ _ _ is c.in_err-post_messages-in-Done.ensures.some)

pub returns-in_err-post_answer-in-Done-clause-some :
    goal.returns-in_err-post_answer-in-Done-clause-some
returns-in_err-post_answer-in-Done-clause-some g c =
    let is = ap (lines_of c.args.settings.now.peers.now c.args.asker) c.in-Done.is ∙ ap (λ (ms : List Message). flat_map (message_line c.args.settings.now.peers.now) ms ++ answer_line c.args.asker c.in-Done.answer) (sym c.as_slice.ensures) in
    on_err _ (sent_prefix _ _ _ _ _ _ _ _ is (sent_no_more _ _ _ _ _ _ _ _ c.in_ok-post_messages-in-Done.ensures.sent c.in_err-post_answer-in-Done.ensures.unsent))

pub returns-in_ok-post_answer-in-Done-clause-sent :
    goal.returns-in_ok-post_answer-in-Done-clause-sent
returns-in_ok-post_answer-in-Done-clause-sent g c =
    let is = ap (lines_of c.args.settings.now.peers.now c.args.asker) c.in-Done.is ∙ ap (λ (ms : List Message). flat_map (message_line c.args.settings.now.peers.now) ms ++ answer_line c.args.asker c.in-Done.answer) (sym c.as_slice.ensures) in
    sent_is _ _ _ _ _ _ _ (sym is) (sent_then _ _ _ _ _ _ _ _ _ c.in_ok-post_messages-in-Done.ensures.sent c.in_ok-post_answer-in-Done.ensures.sent)
