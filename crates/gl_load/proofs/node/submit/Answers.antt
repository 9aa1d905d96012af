use Rattle.std.proofs.Common.{◌<◌, ◌^◌, arith}
use Rattle.std.proofs.lemmas.Result.{on_ok_weaker}
use Rattle.gl_load.proofs.NodeEvents.{next_words, request_done, request_taken}
use Rattle.gl_load.proofs.node.submit.Goals as goal

pub apply_event-requires-clause-taken : goal.apply_event-requires-clause-taken
apply_event-requires-clause-taken g c =
    let few : c.args.done < 2 ^ 32 = omega (arith, c.requires.more, c.requires.few) in
    request_taken g.B.Book.stands c.args.seed.now c.args.count c.args.done c.requires.few c.requires.more c.args.node.now c.in_ok-request.request
    (c.in_ok-request.ensures.request c.args.seed.now c.args.done few c.requires.after.words_are) c.requires.after.after

pub returns-clause-unsigned : goal.returns-clause-unsigned
returns-clause-unsigned g c =
    let few : c.args.done < 2 ^ 32 = omega (arith, c.requires.more, c.requires.few) in
    let is = c.in_ok-request.ensures.request c.args.seed.now c.args.done few c.requires.after.words_are in
    on_ok_weaker c.apply_event.result
    (λ steps. request_done g.B.Book.stands c.args.seed.now c.args.count c.args.done c.args.node.now c.apply_event.new.node c.apply_event.ensures.going c.in_ok-request.request is steps c.requires.after.after)
    c.apply_event.ensures.steps

pub returns-clause-words : goal.returns-clause-words
returns-clause-words g c =
    let few : c.args.done < 2 ^ 32 = omega (arith, c.requires.more, c.requires.few) in
    let is = c.in_ok-request.ensures.words c.args.seed.now c.args.done few c.requires.after.words_are in
    on_ok_weaker c.apply_event.result (λ steps. next_words c.args.seed.now c.args.done _ is) c.apply_event.ensures.steps
