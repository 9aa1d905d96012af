use Rattle.std.proofs.lemmas.Result.{on_ok_weaker}
use Rattle.gl_load.proofs.NodeEvents.{commit_done, commit_taken}
use Rattle.gl_load.proofs.node.commit.Goals as goal

pub apply_event-requires-clause-taken : goal.apply_event-requires-clause-taken
apply_event-requires-clause-taken g c =
    commit_taken g.B.Book.stands c.args.seed.now c.args.count c.args.done c.requires.few c.requires.more c.args.node.now c.requires.signed

pub returns : goal.returns
returns g c =
    on_ok_weaker c.apply_event.result
    (λ steps. commit_done g.B.Book.stands c.args.seed.now c.args.count c.args.done c.args.node.now c.apply_event.new.node c.apply_event.ensures.going c.requires.signs steps c.requires.signed)
    c.apply_event.ensures.steps
