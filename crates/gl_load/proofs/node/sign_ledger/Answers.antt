use Rattle.std.proofs.lemmas.Result.{on_ok_weaker}
use Rattle.gl_load.proofs.NodeEvents.{signature_done, signature_taken}
use Rattle.gl_load.proofs.node.sign_ledger.Goals as goal

pub apply_event-requires-clause-taken : goal.apply_event-requires-clause-taken
apply_event-requires-clause-taken g c =
    signature_taken g.B.Book.stands c.args.seed.now c.args.count c.args.done c.requires.few c.requires.more c.args.node.now c.requires.leaf

pub returns : goal.returns
returns g c =
    on_ok_weaker c.apply_event.result
    (λ steps. signature_done g.B.Book.stands c.args.seed.now c.args.count c.args.done c.args.node.now c.apply_event.new.node c.apply_event.ensures.going steps c.requires.leaf)
    c.apply_event.ensures.steps
