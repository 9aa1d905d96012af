use Rattle.std.proofs.Common.{rules, ◌≡◌, Some, None, ap, ◌∙◌}
use Rattle.gl_replication.specs.Pairs.{held, tried, index_of}
use Rattle.gl_replication.proofs.SetPairs.{held_set, tried_set, held_push, tried_push}
use Rattle.gl_replication.proofs.progress.set_seqno.Goals as goal

pub returns-in-Some : goal.returns-in-Some
returns-in-Some c =
    let first : index_of c.args.pairs.now.items c.args.y ≡ Some c.in-Some.index = search rules in
    record {
      held = λ z. held_set c.args.pairs.now.items c.args.y c.args.seqno c.in-Some.index z first;
      tried = λ z. tried_set c.args.pairs.now.items c.args.y c.args.seqno c.in-Some.index z first;
    }

pub returns-in-None : goal.returns-in-None
returns-in-None c =
    let none : index_of c.args.pairs.now.items c.args.y ≡ None = search rules in
    record {
      held = λ z. ap (λ ps. held ps z) c.push_reserved.ensures.items ∙ held_push c.args.pairs.now.items c.args.y c.args.seqno z none;
      tried = λ z. ap (λ ps. tried ps z) c.push_reserved.ensures.items ∙ tried_push c.args.pairs.now.items c.args.y c.args.seqno z none;
    }
