use Rattle.std.proofs.Common.{◌∙◌, ap, arith}
use Rattle.gl_index.specs.Lists.{list_at}
use Rattle.gl_index.proofs.ListsByNumber.{at_kept}
use Rattle.gl_index.proofs.lists.reserve_at.Goals as goal

pub returns-clause-same : goal.returns-clause-same
returns-clause-same g c = λ n.
    ap (λ ls. list_at ls n) (at_kept c.loop-alloc.lists.items c.args.number c.index_mut.result.now c.reserve.new.self
    (omega (arith, c.loop-alloc.lists.ok.0)) (c.reserve.ensures.items ∙ ap (λ v. v.items) c.index_mut.ensures.value)) ∙ c.loop-alloc.invariant.same n
