use Rattle.std.proofs.Common.{ap, ◌∙◌, arith}
use Rattle.std.proofs.lemmas.List.{with_items_is}
use Rattle.gl_merkle.specs.Levels.{nodes_of, rooms_of}
use Rattle.gl_merkle.proofs.WriteLemmas.{AreRoomy-grown}
use Rattle.gl_merkle.proofs.FrontierLemmas.{AreLevels-room}
use Rattle.gl_merkle.proofs.frontier.Frontier.reserve.Goals as goal

pub invariant_of-self : goal.invariant_of-self
invariant_of-self c =
    let f = c.self.inside in
    let items = with_items_is f.levels c.reserve_levels.new.levels (omega arith) in
    let old = c.deref_mut.ensures.value in
    rw items (AreLevels-room f.base f.peaks.items f.len f.limit f.limit f.levels.items c.reserve_levels.new.levels c.self.invariant c.self.invariant.within (omega arith)
    (c.reserve_levels.ensures.nodes ∙ ap nodes_of old)
    (AreRoomy-grown f.base f.limit (rooms_of c.deref_mut.result.now) _ c.reserve_levels.ensures.grown (rw old c.self.invariant.roomy)))
