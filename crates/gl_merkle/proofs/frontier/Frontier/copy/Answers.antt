use Rattle.std.proofs.Common.{ap, ◌∙◌}
use Rattle.gl_merkle.specs.Levels.{nodes_of}
use Rattle.gl_merkle.proofs.FrontierLemmas.{AreLevels-copy}
use Rattle.gl_merkle.proofs.frontier.Frontier.copy.Goals as goal

pub invariant_of-result : goal.invariant_of-result
invariant_of-result c =
    let f = c.self.inside in
    AreLevels-copy f.base f.peaks.items _ f.len f.limit f.levels.items c.in_ok-copy_levels.field-0.items c.self.invariant
    (c.in_ok-from_slice.ensures.items ∙ c.deref.ensures.value)
    (c.in_ok-copy_levels.ensures ∙ ap nodes_of c.deref-2.ensures.value)
