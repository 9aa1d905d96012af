use Rattle.std.proofs.Common.{◌-◌, None, ap, ◌∙◌, arith}
use Rattle.std.proofs.lemmas.Result.{IfOk-weaker}
use Rattle.gl_merkle.specs.Levels.{nodes_of, steps_of}
use Rattle.gl_merkle.proofs.FrontierLemmas.{HoldFirst-sized, leaves_above-count, path-is}
use Rattle.gl_merkle.proofs.frontier.Frontier.path_of.Goals as goal

pub steps_from-requires-clause-within : goal.steps_from-requires-clause-within
steps_from-requires-clause-within c =
    let f = c.self.inside in
    let count = leaves_above-count f.base f.peaks.items f.len f.limit f.levels.items c.self.invariant in
    let high = rw (← c.self.view_is) at c.requires.within in
    rw c.deref.ensures.value (HoldFirst-sized (nodes_of f.levels.items) f.base f.len c.args.size (omega (arith, count, high)) c.self.invariant.sized)

pub returns : goal.returns
returns c =
    let f = c.self.inside in
    let count = leaves_above-count f.base f.peaks.items f.len f.limit f.levels.items c.self.invariant in
    let low = rw (← c.self.view_is) at c.requires.above_base in
    let high = rw (← c.self.view_is) at c.requires.within in
    IfOk-weaker c.steps_from.result _ _
    (λ v e. rw (← c.self.view_is) (λ below is. e ∙ ap (λ vs. steps_of (nodes_of vs) f.base c.args.size (c.args.index - 1) None) c.deref.ensures.value
    ∙ path-is f.base f.peaks.items f.len f.limit c.args.index c.args.size f.levels.items below c.self.invariant c.ranges.size.fits low c.requires.inside (omega (arith, count, high)) is.count is.peaks))
    c.steps_from.ensures
