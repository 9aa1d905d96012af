use Rattle.std.proofs.Common.{length, ap, ◌∙◌, arith}
use Rattle.std.proofs.lemmas.Result.{IfOk-weaker}
use Rattle.gl_merkle.specs.Levels.{nodes_of, level_peaks}
use Rattle.gl_merkle.proofs.FrontierLemmas.{HoldFirst-sized, leaves_above-count, over-whole, peaks-count}
use Rattle.gl_merkle.proofs.frontier.Frontier.peaks.Goals as goal

pub peaks_of_levels-requires-clause-within : goal.peaks_of_levels-requires-clause-within
peaks_of_levels-requires-clause-within c =
    let f = c.self.inside in
    let count = leaves_above-count f.base f.peaks.items f.len f.limit f.levels.items c.self.invariant in
    let high = rw (← c.self.view_is) at c.requires.within in
    rw c.deref.ensures.value (HoldFirst-sized (nodes_of f.levels.items) f.base f.len c.args.size (omega (arith, count, high)) c.self.invariant.sized)

pub returns-clause-count : goal.returns-clause-count
returns-clause-count c =
    let f = c.self.inside in
    IfOk-weaker c.peaks_of_levels.result _ _
    (λ v e. ap length e ∙ ap (λ vs. length (level_peaks (nodes_of vs) f.base c.args.size)) c.deref.ensures.value ∙ peaks-count f.base f.peaks.items f.len f.limit c.args.size f.levels.items c.self.invariant c.ranges.size.fits)
    c.peaks_of_levels.ensures

pub returns-clause-over : goal.returns-clause-over
returns-clause-over c =
    let f = c.self.inside in
    let count = leaves_above-count f.base f.peaks.items f.len f.limit f.levels.items c.self.invariant in
    let low = rw (← c.self.view_is) at c.requires.from_base in
    let high = rw (← c.self.view_is) at c.requires.within in
    IfOk-weaker c.peaks_of_levels.result _ _
    (λ v e. rw (← c.self.view_is) (e ∙ ap (λ vs. level_peaks (nodes_of vs) f.base c.args.size) c.deref.ensures.value ∙ c.self.invariant.over c.args.size low (omega (arith, count, high))))
    c.peaks_of_levels.ensures

pub returns-clause-peaks : goal.returns-clause-peaks
returns-clause-peaks c =
    let f = c.args.self.now in
    IfOk-weaker c.peaks_of_levels.result _ _
    (λ v e below is. e ∙ over-whole f.base c.args.size f.peaks below f.leaves is.count is.peaks c.requires.from_base)
    (returns-clause-over c)
