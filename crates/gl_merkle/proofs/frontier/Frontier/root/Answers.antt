use Rattle.std.proofs.Common.{None, ap, sym, ◌∙◌, arith}
use Rattle.gl_merkle.specs.Levels.{nodes_of, tail_of}
use Rattle.gl_merkle.proofs.FrontierLemmas.{HoldFirst-sized, leaves_above-count, root-over, root-whole}
use Rattle.gl_merkle.proofs.frontier.Frontier.root.Goals as goal

pub root_of_levels-requires-clause-within : goal.root_of_levels-requires-clause-within
root_of_levels-requires-clause-within c =
    let f = c.self.inside in
    rw c.deref.ensures.value (HoldFirst-sized (nodes_of f.levels.items) f.base f.len f.len (omega arith) c.self.invariant.sized)

pub unwrap-requires : goal.unwrap-requires
unwrap-requires c =
    let f = c.self.inside in
    let count = leaves_above-count f.base f.peaks.items f.len f.limit f.levels.items c.self.invariant in
    let some = rw (← c.self.view_is) at c.requires in
    rw (c.root_of_levels.ensures, c.deref.ensures.value, root-over f.base f.peaks.items f.len f.limit f.levels.items c.self.invariant (omega arith) (omega (arith, count, some)))

pub returns-clause-over : goal.returns-clause-over
returns-clause-over c =
    let f = c.self.inside in
    let count = leaves_above-count f.base f.peaks.items f.len f.limit f.levels.items c.self.invariant in
    let some = rw (← c.self.view_is) at c.requires in
    let read = c.root_of_levels.ensures ∙ ap (λ vs. tail_of (nodes_of vs) f.base f.len None) c.deref.ensures.value in
    let both = sym c.unwrap.ensures ∙ read ∙ root-over f.base f.peaks.items f.len f.limit f.levels.items c.self.invariant (omega arith) (omega (arith, count, some)) in
    rw (← c.self.view_is) cc

pub returns-clause-root : goal.returns-clause-root
returns-clause-root c =
    let f = c.args.self.now in
    λ below is. returns-clause-over c ∙ root-whole f.base f.peaks below f.leaves is.count is.peaks
