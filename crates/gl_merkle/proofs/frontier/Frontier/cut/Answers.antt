use Rattle.std.proofs.Common.{refl, ap, ◌∙◌, arith}
use Rattle.std.proofs.lemmas.List.{with_items_is}
use Rattle.gl_merkle.specs.Levels.{nodes_of, rooms_of, cut_to}
use Rattle.gl_merkle.proofs.FrontierLemmas.{AreLevels-cut, leaves_above-count, leaves_above-cut}
use Rattle.gl_merkle.proofs.frontier.Frontier.cut.Goals as goal

pub invariant_of-self : goal.invariant_of-self
invariant_of-self c =
    let f = c.self.inside in
    let count = leaves_above-count f.base f.peaks.items f.len f.limit f.levels.items c.self.invariant in
    let low = rw (← c.self.view_is) at c.requires.from_base in
    let high = rw (← c.self.view_is) at c.requires.within in
    let items = with_items_is f.levels c.cut_levels.new.levels (omega arith) in
    rw items (AreLevels-cut f.base f.peaks.items f.len f.limit c.args.to f.levels.items c.cut_levels.new.levels c.self.invariant low (omega (arith, count, high))
    (c.cut_levels.ensures.nodes ∙ ap (λ vs. cut_to f.base c.args.to (nodes_of vs)) c.deref_mut.ensures.value) (c.cut_levels.ensures.rooms ∙ ap rooms_of c.deref_mut.ensures.value))

pub returns-clause-leaves : goal.returns-clause-leaves
returns-clause-leaves c =
    let f = c.self.inside in
    let low = rw (← c.self.view_is) at c.requires.from_base in
    let items = with_items_is f.levels c.cut_levels.new.levels (omega arith) in
    let nodes = c.cut_levels.ensures.nodes ∙ ap (λ vs. cut_to f.base c.args.to (nodes_of vs)) c.deref_mut.ensures.value in
    rw (← c.self.view_is) record {
      base = refl;
      peaks = refl;
      leaves_are = rw items (leaves_above-cut f.base f.peaks.items f.len f.limit c.args.to f.levels.items c.cut_levels.new.levels c.self.invariant low nodes);
    }
