use Rattle.std.proofs.Common.{◌≡◌, ◌+◌, ◌∷◌, ◌++◌, ℕ, suc, length, slice_get, sym, ap, subst, ◌∙◌, arith}
use Rattle.std.specs.Vec.Iter.{into_iter_items}
use Rattle.gl_world.specs.Keyed.{IsKeyOf}
use Rattle.gl_world.proofs.Starting.{suffix}
use Rattle.ccfg.proofs.schedule_nodes.opening_stores.joining_books.Goals as goal

pub add_joining-requires-clause-node : goal.add_joining-requires-clause-node
add_joining-requires-clause-node c =
    let s = c.args.settings.now in
    let at = c.loop-node in
    let next : into_iter_items at.node-iterator ≡ c.in-Some.node ∷ into_iter_items c.next.new.self = c.in-Some.ensures.steps.0 in
    let all : at.yielded ++ c.in-Some.node ∷ into_iter_items c.next.new.self ≡ c.args.keys.items =
    ap (λ l. at.yielded ++ l) (sym next) ∙ at.invariant.0 ∙ c.into_iter-node-iterator.ensures.into_iter_gives.0 in
    subst (λ (k : ℕ). IsKeyOf s k c.in-Some.node) (let count = at.invariant.2 in let n : suc (length at.yielded) ≡ length at.books.items + 1 = omega (arith, count) in n)
    (c.requires.each (length at.yielded) c.in-Some.node
    (ap (λ l. slice_get l (length at.yielded)) (sym all) ∙ suffix at.yielded (into_iter_items c.next.new.self) c.in-Some.node))
