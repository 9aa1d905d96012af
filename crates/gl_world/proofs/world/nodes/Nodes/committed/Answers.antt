use Rattle.std.proofs.Common.{rules, ◌<◌, ◌-◌, ◌++◌, List, length, refl, ap, ◌∙◌}
use Rattle.std.proofs.lemmas.Option.{slice_get_read}
use Rattle.std.proofs.lemmas.Result.{IfOk-weaker}
use Rattle.gl_entry.specs.declared.entry.Entry.{Entry}
use Rattle.gl_world.proofs.Worlds.{below_within, number_within, whole_ledger}
use Rattle.gl_world.proofs.world.nodes.Nodes.committed.Goals as goal

pub index-requires : goal.index-requires
index-requires g c =
    let low : c.from-index.result - 1 < length c.args.self.now.nodes.items = number_within g.N.WorldNode.stands c.args.self.now c.args.number c.from-index.result c.requires.running c.from-index.ensures c.requires.here in
    search (rules, low)

pub index-requires-2 : goal.index-requires-2
index-requires-2 g c =
    let low : c.from-index.result - 1 < length c.args.self.now.below.items = below_within g.N.WorldNode.stands c.args.self.now c.args.number c.from-index.result c.requires.running c.from-index.ensures c.requires.here in
    search (rules, low)

pub returns : goal.returns
returns g c =
    let ns = c.args.self.now in
    let k = c.from-index.result in
    let at = slice_get_read ns.nodes.items _ (k - 1) _ refl (number_within g.N.WorldNode.stands ns c.args.number k c.requires.running c.from-index.ensures c.requires.here) c.index.ensures in
    let kept_at = slice_get_read ns.below.items _ (k - 1) _ refl (below_within g.N.WorldNode.stands ns c.args.number k c.requires.running c.from-index.ensures c.requires.here) c.index-2.ensures in
    IfOk-weaker c.joined.result _ _ (λ all is. whole_ledger g.N.WorldNode.stands ns c.args.number k c.index.result.now c.index-2.result.now c.committed.result.now all.items c.from-index.ensures c.requires.here at kept_at
    (is ∙ ap (λ (l : List Entry). l ++ c.committed.result.now) c.deref.ensures.value)
    (λ b x n s. c.committed.ensures b x n (c.core-core.ensures b x n s))) c.joined.ensures
