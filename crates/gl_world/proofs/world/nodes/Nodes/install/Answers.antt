use Rattle.std.proofs.Common.{rules, ◌≡◌, ◌<◌, ◌-◌, length, refl, subst, sym, ◌∙◌}
use Rattle.std.proofs.lemmas.Option.{slice_get_read}
use Rattle.gl_replication.specs.Stands.{held_by}
use Rattle.gl_world.proofs.Worlds.{below_within, install_denied, installs_not, installs_with, is_offered, keeps_with, number_within}
use Rattle.gl_world.proofs.world.nodes.Nodes.install.Goals as goal

pub index-requires : goal.index-requires
index-requires g c =
    let low : c.from.result - 1 < length c.args.self.now.nodes.items = number_within g.N.WorldNode.stands c.args.self.now c.args.from c.from.result c.requires.running c.from.ensures c.requires.from in
    search (rules, low)

pub index_mut-requires : goal.index_mut-requires
index_mut-requires g c =
    let low : c.from-index.result - 1 < length c.args.self.now.nodes.items = number_within g.N.WorldNode.stands c.args.self.now c.args.node c.from-index.result c.requires.running c.from-index.ensures c.requires.node in
    search (rules, low)

pub install-requires : goal.install-requires
install-requires g c =
    let ns = c.args.self.now in
    let at = slice_get_read ns.nodes.items _ (c.from-index.result - 1) _ refl (number_within g.N.WorldNode.stands ns c.args.node c.from-index.result c.requires.running c.from-index.ensures c.requires.node) c.index_mut.ensures.value in
    let giver_at = slice_get_read ns.nodes.items _ (c.from.result - 1) _ refl (number_within g.N.WorldNode.stands ns c.args.from c.from.result c.requires.running c.from.ensures c.requires.from) c.index.ensures in
    record {
      offered = is_offered g.N.WorldNode.stands c.args.node c.args.from c.from-index.result c.from.result c.from-index.ensures c.from.ensures ns _ c.index_mut.result.now c.index.result.now c.requires.node c.requires.from at giver_at
          g.N.Book.Snapshots.shows c.in-Ok.offer (λ b x n s. c.in-Ok.ensures b x n (c.core.ensures b x n s)) c.requires.running;
    }

pub returns-in-Err-clause-refused : goal.returns-in-Err-clause-refused
returns-in-Err-clause-refused g c =
    let ns = c.args.self.now in
    let at = slice_get_read ns.nodes.items _ (c.from-index.result - 1) _ refl (number_within g.N.WorldNode.stands ns c.args.node c.from-index.result c.requires.running c.from-index.ensures c.requires.node) c.index_mut.ensures.value in
    let giver_at = slice_get_read ns.nodes.items _ (c.from.result - 1) _ refl (number_within g.N.WorldNode.stands ns c.args.from c.from.result c.requires.running c.from.ensures c.requires.from) c.index.ensures in
    install_denied g.N.WorldNode.stands c.args.node c.args.from c.from-index.result c.from.result c.from-index.ensures c.from.ensures ns _ c.install.new.self c.index.result.now c.requires.node c.requires.from at giver_at
    g.N.Book.Snapshots.shows c.in-Ok.offer (λ b x n s. c.in-Ok.ensures b x n (c.core.ensures b x n s)) c.in-Err.why c.in-Err.ensures.refused

pub returns-in-Err-clause-err : goal.returns-in-Err-clause-err
returns-in-Err-clause-err g c =
    let ns = c.args.self.now in
    let at = slice_get_read ns.nodes.items _ (c.from-index.result - 1) _ refl (number_within g.N.WorldNode.stands ns c.args.node c.from-index.result c.requires.running c.from-index.ensures c.requires.node) c.index_mut.ensures.value in
    keeps_with g.N.WorldNode.stands (c.from-index.result - 1) ns _ c.install.new.self at _ refl refl refl refl c.in-Err.ensures.err

pub returns-then-not-is_done-clause-moved : goal.returns-then-not-is_done-clause-moved
returns-then-not-is_done-clause-moved g c =
    let ns = c.args.self.now in
    let at = slice_get_read ns.nodes.items _ (c.from-index.result - 1) _ refl (number_within g.N.WorldNode.stands ns c.args.node c.from-index.result c.requires.running c.from-index.ensures c.requires.node) c.index_mut.ensures.value in
    let giver_at = slice_get_read ns.nodes.items _ (c.from.result - 1) _ refl (number_within g.N.WorldNode.stands ns c.args.from c.from.result c.requires.running c.from.ensures c.requires.from) c.index.ensures in
    installs_not g.N.WorldNode.stands c.args.node c.args.from c.from-index.result c.from.result c.from-index.ensures c.from.ensures ns _ c.install.new.self c.index.result.now c.requires.node c.requires.from at giver_at
    g.N.Book.Snapshots.shows c.in-Ok.offer (λ b x n s. c.in-Ok.ensures b x n (c.core.ensures b x n s)) _ c.in-Ok-install.done refl refl refl refl (sym c.is_done.ensures ∙ c.if-not-is_done.true) c.in-Ok-install.ensures.steps

pub index-requires-in-Ok-install : goal.index-requires-in-Ok-install
index-requires-in-Ok-install g c =
    let low : c.from-index.result - 1 < length c.args.self.now.nodes.items = number_within g.N.WorldNode.stands c.args.self.now c.args.node c.from-index.result c.requires.running c.from-index.ensures c.requires.node in
    search (rules, low)

pub index_mut-requires-in-Ok-install : goal.index_mut-requires-in-Ok-install
index_mut-requires-in-Ok-install g c =
    let low : c.from-index.result - 1 < length c.args.self.now.below.items = below_within g.N.WorldNode.stands c.args.self.now c.args.node c.from-index.result c.requires.running c.from-index.ensures c.requires.node in
    search (rules, low)

pub returns-else-not-is_done-clause-moved : goal.returns-else-not-is_done-clause-moved
returns-else-not-is_done-clause-moved g c =
    let ns = c.args.self.now in
    let low = number_within g.N.WorldNode.stands ns c.args.node c.from-index.result c.requires.running c.from-index.ensures c.requires.node in
    let at = slice_get_read ns.nodes.items _ (c.from-index.result - 1) _ refl low c.index_mut.ensures.value in
    let giver_at = slice_get_read ns.nodes.items _ (c.from.result - 1) _ refl (number_within g.N.WorldNode.stands ns c.args.from c.from.result c.requires.running c.from.ensures c.requires.from) c.index.ensures in
    let same : c.index-in-Ok-install.result.now ≡ c.install.new.self = search (rules, low) in
    installs_with g.N.WorldNode.stands c.args.node c.args.from c.from-index.result c.from.result c.from-index.ensures c.from.ensures ns _ c.install.new.self c.index.result.now c.requires.node c.requires.from at giver_at
    g.N.Book.Snapshots.shows c.in-Ok.offer (λ b x n s. c.in-Ok.ensures b x n (c.core.ensures b x n s)) _ c.in-Ok-install.done c.in-Ok-committed.below.items c.base-base.result c.truncate.new.self refl refl refl refl
    (sym c.is_done.ensures ∙ c.if-not-is_done.false) c.truncate.ensures.items c.in-Ok-committed.ensures
    (λ b x n s. c.base-base.ensures b (held_by x n) (c.core-in-Ok-install.ensures b x n (subst (λ d. g.N.WorldNode.stands d b x n) (sym same) s)).ledger)
    c.in-Ok-install.ensures.steps
