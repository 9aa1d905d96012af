use Rattle.std.proofs.Common.{rules, ◌<◌, ◌≤◌, ◌++◌, List, length, map, refl, ap, ◌∙◌, arith}
use Rattle.std.proofs.lemmas.Option.{slice_get_read}
use Rattle.gl_messages.specs.declared.message.Message.{Message}
use Rattle.gl_election.specs.Bridge.{seen_message}
use Rattle.gl_world.specs.Rules.{bring_few}
use Rattle.gl_world.proofs.Worlds.{core_count, denies_with, keeps_with, moves_with, refuses_as, sends_few, steps_as}
use Rattle.gl_world.proofs.world.nodes.Nodes.act.Goals as goal

pub index-requires : goal.index-requires
index-requires g c =
    let low : c.index_of-index.result < length c.args.self.now.nodes.items = core_count g.N.WorldNode.stands c.args.self.now c.args.event.now c.index_of-index.result c.requires.running c.index_of-index.ensures in
    search (rules, low)

pub index_mut-requires : goal.index_mut-requires
index_mut-requires g c =
    let low : c.index_of-index.result < length c.args.self.now.nodes.items = core_count g.N.WorldNode.stands c.args.self.now c.args.event.now c.index_of-index.result c.requires.running c.index_of-index.ensures in
    search (rules, low)

pub unreachable-requires : goal.unreachable-requires
unreachable-requires g c =
    let ns = c.args.self.now in
    let k = c.index_of-index.result in
    let low = core_count g.N.WorldNode.stands ns c.args.event.now k c.requires.running c.index_of-index.ensures in
    let core_at = slice_get_read ns.nodes.items _ k _ refl low c.index_mut.ensures.value in
    let steps = steps_as g.N.WorldNode.stands c.args.event.now k ns _ c.apply_event.new.self core_at c.index_of-index.ensures c.requires.alone c.in-Ok.done _ _ c.deref.ensures.value (c.deref-2.ensures.value ∙ c.reserve.ensures.items) c.in-Ok.ensures.steps in
    let few = sends_few g.N.WorldNode.stands c.args.event.now k ns _ c.apply_event.new.self core_at c.index_of-index.ensures c.requires.alone g.N.Book.Book.stands c.requires.running c.most_sent-most.result c.in-Ok.done c.index.result.now c.core.result.now
    (slice_get_read ns.nodes.items _ k _ refl low c.index.ensures) c.core.ensures c.most_sent-most.ensures steps in
    let one : length c.into_vec-sent.result.items ≤ c.most_sent-most.result = omega (arith, few, ap length c.into_vec-sent.ensures) in
    search (rules, one)

pub returns-in-Err-clause-refused : goal.returns-in-Err-clause-refused
returns-in-Err-clause-refused g c =
    let ns = c.args.self.now in
    let k = c.index_of-index.result in
    let low = core_count g.N.WorldNode.stands ns c.args.event.now k c.requires.running c.index_of-index.ensures in
    let core_at = slice_get_read ns.nodes.items _ k _ refl low c.index_mut.ensures.value in
    denies_with g.N.WorldNode.stands c.args.event.now k ns _ c.apply_event.new.self core_at c.index_of-index.ensures c.requires.alone c.in-Err.why
    (refuses_as g.N.WorldNode.stands c.args.event.now k ns _ c.apply_event.new.self core_at c.index_of-index.ensures c.requires.alone c.in-Err.why _ _ c.deref.ensures.value (c.deref-2.ensures.value ∙ c.reserve.ensures.items) c.in-Err.ensures.refused)

pub returns-in-Err-clause-err : goal.returns-in-Err-clause-err
returns-in-Err-clause-err g c =
    let ns = c.args.self.now in
    let k = c.index_of-index.result in
    let low = core_count g.N.WorldNode.stands ns c.args.event.now k c.requires.running c.index_of-index.ensures in
    keeps_with g.N.WorldNode.stands k ns _ c.apply_event.new.self (slice_get_read ns.nodes.items _ k _ refl low c.index_mut.ensures.value) _ refl refl refl c.reserve.ensures.items c.in-Err.ensures.err

pub returns-in-Ok-append-clause-moved : goal.returns-in-Ok-append-clause-moved
returns-in-Ok-append-clause-moved g c =
    let ns = c.args.self.now in
    let k = c.index_of-index.result in
    let low = core_count g.N.WorldNode.stands ns c.args.event.now k c.requires.running c.index_of-index.ensures in
    let core_at = slice_get_read ns.nodes.items _ k _ refl low c.index_mut.ensures.value in
    moves_with g.N.WorldNode.stands c.args.event.now k ns _ c.apply_event.new.self core_at c.index_of-index.ensures c.requires.alone _ c.in-Ok.done refl refl refl
    (c.in-Ok-append.ensures.items ∙ ap (λ (l : List Message). l ++ c.into_vec-sent.result.items) c.reserve.ensures.items ∙ ap (λ (l : List Message). ns.sent.items ++ l) c.into_vec-sent.ensures)
    (steps_as g.N.WorldNode.stands c.args.event.now k ns _ c.apply_event.new.self core_at c.index_of-index.ensures c.requires.alone c.in-Ok.done _ _ c.deref.ensures.value (c.deref-2.ensures.value ∙ c.reserve.ensures.items) c.in-Ok.ensures.steps)

pub apply_event-requires-clause-few : goal.apply_event-requires-clause-few
apply_event-requires-clause-few g c =
    let r = c.requires.running.running in
    ap (λ (l : List Message). bring_few (map seen_message l)) (c.deref-2.ensures.value ∙ c.reserve.ensures.items) ∙ ap bring_few r.sent ∙ r.few
