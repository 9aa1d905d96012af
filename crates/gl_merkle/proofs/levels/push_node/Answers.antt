use Rattle.std.proofs.Common.{◌≡◌, ℕ, ◌-◌, ◌%◌, ◌<◌, List, [], length, get_or, ap, ◌∙◌, arith}
use Rattle.std.specs.Prelude.{vec_capacity, vec_len}
use Rattle.gl_merkle.specs.Tree.{inner_of}
use Rattle.gl_merkle.specs.Levels.{Level, with_node}
use Rattle.gl_merkle.proofs.WriteLemmas.{nodes_of-step, nodes_of-stop, map-set_same, HasRoom-next, with_node-step, with_node-stop, read_before}
use Rattle.gl_merkle.proofs.levels.push_node.Goals as goal

pub loop-level-preserved : goal.loop-level-preserved
loop-level-preserved c =
    let d = c.level-item.result in
    let w = c.push_reserved.new.self in
    let vs = c.loop-level.levels in
    let k = c.loop-level.level-index in
    let v = get_or vs k d in
    let node = c.loop-level.node in
    let within : k < length vs = omega arith in
    let size = v.ok.0 in
    let odd : vec_len v % 2 ≡ 1 = omega (arith, c.if-count-eq0.false, c.len-count.ensures) in
    let read = ap (λ (xs : List (List ℕ)). get_or xs (c.len-count.result - 1) c.index.result.now) c.push_reserved.ensures.items in
    let last = read_before v.items c.index.result.now node (c.len-count.result - 1) (c.index.ensures ∙ read) (omega (arith, c.len-count.ensures)) in
    let place = ap (λ n. inner_of (get_or v.items (n - 1) []) node) c.len-count.ensures in
    let next = c.inner-node.ensures ∙ ap (λ x. inner_of x node) last ∙ place in
    record {
      nodes = nodes_of-step (λ rs. with_node rs node) (λ rs. with_node rs c.inner-node.result) _ vs k d w within
          (with_node-step v node c.inner-node.result w.items c.push_reserved.ensures.items odd next) c.loop-level.invariant.nodes;
      rooms = map-set_same (λ (u : Level). vec_capacity u) vs k d w within c.push_reserved.ensures.capacity ∙ c.loop-level.invariant.rooms;
      room = HasRoom-next vs k d w within odd c.loop-level.invariant.room;
    }

pub returns-then-count-eq0-clause-nodes : goal.returns-then-count-eq0-clause-nodes
returns-then-count-eq0-clause-nodes c =
    let vs = c.loop-level.levels in
    let k = c.loop-level.level-index in
    let v = get_or vs k c.level-item.result in
    let within : k < length vs = omega arith in
    let even : vec_len v % 2 ≡ 0 = omega (arith, c.if-count-eq0.true, c.len-count.ensures) in
    nodes_of-stop (λ rs. with_node rs c.loop-level.node) _ vs k c.level-item.result c.push_reserved.new.self within
    (with_node-stop v c.loop-level.node c.push_reserved.new.self.items c.push_reserved.ensures.items even) c.loop-level.invariant.nodes

pub returns-then-count-eq0-clause-rooms : goal.returns-then-count-eq0-clause-rooms
returns-then-count-eq0-clause-rooms c =
    let within : c.loop-level.level-index < length c.loop-level.levels = omega arith in
    map-set_same (λ (u : Level). vec_capacity u) c.loop-level.levels c.loop-level.level-index c.level-item.result c.push_reserved.new.self within c.push_reserved.ensures.capacity ∙ c.loop-level.invariant.rooms
