use Rattle.std.proofs.Common.{◌<◌, [], length, refl, ◌∙◌, arith, append-nil}
use Rattle.std.proofs.lemmas.List.{take_all}
use Rattle.gl_merkle.specs.Levels.{Level, AreRoomy}
use Rattle.gl_merkle.proofs.WriteLemmas.{map-set_same, rooms_of-grown, AreRoomy-step, AllZip-le_refl}
use Rattle.gl_merkle.proofs.levels.reserve_levels.Goals as goal

pub loop-level-init : goal.loop-level-init
loop-level-init c = record { nodes = refl; grown = AllZip-le_refl _; room = λ rest h. h }

pub returns-in_err-reserve-clause-nodes : goal.returns-in_err-reserve-clause-nodes
returns-in_err-reserve-clause-nodes c =
    let within : c.loop-level.level-index < length c.loop-level.levels = omega arith in
    map-set_same (λ (u : Level). u.items) c.loop-level.levels c.loop-level.level-index c.level-item.result c.reserve.new.self within c.reserve.ensures.items ∙ c.loop-level.invariant.nodes

pub returns-in_err-reserve-clause-grown : goal.returns-in_err-reserve-clause-grown
returns-in_err-reserve-clause-grown c =
    let within : c.loop-level.level-index < length c.loop-level.levels = omega arith in
    rooms_of-grown _ c.loop-level.levels c.loop-level.level-index c.level-item.result c.reserve.new.self within c.reserve.ensures.capacity c.loop-level.invariant.grown

pub loop-level-preserved : goal.loop-level-preserved
loop-level-preserved c =
    let d = c.level-item.result in
    let w = c.reserve.new.self in
    let vs = c.loop-level.levels in
    let k = c.loop-level.level-index in
    let within : k < length vs = omega arith in
    record {
      nodes = map-set_same (λ (u : Level). u.items) vs k d w within c.reserve.ensures.items ∙ c.loop-level.invariant.nodes;
      grown = rooms_of-grown _ vs k d w within c.reserve.ensures.capacity c.loop-level.invariant.grown;
      room = λ rest h. AreRoomy-step c.loop-level.base c.loop-level.limit k vs w (AreRoomy c.args.base c.args.limit) rest within
          (omega (arith, c.in_ok-reserve.ensures.ok, c.reserve.ensures.len, c.saturating_sub-count.ensures, c.saturating_sub.ensures, c.len.ensures)) c.loop-level.invariant.room h;
    }

pub returns-clause-ok : goal.returns-clause-ok
returns-clause-ok c =
    let all = take_all c.loop-level.level-index c.loop-level.levels (omega arith) in
    rw (all, append-nil) at (c.loop-level.invariant.room [] tt)
