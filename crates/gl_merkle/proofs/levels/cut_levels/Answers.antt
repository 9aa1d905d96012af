use Rattle.std.proofs.Common.{ℕ, ◌/◌, ◌<◌, List, ◌∷◌, length, take, get_or, sym, ap, ◌∙◌, arith}
use Rattle.std.specs.Prelude.{vec_capacity}
use Rattle.gl_merkle.specs.Levels.{Level, cut_to}
use Rattle.gl_merkle.proofs.WriteLemmas.{nodes_of-step, map-set_same}
use Rattle.gl_merkle.proofs.levels.cut_levels.Goals as goal

pub loop-level-preserved : goal.loop-level-preserved
loop-level-preserved c =
    let d = c.level-item.result in
    let w = c.truncate.new.self in
    let vs = c.loop-level.levels in
    let k = c.loop-level.level-index in
    let b = c.loop-level.base in
    let n = c.loop-level.to in
    let within : k < length vs = omega arith in
    let cut = c.truncate.ensures.items ∙ ap (λ m. take m (get_or vs k d).items) c.saturating_sub.ensures in
    record {
      nodes = nodes_of-step (cut_to b n) (cut_to (b / 2) (n / 2)) _ vs k d w within
          (λ rs. ap (λ (r : List (List ℕ)). r ∷ cut_to (b / 2) (n / 2) rs) (sym cut)) c.loop-level.invariant.nodes;
      rooms = map-set_same (λ (u : Level). vec_capacity u) vs k d w within c.truncate.ensures.capacity ∙ c.loop-level.invariant.rooms;
    }
