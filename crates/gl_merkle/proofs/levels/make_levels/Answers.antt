use Rattle.std.proofs.Common.{◌≡◌, ℕ, suc, ◌+◌, ◌-◌, ◌%◌, List, [], ◌∷◌, ◌++◌, length, take, get_or, ap, ◌∙◌, arith}
use lib.Count.{ones_step}
use denote.Ref.{Bor}
use Rattle.std.proofs.lemmas.List.{length-take-le}
use Rattle.gl_merkle.specs.Levels.{Level}
use Rattle.gl_merkle.proofs.WriteLemmas.{make_level-even, make_level-odd, make_level-none}
use Rattle.gl_merkle.proofs.levels.make_levels.Goals as goal
use Rattle.gl_merkle.proofs.levels.make_levels.Goals.{then-base-eq1+in_ok-push, else-base-eq1}

pub overflow_sub-greater : goal.overflow_sub-greater
overflow_sub-greater c = omega (arith, ones_step c.loop-height.base, c.loop-height.invariant.count)

pub bounds-peaks-greater : goal.bounds-peaks-greater
bounds-peaks-greater c = omega (arith, ones_step c.loop-height.base, c.loop-height.invariant.count)

pub loop-height-preserved : goal.loop-height-preserved
loop-height-preserved c =
    let more : 64 - c.loop-height._height ≡ suc (64 - (c.loop-height._height + 1)) = omega arith in
    let step = ones_step c.loop-height.base in
    let push = c.in_ok-push-2.ensures.items in
    elim c.if-base-eq1.branch [
      | then-base-eq1+in_ok-push w ↦ (
          let peak = get_or c.loop-height.peaks.now (length c.loop-height.peaks.now - 1) [] in
          let one : c.if-base-eq1.level.items ≡ peak ∷ [] =
          ap (λ (v : Level). v.items) w.level-is ∙ w.in_ok-push.ensures.items ∙ ap (λ (r : List (List ℕ)). r ++ peak ∷ []) c.new-level.ensures.items in
          let rest : c.if-base-eq1.peaks.now ≡ take (length c.loop-height.peaks.now - 1) c.loop-height.peaks.now = ap (λ (r : Bor (List (List ℕ))). r.now) w.peaks-is in
          let size = length-take-le (length c.loop-height.peaks.now - 1) c.loop-height.peaks.now (omega arith) in
          record {
            nodes = make_level-odd _ c.loop-height.levels.items _ c.if-base-eq1.level (64 - (c.loop-height._height + 1)) _ c.loop-height.base c.loop-height.peaks.now c.if-base-eq1.peaks.now
                push one rest more w.if-base-eq1.true c.loop-height.invariant.nodes;
            count = omega (arith, ap length rest, size, c.loop-height.invariant.count, step, w.if-base-eq1.true);
          })
      | else-base-eq1 w ↦ (
          let empty = ap (λ (v : Level). v.items) w.level-is ∙ c.new-level.ensures.items in
          let rest : c.if-base-eq1.peaks.now ≡ c.loop-height.peaks.now = ap (λ (r : Bor (List (List ℕ))). r.now) w.peaks-is in
          let even : c.loop-height.base % 2 ≡ 0 = omega (arith, w.if-base-eq1.false) in
          record {
            nodes = make_level-even _ c.loop-height.levels.items _ c.if-base-eq1.level (64 - (c.loop-height._height + 1)) _ c.loop-height.base c.loop-height.peaks.now c.if-base-eq1.peaks.now
                push empty rest more even c.loop-height.invariant.nodes;
            count = omega (arith, ap length rest, c.loop-height.invariant.count, step, even);
          })
    ]

pub returns : goal.returns
returns c = make_level-none _ c.loop-height.levels.items (64 - c.loop-height._height) c.loop-height.base c.loop-height.peaks.now (omega arith) c.loop-height.invariant.nodes
