use Rattle.std.proofs.Common.{◌+◌, None, ◌∷◌, ◌++◌, [], sym, ap, ◌∙◌, arith}
use Rattle.std.proofs.lemmas.List.FromFn.{map-range_with_len_more}
use Rattle.gl_gov_rows.specs.Reading.{node_numbered}
use Rattle.gl_gov_rows.proofs.numbered.no_places.Goals as goal

pub loop-preserved : goal.loop-preserved
loop-preserved c =
    c.in_ok-push.ensures.items ∙ ap (λ xs. xs ++ None ∷ []) c.loop.invariant
    ∙ sym (map-range_with_len_more (node_numbered []) 1 c.loop.counter (1 + c.loop.counter) (omega arith))
