use Rattle.std.proofs.Common.{map, take, List, ℕ, ◌++◌, ◌∷◌, [], sym, ap, ◌∙◌}
use Rattle.gl_journal.specs.Parts.{items_of}
use Rattle.gl_journal.proofs.PartLaws.{items_of_push}
use Rattle.gl_node.specs.Frames.{frame_if_fits}
use Rattle.gl_node.proofs.Framing.{map_more}
use Rattle.gl_node.proofs.frames.frames_of.Goals as goal

pub loop-entry-preserved : goal.loop-entry-preserved
loop-entry-preserved c =
    let i = c.loop-entry.entry-index in
    let so_far = c.loop-entry.frames.items in
    ap items_of c.in_ok-push.ensures.items ∙ items_of_push so_far c.in_ok-frame_of.field-0
    ∙ ap (λ (l : List (List ℕ)). l ++ c.in_ok-frame_of.field-0.items ∷ []) c.loop-entry.invariant
    ∙ ap (λ (f : List ℕ). map frame_if_fits (take i c.args.entries.now) ++ f ∷ []) c.in_ok-frame_of.ensures
    ∙ sym (map_more frame_if_fits c.args.entries.now i c.entry-item.result c.loop-entry-test.true c.entry-item.is)
