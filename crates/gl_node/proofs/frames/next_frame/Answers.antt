use Rattle.std.proofs.Common.{◌≡◌, ◌<◌, ◌+◌, ◌^◌, IsTrue, List, ℕ, Vec, drop, map, take, ap, ◌∙◌, arith, length-take}
use Rattle.std.specs.declared.alloc.Global.{Global}
use Rattle.std.proofs.lemmas.List.Elements.{All-drop, All-take}
use Rattle.std.proofs.lemmas.Result.{IfOk-weaker}
use Rattle.gl_entry.specs.Entry.{frame_bytes, is_entry}
use Rattle.gl_entry.specs.declared.entry.Entry.{Entry}
use Rattle.gl_journal.specs.Parts.{items_of}
use Rattle.gl_node.specs.Frames.{appends_size, frame_if_fits}
use Rattle.gl_node.proofs.Framing.{first_after, frames_fit, small_one}
use Rattle.gl_node.proofs.frames.next_frame.Goals as goal

pub returns-clause-frames : goal.returns-clause-frames
returns-clause-frames g c =
    let es = c.ledger-entries.result.now in
    let k = c.args.count in
    let Fits : Entry → Type 0 = λ e. IsTrue (is_entry e) in
    let fit = All-take Fits 1 (drop k es) (All-drop Fits k es c.ledger-entries.ensures.fit) in
    let first = first_after c.min.result c.min-2.result k es c.min.ensures c.min-2.ensures in
    IfOk-weaker c.frames_of.result _ (λ (frames : Vec (Vec ℕ Global) Global). items_of frames.items ≡ map frame_bytes (take 1 (drop k (g.B.KeptBook.held c.args.book.now).entries)))
    (λ frames is. is ∙ ap (map frame_if_fits) first ∙ frames_fit (take 1 (drop k es)) fit ∙ ap (λ (l : List Entry). map frame_bytes (take 1 (drop k l))) c.ledger-entries.ensures.entries)
    c.frames_of.ensures

pub returns-clause-small : goal.returns-clause-small
returns-clause-small g c =
    let es = c.ledger-entries.result.now in
    let k = c.args.count in
    let first = first_after c.min.result c.min-2.result k es c.min.ensures c.min-2.ensures in
    IfOk-weaker c.frames_of.result _ (λ (frames : Vec (Vec ℕ Global) Global). 64 + appends_size (items_of frames.items) < 2 ^ 32)
    (λ frames is. let small = small_one (items_of frames.items) (take 1 (drop k es)) (is ∙ ap (map frame_if_fits) first) (omega (arith, length-take 1 (drop k es))) in omega (arith, small))
    c.frames_of.ensures
