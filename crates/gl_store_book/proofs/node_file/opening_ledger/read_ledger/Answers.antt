use Rattle.std.proofs.Common.{◌≡◌, ◌-◌, ◌++◌, List, length, take, sym, ap, ◌∙◌}
use Rattle.std.specs.List.{flat_map}
use Rattle.gl_entry.specs.Entry.{frame_bytes}
use Rattle.gl_entry.specs.declared.entry.Entry.{Entry}
use Rattle.gl_ledger.specs.Recordings.{last_entry}
use Rattle.gl_ledger.specs.Past.{is_unopened}
use Rattle.gl_store_book.specs.ServiceStart.{start_after}
use Rattle.gl_store_book.proofs.ServiceStarts.{starts_whole, start_step, frames_grow, before_last}
use Rattle.gl_store_book.proofs.node_file.opening_ledger.read_ledger.Goals as goal

pub loop-begun-init : goal.loop-begun-init
loop-begun-init c =
    let none = c.in_ok-ledger.ensures in
    let bytes = c.args.bytes.now in
    record {
      start = starts_whole bytes ∙ ap (λ (l : List Entry). start_after l bytes) (sym none);
      frames = ap (λ (l : List Entry). flat_map frame_bytes l ++ bytes) (sym none);
      begun = ap (λ (l : List Entry). is_unopened (last_entry (take (length l - 1) l))) (sym none);
    }

pub loop-begun-preserved : goal.loop-begun-preserved
loop-begun-preserved c =
    let t = c.in_ok-len.ensures.taken in
    let i = c.loop-begun.invariant in
    let old = c.loop-begun.ledger in
    let new = c.take_frame.new.ledger in
    let rest = c.suffix-rest.result.now in
    let frame : c.loop-begun.rest.now ≡ frame_bytes t.entry ++ rest = t.frame ∙ ap (λ (xs : List _). frame_bytes t.entry ++ xs) (sym c.suffix-rest.ensures) in
    record {
      start = i.start ∙ start_step old t.entry c.loop-begun.rest.now rest t.fits frame ∙ ap (λ (l : List Entry). start_after l rest) (sym t.grown);
      frames = frames_grow old new t.entry c.args.bytes.now c.loop-begun.rest.now rest i.frames frame t.grown;
      begun = c.is_unopened-begun.ensures
          ∙ ap (λ (l : List Entry). is_unopened (last_entry l)) (sym (before_last old new t.entry t.grown));
    }
