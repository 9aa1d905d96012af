use Rattle.std.proofs.Common.{◌≡◌, ◌≤◌, ◌++◌, ℕ, List, length, true, sym, ap, subst, ◌∙◌}
use Rattle.gl_entry.specs.Entry.{body_bytes, body_limit, is_entry}
use Rattle.gl_entry.specs.declared.entry.Entry.{Entry}
use Rattle.gl_entry.proofs.EntryLaws.{body_within}
use Rattle.gl_store_book.proofs.Batches.{each_at}
use Rattle.ccfg.proofs.FileStarts.{frames_next}
use Rattle.ccfg.proofs.schedule_nodes.start.frames_of.Goals as goal

pub encode-requires : goal.encode-requires
encode-requires c =
    let i = c.loop-entry.entry-index in
    let fit = each_at (λ (e : Entry). is_entry e ≡ true) c.args.entries.now i c.entry-item.result c.requires c.loop-entry-test.true in
    subst (λ (x : Entry). length (body_bytes x) ≤ body_limit) (sym c.entry-item.is) (body_within _ fit)

pub loop-entry-preserved : goal.loop-entry-preserved
loop-entry-preserved c =
    frames_next c.args.entries.now c.loop-entry.entry-index c.entry-item.result c.loop-entry.bytes.items _ _ c.loop-entry-test.true c.entry-item.is c.loop-entry.invariant c.in_ok-encode.ensures
    (c.in_ok-extend_from_slice.ensures.items ∙ ap (λ (l : List ℕ). c.loop-entry.bytes.items ++ l) c.deref.ensures.value)
