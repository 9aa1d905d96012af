use Rattle.std.proofs.Common.{◌≡◌, ◌+◌, ◌*◌, ◌<◌, ◌≤◌, ◌^◌, ℕ, length, take, sym, subst}
use Rattle.gl_entry.specs.Entry.{frame_size}
use Rattle.gl_entry.specs.declared.entry.Entry.{Entry}
use Rattle.gl_journal.specs.Records.{records_bytes}
use Rattle.gl_store_book.specs.AtOpening.{append_records}
use Rattle.gl_store_book.proofs.Batches.{writes_small}
use Rattle.gl_store_book.proofs.OpeningSizes.{appends_grow}
use Rattle.gl_store_book.proofs.node_file.opening_batch.appends_len.Goals as goal

pub frame_len-requires-clause-writes : goal.frame_len-requires-clause-writes
frame_len-requires-clause-writes c =
    subst (λ (x : Entry). length x.writes < 2 ^ 32) (sym c.entry-item.is) (writes_small c.args.entries.now c.loop-entry.entry-index c.entry-item.result c.requires.fit c.loop-entry-test.true)

pub loop-entry-preserved : goal.loop-entry-preserved
loop-entry-preserved c =
    let es = c.args.entries.now in
    let i = c.loop-entry.entry-index in
    let e = c.entry-item.result in
    let more = appends_grow es i e c.loop-entry.len c.requires.fit c.loop-entry-test.true c.entry-item.is c.loop-entry.invariant.len c.loop-entry.invariant.small in
    let size : frame_size e ≡ c.frame_len.result = sym c.frame_len.ensures in
    record {
      len = subst (λ (n : ℕ). c.loop-entry.len + (5 + n) ≡ length (records_bytes (append_records (take (i + 1) es)))) size more.0;
      small = subst (λ (n : ℕ). c.loop-entry.len + (5 + n) ≤ (i + 1) * 1048589) size more.1;
    }
