use Rattle.std.proofs.Common.{◌<◌, ◌^◌, length, sym, subst, ◌∙◌, refl}
use Rattle.gl_entry.specs.declared.entry.Entry.{Entry}
use Rattle.gl_journal.specs.RecordView.{record_values}
use Rattle.gl_store_book.proofs.Batches.{writes_small}
use Rattle.gl_store_book.proofs.OpeningSizes.{in_prefix, put_next}
use Rattle.gl_store_book.proofs.node_file.opening_batch.opening_records.Goals as goal

pub frame_len-len-requires-clause-writes : goal.frame_len-len-requires-clause-writes
frame_len-len-requires-clause-writes c =
    subst (λ (x : Entry). length x.writes < 2 ^ 32) (sym c.entry-item.is) (writes_small c.args.entries.now c.loop-entry.entry-index c.entry-item.result c.requires.fit c.loop-entry-test.true)

pub prefix-requires : goal.prefix-requires
prefix-requires c =
    (in_prefix c.args.entries.now c.loop-entry.entry-index c.entry-item.result c.loop-entry.rest.now c.frame_len-len.result c.loop-entry-test.true c.entry-item.is c.loop-entry.invariant.left c.frame_len-len.ensures).within

pub suffix-rest-requires : goal.suffix-rest-requires
suffix-rest-requires c =
    (in_prefix c.args.entries.now c.loop-entry.entry-index c.entry-item.result c.loop-entry.rest.now c.frame_len-len.result c.loop-entry-test.true c.entry-item.is c.loop-entry.invariant.left c.frame_len-len.ensures).within

pub loop-entry-preserved : goal.loop-entry-preserved
loop-entry-preserved c =
    let es = c.args.entries.now in
    let i = c.loop-entry.entry-index in
    let e = c.entry-item.result in
    let low = c.loop-entry-test.true in
    let there = in_prefix es i e c.loop-entry.rest.now c.frame_len-len.result low c.entry-item.is c.loop-entry.invariant.left c.frame_len-len.ensures in
    record {
      put = put_next c.loop-entry.records.items _ c.push.new.self.items (record_values c.push_record.new.records.items) es i e c.prefix.result.now low c.entry-item.is
          c.in_ok-push.ensures.items refl (c.prefix.ensures ∙ there.prefix) c.loop-entry.invariant.put;
      left = c.suffix-rest.ensures ∙ there.suffix;
    }
