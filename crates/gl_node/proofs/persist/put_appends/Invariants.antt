use Rattle.std.proofs.Common.{◌≡◌, ◌≤◌, ◌+◌, ◌++◌, take, vec_len, vec_capacity}
use Rattle.gl_journal.specs.Durable.{Durable, LogRules}
use Rattle.gl_journal.specs.Parts.{items_of}
use Rattle.gl_node.specs.Batches.{Folds, records_size}
use Rattle.gl_node.specs.Frames.{EachGoesOn, appends_size}
use Rattle.gl_node.proofs.persist.put_appends.Given as goal

abbrev pub invariant-loop-frame : goal.invariant-loop-frame
invariant-loop-frame l = record {
  folds : (goes_on : LogRules) (d m : Durable) → Folds goes_on l.fn.records.items d m → EachGoesOn goes_on m.snapshot (m.log ++ items_of l.frames) → Folds goes_on l.records.items d (record m { log = m.log ++ items_of (take l.frame-index l.frames) });
  size : records_size l.records.items ≤ records_size l.fn.records.items + appends_size (items_of (take l.frame-index l.frames));
  len : vec_len l.records ≡ vec_len l.fn.records + l.frame-index;
  capacity : vec_capacity l.records ≡ vec_capacity l.fn.records;
}
