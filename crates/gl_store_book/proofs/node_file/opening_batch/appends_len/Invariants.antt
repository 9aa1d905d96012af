use Rattle.std.proofs.Common.{◌≡◌, ◌≤◌, ◌*◌, length, take}
use Rattle.gl_journal.specs.Records.{records_bytes}
use Rattle.gl_store_book.specs.AtOpening.{append_records}
use Rattle.gl_store_book.proofs.node_file.opening_batch.appends_len.Given as goal

-- the records so far, and no frame has more than 1 MiB and its head
abbrev pub invariant-loop-entry : goal.invariant-loop-entry
invariant-loop-entry l = record {
  len : l.len ≡ length (records_bytes (append_records (take l.entry-index l.entries)));
  small : l.len ≤ l.entry-index * 1048589;
}
