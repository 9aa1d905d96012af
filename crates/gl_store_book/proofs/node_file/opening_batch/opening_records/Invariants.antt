use Rattle.std.proofs.Common.{◌≡◌, ◌++◌, take, drop}
use Rattle.std.specs.List.{flat_map}
use Rattle.gl_entry.specs.Entry.{frame_bytes}
use Rattle.gl_journal.specs.RecordView.{record_values}
use Rattle.gl_store_book.specs.AtOpening.{append_records}
use Rattle.gl_store_book.proofs.node_file.opening_batch.opening_records.Given as goal

-- the entries so far have their records, and the bytes that are left are the frames of the others
abbrev pub invariant-loop-entry : goal.invariant-loop-entry
invariant-loop-entry l = record {
  put : record_values l.records.items ≡ record_values l.initial.records.items ++ append_records (take l.entry-index l.entries);
  left : l.rest ≡ flat_map frame_bytes (drop l.entry-index l.entries);
}
