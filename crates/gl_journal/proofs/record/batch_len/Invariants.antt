use Rattle.std.proofs.Common.{◌≡◌, ◌+◌, length, drop}
use Rattle.gl_journal.specs.Records.{records_bytes}
use Rattle.gl_journal.specs.RecordView.{record_values}
use Rattle.gl_journal.proofs.record.batch_len.Given as goal

abbrev pub invariant-loop-one : goal.invariant-loop-one
invariant-loop-one l = l.len + length (records_bytes (record_values (drop l.one-index l.records))) ≡ length (records_bytes (record_values l.records))
