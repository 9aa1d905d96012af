use Rattle.std.proofs.Common.{◌≡◌, ◌+◌, ◌^◌, ◌<◌, ◌≤◌, ◌++◌, length, drop, take, vec_len, vec_capacity}
use Rattle.gl_journal.specs.Records.{records_bytes, AreRecords}
use Rattle.gl_journal.specs.RecordView.{record_values}
use Rattle.gl_journal.proofs.record.put_records.Given as goal

abbrev pub invariant-loop-one : goal.invariant-loop-one
invariant-loop-one l = record {
  put : l.out.items ++ records_bytes (record_values (drop l.one-index l.records)) ≡ l.fn.out.items ++ records_bytes (record_values l.records);
  room : vec_len l.out + length (records_bytes (record_values (drop l.one-index l.records))) ≤ vec_capacity l.out;
  grown : vec_capacity l.fn.out ≤ vec_capacity l.out;
  small : length (records_bytes (record_values (drop l.one-index l.records))) < 2 ^ 32;
  fields : AreRecords (record_values (take l.one-index l.records));
}
