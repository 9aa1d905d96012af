use Rattle.gl_entry.proofs.EncodedEntries.{are_entries, encoded, file_of_frames}
use Rattle.gl_entry.proofs.laws.law_of_ledger_files.Goals as goal

pub returns-clause-entries : goal.returns-clause-entries
returns-clause-entries c = are_entries

pub returns-clause-encoded : goal.returns-clause-encoded
returns-clause-encoded c = encoded

pub returns-clause-read : goal.returns-clause-read
returns-clause-read c = file_of_frames
