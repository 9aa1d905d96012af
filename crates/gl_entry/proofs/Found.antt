-- What a call that read an entry found.
use Rattle.std.proofs.Common.{◌≡◌, ℕ, true, List, ◌++◌, Result, Ok, Err, IfOk}
use Rattle.gl_base.specs.Answers.{Answers}
use Rattle.gl_base.specs.declared.or_no_memory.OrNoMemory.{OrNoMemory}
use Rattle.gl_base.proofs.ByteLists.{AreBytes}
use Rattle.gl_entry.specs.declared.entry.Entry.{Entry}
use Rattle.gl_entry.specs.declared.fault.EntryFault.{EntryFault}
use Rattle.gl_entry.specs.Entry.{is_entry, frame_bytes, frame_size}
use Rattle.gl_entry.specs.Parsing.{entry_at}
use Rattle.gl_entry.proofs.EntryLaws.{entry_at-encoded}

pub is_found : (place : ℕ) (bytes : List ℕ) (r : Result (Entry × ℕ) (OrNoMemory EntryFault)) → AreBytes bytes
    → Answers (λ read. read) r (entry_at place bytes)
    → IfOk r (λ read. (is_entry read.0 ≡ true) × (read.1 ≡ frame_size read.0) × (rest : List ℕ) × (bytes ≡ frame_bytes read.0 ++ rest))
is_found place bytes (Ok read) all given = entry_at-encoded place bytes read all given
is_found place bytes (Err e) all given = tt
