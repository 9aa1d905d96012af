-- Frames of entries.
use Rattle.std.specs.Prelude.{ℕ, Bool, false, List, length, Result, Ok, Err, ◌==◌}
use Rattle.gl_entry.specs.Parsing.{first_entry}
use Rattle.gl_entry.specs.declared.entry.Entry.{Entry}
use Rattle.gl_entry.specs.declared.fault.EntryFault.{EntryFault}

abbrev pub is_whole : ℕ → Result (Entry × ℕ) EntryFault → Bool
is_whole size (Ok read) = read.1 == size
is_whole size (Err fault) = false

-- The bytes are the frame of an entry, all of them.
abbrev pub is_frame : List ℕ → Bool
is_frame bytes = is_whole (length bytes) (first_entry bytes)
