-- The file of a key, which is one file for all commands: a log in it is a ledger that the audit
-- takes. So a file that a node serves from opens to the same for a command that signs.
use Rattle.std.specs.Prelude.{List, ℕ}
use Rattle.gl_journal.specs.Durable.{Durable}
use Rattle.gl_keyfile.specs.KeyFile as files
use Rattle.gl_keyfile.specs.declared.key_file.KeyFile.{KeyFile}
use Rattle.gl_outside.specs.Disk.{Step}
use Rattle.gl_store_book.specs.Frames.{frames_of, goes_on_ledger}
use Rattle.gl_store_book.specs.declared.node_file.ledger_log.LedgerLog.{LedgerLog}

-- The frames of its log.
abbrev pub log_frames : LedgerLog → List (List ℕ)
log_frames log = frames_of log.ledger

-- What it opened to.
abbrev pub held : {D : Type 0} → KeyFile D LedgerLog → Durable
held file = files.held log_frames file

-- Over a disk with these bytes and this history: it is a settled journal, whose bytes open to the
-- state that is held.
abbrev pub IsOpened : {D : Type 0} → (D → List ℕ) → (D → List Step) → KeyFile D LedgerLog → Type 0
IsOpened bytes past file = files.IsOpened goes_on_ledger log_frames bytes past file
