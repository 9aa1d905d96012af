-- A key file: what its bytes open to.
use Rattle.std.specs.Prelude.{◌≡◌, ℕ, List, Result, Ok}
use Rattle.gl_outside.specs.Disk.{Step, IsImage}
use Rattle.gl_journal.specs.Durable.{Durable, LogRules, durable}
use Rattle.gl_journal.specs.RecordView.{state_of}
use Rattle.gl_journal.specs.Kept.{IsKept}
use Rattle.gl_journal.specs.declared.fault.JournalFault.{JournalFault}
use Rattle.gl_keyfile.specs.declared.key_file.KeyFile.{KeyFile}

-- What the bytes of a key file open to, by what goes on its log.
abbrev pub opened : LogRules → List ℕ → Result Durable JournalFault
opened goes_on file = durable goes_on file

-- Each image that a stop may leave, once these steps were done, opens to this state.
abbrev pub OpensOnlyTo : LogRules → List Step → Durable → Type 0
OpensOnlyTo goes_on past state =
    (image : List ℕ) → IsImage past image → opened goes_on image ≡ Ok state

-- The disk of a key file.
abbrev pub disk_of : {D L : Type 0} → KeyFile D L → D
disk_of file = file.journal.gated.disk

-- What a key file opened to, with these frames in its log.
abbrev pub held : {D L : Type 0} → (L → List (List ℕ)) → KeyFile D L → Durable
held frames file = state_of frames file.state

-- Over a disk with these bytes and this history: the file is a settled journal, whose bytes open to
-- the state that is held.
pub record IsOpened {D L : Type 0} (goes_on : LogRules) (frames : L → List (List ℕ))
    (bytes : D → List ℕ) (past : D → List Step) (file : KeyFile D L) : Type 0 where
  pub kept : IsKept bytes past file.journal
  pub state : opened goes_on (bytes file.journal.gated.disk) ≡ Ok (state_of frames file.state)
