-- What a plan owes.
use Rattle.std.specs.Prelude.{◌≡◌, ◌≢◌, ◌⊎◌, ℕ, List, Ok}
use Rattle.gl_base.specs.declared.or_no_memory.OrNoMemory.{OrNoMemory}
use Rattle.gl_base.specs.declared.or_no_memory.OrNoMemory.TheVariants as stops
use Rattle.gl_journal.specs.Durable.{Durable, OpensToKeyAlone, OpensToOneOf, journal_header, key_alone}
use Rattle.gl_journal.specs.Parts.{HasGate}
use Rattle.gl_journal.specs.declared.fault.JournalFault.{JournalFault}
use Rattle.gl_journal.specs.declared.fault.JournalFault.TheVariants as journals
use Rattle.gl_journal.specs.declared.key.KeyKind.{KeyKind}
use Rattle.gl_store_book.specs.NodeFile.{OpensOnlyTo, opened}
use Rattle.gl_store_book.specs.Frames.{goes_on_ledger}
use Rattle.gl_keyfile.specs.Leaf.{after_leaf}
use Rattle.gl_keyfile.specs.declared.leaf.LeafUse.{LeafUse}
use Rattle.gl_keyfile.specs.declared.fault.KeyFileFault.{KeyFileFault}
use Rattle.gl_keyfile.specs.declared.fault.KeyFileFault.TheVariants as files
use Rattle.gl_hss.specs.declared.types.Types.{Types}
use Rattle.gl_outside.specs.Disk.{IsImage, Leaves, Step}
use Rattle.gl_receipt.specs.Form.{receipt_from}
use Rattle.gl_receipt.specs.Receipt.{Accepts}
use Rattle.gl_receipt.specs.declared.components.Receipt.{Receipt}
use Rattle.ccfg.specs.declared.fault.Fault.TheVariants as faults
use Rattle.ccfg.specs.declared.plan.Plan.{Plan}
use Rattle.ccfg.specs.declared.plan.Plan.TheVariants.{Play, Show, ShowLedger, Print, Refuse}
use Rattle.gl_schedule.specs.Playable.{IsPlayable}
use Rattle.gl_commands.specs.declared.task.Task.{Task}
use Rattle.gl_commands.specs.declared.task.Task.TheVariants as tasks
use Rattle.ccfg.specs.ExpectedOutput.{Output, output_of_fault, output_of_answer, ledger_line, valid_line}
use Rattle.gl_schedule.specs.Output.{text_of_schedule}

abbrev pub output_of_plan : Plan → Output
output_of_plan (Play schedule) = output_of_answer (text_of_schedule schedule)
output_of_plan (Show id) = output_of_answer (valid_line id)
output_of_plan (ShowLedger last signed) = output_of_answer (ledger_line last signed)
output_of_plan (Print text) = output_of_answer text.items
output_of_plan (Refuse fault) = output_of_fault fault

-- A schedule that is to be played is one that may be read.
abbrev pub PlansPlayable : Plan → Type 0
PlansPlayable (Play schedule) = IsPlayable schedule
PlansPlayable (Show id) = Unit {0}
PlansPlayable (ShowLedger last signed) = Unit {0}
PlansPlayable (Print text) = Unit {0}
PlansPlayable (Refuse fault) = Unit {0}

-- Where a receipt is verified nothing is played, no ledger is shown and no other answer is
-- reported, and a transaction only where the bytes are a receipt that is accepted for it.
abbrev pub ShowsAccepted : Task → List ℕ → Plan → Type 0
ShowsAccepted (tasks.Verify identity) given (Play schedule) = ⊥
ShowsAccepted (tasks.Verify identity) given (ShowLedger last signed) = ⊥
ShowsAccepted (tasks.Verify identity) given (Print text) = ⊥
ShowsAccepted (tasks.Verify identity) given (Show id) =
    (receipt : Receipt) × (receipt_from given ≡ Ok receipt) × Accepts identity receipt id
ShowsAccepted (tasks.Verify identity) given (Refuse fault) = Unit {0}
ShowsAccepted task given plan = Unit {0}

-- A key of this kind, these types and this seed is kept: each image that a stop may leave of the
-- disk has its closed gate, and opens to it, and to nothing else.
abbrev pub KeepsKey : KeyKind → Types → List Step → List ℕ → Type 0
KeepsKey kind types past seed =
    (image : List ℕ) → IsImage past image → HasGate journal_header image
    × (opened image ≡ Ok (key_alone (record { kind = kind; types = types; seed = seed })))

-- At every moment each image that a stop may leave is one that it might have left before, or opens
-- to no key file, or to the key of this kind, these types and this seed alone.
abbrev pub MovesToKey : KeyKind → Types → List Step → List Step → List ℕ → Type 0
MovesToKey kind types before after seed =
    Leaves (OpensToKeyAlone goes_on_ledger
    (record { kind = kind; types = types; seed = seed }) before) before after

-- Where a key is begun, it is kept before it is shown, and nothing else is reported but a fault.
abbrev pub ShowsKept : KeyKind → Types → List Step → List ℕ → Plan → Type 0
ShowsKept kind types past seed (Play schedule) = ⊥
ShowsKept kind types past seed (Show id) = ⊥
ShowsKept kind types past seed (ShowLedger last signed) = ⊥
ShowsKept kind types past seed (Print text) = KeepsKey kind types past seed
ShowsKept kind types past seed (Refuse fault) = Unit {0}

-- Where no key file of the kind that is wanted could be opened, that is reported: where the bytes
-- differ from a key file, or which kind the key is of. A failure of the disk is told by no line.
abbrev pub PrintsUnopened : OrNoMemory KeyFileFault → Plan → Type 0
PrintsUnopened error plan =
    ((fault : JournalFault) × (error ≡ stops.Fault (files.Journal fault))
    × (fault ≢ journals.DiskFault) × (plan ≡ Refuse (faults.Journal fault)))
    ⊎ ((want : KeyKind) × (got : KeyKind) × (error ≡ stops.Fault (files.KeyKind want got))
    × (plan ≡ Refuse (faults.KeyKind want got)))

-- The disk held a key file, and each image that a stop may leave of it now opens to the state in
-- which its next leaf is spent, and to nothing else.
abbrev pub SpendsLeaf : LeafUse → List ℕ → List Step → Type 0
SpendsLeaf leaf held past =
    (state : Durable) × (opened held ≡ Ok state)
    × OpensOnlyTo past (after_leaf leaf state)

-- Where something is signed, its leaf is spent before it is reported, and nothing else is reported
-- but a fault.
abbrev pub PrintsSpent : LeafUse → List ℕ → List Step → Plan → Type 0
PrintsSpent leaf held past (Play schedule) = ⊥
PrintsSpent leaf held past (Show id) = ⊥
PrintsSpent leaf held past (ShowLedger last signed) = ⊥
PrintsSpent leaf held past (Print text) = SpendsLeaf leaf held past
PrintsSpent leaf held past (Refuse fault) = Unit {0}

-- An image that a stop might have left before, or one that has its closed gate and opens to the
-- state before a leaf is spent for this use, or to that after it.
abbrev pub MayBeLeft : LeafUse → Durable → List Step → List ℕ → Type 0
MayBeLeft leaf state before image =
    IsImage before image ⊎ OpensToOneOf goes_on_ledger state (after_leaf leaf state) image

-- Where the bytes open to a state, each image that a stop may leave at a moment is such a one.
abbrev pub MovesByLeaf : LeafUse → List ℕ → List Step → List Step → Type 0
MovesByLeaf leaf held before after =
    (state : Durable) → opened held ≡ Ok state
    → Leaves (MayBeLeft leaf state before) before after

-- What the bytes of a key file opened to, these open to.
abbrev pub OpensAsBefore : List ℕ → List ℕ → Type 0
OpensAsBefore held holds = (state : Durable) → opened held ≡ Ok state → opened holds ≡ Ok state

-- A fault is reported.
abbrev pub PrintsFault : Plan → Type 0
PrintsFault (Play schedule) = ⊥
PrintsFault (Show id) = ⊥
PrintsFault (ShowLedger last signed) = ⊥
PrintsFault (Print text) = ⊥
PrintsFault (Refuse fault) = Unit {0}

-- The disk has the bytes that it had, and a stop may leave what it might have left.
pub record IsUntouched {D : Type 0} (bytes_of : D → List ℕ) (past_of : D → List Step) (old new : D)
    : Type 0 where
  pub bytes : bytes_of new ≡ bytes_of old
  pub past : past_of new ≡ past_of old
