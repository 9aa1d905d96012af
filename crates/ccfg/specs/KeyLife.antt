-- The life of a key file, from `keygen` on, through any runs of the program, their failures and
-- stops: what a stop may leave of it, and by which leaves of its key signatures were told.
use Rattle.std.specs.Prelude.{◌≡◌, ◌⊎◌, ◌≤◌, ◌+◌, ℕ, List, [], ◌∷◌, ◌++◌, Option, None, Some, Result, Ok, Err, IsTrue}
use Rattle.gl_commands.specs.declared.task.Asked.{Asked}
use Rattle.gl_commands.specs.declared.task.Asked.TheVariants as asks
use Rattle.gl_commands.specs.declared.task.NodeTask.{NodeTask}
use Rattle.gl_entry.specs.declared.entry.Entry.{Entry}
use Rattle.gl_journal.specs.Durable.{Durable, journal_header}
use Rattle.gl_journal.specs.Parts.{HasGate}
use Rattle.gl_journal.specs.declared.fault.JournalFault.{JournalFault}
use Rattle.gl_journal.specs.declared.key.Key.{Key}
use Rattle.gl_keyfile.specs.declared.leaf.LeafUse.{LeafUse}
use Rattle.gl_ledger.specs.LedgerBook.{ledger_book}
use Rattle.gl_ledger.specs.NodeKeys.{NodeKeys, service_layers}
use Rattle.gl_outside.specs.Disk.{IsImage, LeavesOnly, Step}
use Rattle.gl_serve.specs.Life.{Lived, Lives, told_through}
use Rattle.gl_serve.specs.Types.{NodeSeen}
use Rattle.gl_store_book.specs.Frames.{goes_on_ledger}
use Rattle.gl_store_book.specs.NodeFile.{key_of, node_of, opened}
use Rattle.gl_store_book.specs.Replicas.{IsBelow}
use Rattle.gl_store_book.specs.Stands.{NodeStore, Stands}
use Rattle.ccfg.specs.Commands.{Does, leaf_use}
use Rattle.ccfg.specs.ExpectedOutput.{PrintsFaultPrefix}
use Rattle.ccfg.specs.Nodes.{BeginsBy, OfBeginning, OfLedger}
use Rattle.ccfg.specs.Run.{DiskRun, LinkRun, Run}
use Rattle.ccfg.specs.declared.ending.Ending.{Ending}
use Rattle.ccfg.specs.declared.ending.Ending.TheVariants as endings

-- The bytes have their closed gate, and open to this key, of which at least so many leaves are
-- spent.
pub record HoldsKey (key : Key) (spent : ℕ) (bytes : List ℕ) : Type 0 where
  pub gate : HasGate journal_header bytes
  pub state : Durable
  pub opens : opened bytes ≡ Ok state
  pub same : state.key ≡ key
  pub least : spent ≤ state.reserved

-- So it is of each image that a stop may leave, once these steps were done.
abbrev pub LeavesKey : Key → ℕ → List Step → Type 0
LeavesKey key spent past = (image : List ℕ) → IsImage past image → HoldsKey key spent image

-- A run begins over an honest disk with what a stop may have left once these steps were done; until
-- it writes, a stop leaves that and nothing else.
pub record GoesOnFrom {D : Type 0} (past : List Step) (disk : DiskRun D) : Type 0 where
  pub honest : IsTrue disk.honest
  pub left : IsImage past (disk.bytes disk.before)
  pub only : LeavesOnly (disk.past disk.before) (disk.bytes disk.before)

-- ---- the leaves by which a run may have told signatures

-- The next leaf of a key file.
abbrev pub next_leaf : Result Durable JournalFault → List ℕ
next_leaf (Err fault) = []
next_leaf (Ok state) = state.reserved ∷ []

module _ {S D : Type 0} (r : Run S D) (told : List ℕ) where
  abbrev pub TellsNext : Type 0
  TellsNext = told ≡ next_leaf (opened (r.disk.bytes r.disk.before))

  -- None where what was written is a prefix of a fault's line, or nothing; else the file's next.
  abbrev pub TellsUnlessFault : Type 0
  TellsUnlessFault =
      (PrintsFaultPrefix r.sink.held r.sink.holds × (told ≡ []))
      ⊎ ((PrintsFaultPrefix r.sink.held r.sink.holds → ⊥) × TellsNext)

  -- A command that signs: at 0 the file's next leaf.
  abbrev pub TellsBySigning : Ending → Type 0
  TellsBySigning endings.Done = TellsNext
  TellsBySigning endings.SinkFailed = TellsUnlessFault
  TellsBySigning endings.Memory = TellsUnlessFault
  TellsBySigning endings.NotValid = told ≡ []
  TellsBySigning endings.OtherWords = told ≡ []
  TellsBySigning endings.SourceFailed = told ≡ []
  TellsBySigning endings.DiskFailed = told ≡ []
  TellsBySigning endings.LinkFailed = told ≡ []
  TellsBySigning endings.PastLimit = told ≡ []
  TellsBySigning endings.NoReading = told ≡ []

  -- Each other command but `node`: none.
  abbrev pub TellsByUse : Option LeafUse → Ending → Type 0
  TellsByUse None e = told ≡ []
  TellsByUse (Some leaf) e = TellsBySigning e

-- A node that began: the leaves of the signatures that its events made, under the book of a service
-- in which it has the key of its file, and with entries for which the snapshot stands behind which
-- it began.
pub record TellsByServing {S D L : Type 0} (node : NodeTask) (r : Run S D) (link : LinkRun L)
    (told : List ℕ) : Type 0 where
  pub first : NodeSeen D NodeStore
  pub last : NodeSeen D NodeStore
  pub life : List (Lived NodeStore)
  pub lives : Lives Stands goes_on_ledger r.disk.honest r.disk.bytes r.disk.past r.disk.faults
      first life last
  pub disk : last.disk ≡ r.disk.after
  pub leaves : OfBeginning node r link (λ opens given.
      (by : BeginsBy r.disk.honest r.disk.bytes r.disk.past r.disk.faults opens given first)
      × (keys : NodeKeys) × (keys.key_of (node_of by.start.state) ≡ key_of by.start.state)
      × (below : List Entry) × IsBelow by.start.state below
      × (told ≡ told_through (ledger_book service_layers keys) (node_of by.start.state)
      (by.start.node (ledger_book service_layers keys) below) life))

-- The leaves by which a run may have told signatures, by what it was asked and how it ended.
abbrev pub Tells : {S D L : Type 0} → Asked → Run S D → LinkRun L → Ending → List ℕ → Type 0
Tells (asks.Task task) r link e told = TellsByUse r told (leaf_use task) e
Tells (asks.Load load) r link e told = told ≡ []
Tells (asks.Node node) r link e told = (told ≡ []) ⊎ TellsByServing node r link told

-- ---- runs, one after the other

-- A run of the program, and the leaves by which it may have told signatures.
pub record KeyRun (S D L : Type 0) : Type 0 where
  pub asked : Asked
  pub run : Run S D
  pub link : LinkRun L
  pub ending : Ending
  pub told : List ℕ

-- A run that serves as a node begins behind a snapshot, its file's or its source's, that stands for
-- a ledger, or behind none. Nothing is asked of any other.
abbrev pub MayServe : {S D : Type 0} → Asked → Run S D → Type 0
MayServe (asks.Task task) r = Unit {0}
MayServe (asks.Load load) r = Unit {0}
MayServe (asks.Node node) r = OfLedger (r.disk.bytes r.disk.before) r.source.given

-- The first begins with what a stop may have left once these steps were done, and each next one
-- with what it may have left of the one before. Each one that is a node's may serve.
abbrev pub Follow : {S D L : Type 0} → List Step → List (KeyRun S D L) → Type 0
Follow past [] = Unit {0}
Follow past (it ∷ more) =
    GoesOnFrom past it.run.disk × MayServe it.asked it.run
    × Does it.asked it.run it.link it.ending × Tells it.asked it.run it.link it.ending it.told
    × Follow (it.run.disk.past it.run.disk.after) more

-- The leaves of all of them, in their order, and the steps that were done to the last one's disk.
abbrev pub told_by_all : {S D L : Type 0} → List (KeyRun S D L) → List ℕ
told_by_all [] = []
told_by_all (it ∷ more) = it.told ++ told_by_all more

abbrev pub steps_after : {S D L : Type 0} → List Step → List (KeyRun S D L) → List Step
steps_after past [] = past
steps_after past (it ∷ more) = steps_after (it.run.disk.past it.run.disk.after) more
