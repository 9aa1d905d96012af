-- How a node begins that is to serve, by its file and by its source, and to which end it served.
use Rattle.std.specs.Prelude.{◌⊎◌, ◌≡◌, ℕ, ◌^◌, List, ◌++◌, Option, None, Bool, true, false, Result, Ok, Err, IsTrue, IfSome, codes, decimal, nat_lt, ◌==◌, if◌then◌else◌}
use Rattle.std.specs.Io.KnownBytes.{Appends, Keeps}
use Rattle.gl_entry.specs.declared.entry.Entry.{Entry}
use Rattle.gl_rules.specs.Node.{Node}
use Rattle.gl_rules.specs.World.{Start}
use Rattle.gl_ledger.specs.LedgerBook.{ServiceBook}
use Rattle.gl_entry.specs.SourceBytes.{OfBytes}
use Rattle.gl_outside.specs.Disk.{Leaves, Step}
use Rattle.gl_outside.specs.Fault.{Rose}
use Rattle.gl_journal.specs.Durable.{Durable, OpensToTheSame, journal_header}
use Rattle.gl_journal.specs.Kept.{IsAtRest}
use Rattle.gl_journal.specs.Parts.{HasGate}
use Rattle.gl_journal.specs.Records.{key_kind_tag}
use Rattle.gl_journal.specs.declared.fault.JournalFault.{JournalFault}
use Rattle.gl_journal.specs.declared.key.KeyKind.TheVariants as kinds
use Rattle.gl_snapshot.specs.declared.fault.SnapshotFault.{SnapshotFault}
use Rattle.gl_snapshot.specs.declared.snapshot.Snapshot.{Snapshot}
use Rattle.gl_snapshot_body.specs.declared.body.Body.{Body}
use Rattle.gl_store_book.specs.AtOpening.{node_at_opening, opened_state, opening_size, restarted_node}
use Rattle.gl_store_book.specs.Frames.{goes_on_ledger}
use Rattle.gl_store_book.specs.FromSnapshot.{installed_state, source_of, verified_snapshot}
use Rattle.gl_store_book.specs.NodeFile.{has_ledger, opened}
use Rattle.gl_store_book.specs.Replicas.{StandsForFile}
use Rattle.gl_store_book.specs.ServiceStart.{start_in}
use Rattle.gl_store_book.specs.Stands.{HasLedger as IsOfLedger, NodeStore, Stands}
use Rattle.gl_store_book.specs.declared.node_file.fault.OpeningFault.TheVariants as openings
use Rattle.gl_store_book.specs.declared.node_file.from_snapshot.SourceKind.{SourceKind}
use Rattle.gl_store_book.specs.declared.node_file.from_snapshot.SourceKind.TheVariants as sources
use Rattle.gl_commands.specs.declared.task.NodeTask.{NodeTask}
use Rattle.gl_serve.specs.Serves.{Serves, calls_after}
use Rattle.gl_serve.specs.declared.settings.Serving.{Serving}
use Rattle.gl_serve.specs.declared.settings.ServeEnd.{ServeEnd}
use Rattle.gl_serve.specs.declared.settings.ServeEnd.TheVariants as ends
use Rattle.gl_serve.specs.OverLink.{KeepsLeaves}
use Rattle.gl_serve.specs.NodeWork.{serving_rules}
use Rattle.gl_serve.specs.Types.{NodeSeen}
use Rattle.ccfg.specs.Faults.{fault_line}
use Rattle.ccfg.specs.ExpectedOutput.{PrintsPrefix}
use Rattle.ccfg.specs.Plans.{OpensAsBefore}
use Rattle.ccfg.specs.Run.{LinkRun, Run}
use Rattle.ccfg.specs.declared.ending.Ending.{Ending}
use Rattle.ccfg.specs.declared.ending.Ending.TheVariants as endings
use Rattle.ccfg.specs.declared.fault.BeginFault.{BeginFault}
use Rattle.ccfg.specs.declared.fault.BeginFault.TheVariants as faults
use Rattle.ccfg.specs.declared.fault.Fault.TheVariants as printed
use Rattle.ccfg.specs.declared.node.NodeError.{NodeError}

-- ---- how a node begins

-- What the file of a node opens to as it begins to serve, and which node of the rules it is then,
-- by the entries up to its base, which the file doesn't tell.
pub record Beginning : Type 0 where
  pub state : Durable
  pub node : ServiceBook → List Entry → Node Entry

-- It goes on from what its file keeps, as a restart leaves it.
abbrev pub reopened : Durable → Beginning
reopened d = record { state = d; node = λ b below. restarted_node b below d }

-- It begins with an opening ledger, which its file then keeps.
abbrev pub opened_by : Start Entry → Durable → Beginning
opened_by s d = record { state = opened_state s d; node = λ b below. node_at_opening b s d }

-- An opening ledger has to fit one batch of the file.
abbrev pub begin_with : Durable → Result (Start Entry) ℕ → Result Beginning BeginFault
begin_with d (Err seqno) = Err (faults.Opening (openings.NotOpening seqno))
begin_with d (Ok s) =
    if nat_lt (opening_size s d) (2 ^ 32) then Ok (opened_by s d)
    else Err (faults.Opening (openings.TooLarge (opening_size s d)))

-- It begins behind a snapshot, which its file then keeps, as a restart leaves it of that file.
abbrev pub begin_behind : Durable → Result Snapshot SnapshotFault → Result Beginning BeginFault
begin_behind d (Err fault) = Err (faults.Snapshot fault)
begin_behind d (Ok s) = Ok (reopened (installed_state s.body d))

-- By what the bytes are that the source gives. Where they are none, a node whose file has no ledger
-- joins.
abbrev pub begin_by : Durable → List ℕ → SourceKind → Result Beginning BeginFault
begin_by d given sources.Nothing = Ok (reopened d)
begin_by d given sources.Ledger = begin_with d (start_in given)
begin_by d given sources.Snapshot = begin_behind d (verified_snapshot given)

abbrev pub begin_from : Durable → List ℕ → Result Beginning BeginFault
begin_from d given = begin_by d given (source_of given)

-- Where the file has a ledger, or a snapshot behind which one begins, the source is not asked.
abbrev pub beginning : Durable → List ℕ → Result Beginning BeginFault
beginning d given = if has_ledger d then Ok (reopened d) else begin_from d given

-- The same by what the bytes of the disk open to: a journal whose key is a node's.
abbrev pub beginning_of : Result Durable JournalFault → List ℕ → Result Beginning BeginFault
beginning_of (Err fault) given = Err (faults.Opening (openings.Journal fault))
beginning_of (Ok d) given =
    if key_kind_tag kinds.Node == key_kind_tag d.key.kind then beginning d given
    else Err (faults.Opening (openings.KeyKind kinds.Node d.key.kind))

-- What holds of what a disk opens to: of an honest disk of what its bytes do, of another one of
-- something that bytes may open to.
abbrev pub OfOpened : Bool → List ℕ → (Result Durable JournalFault → Type 0) → Type 0
OfOpened true held P = P (opened held)
OfOpened false held P = (printed : Result Durable JournalFault) × P printed

-- The file has a ledger, so that the source is not asked.
abbrev pub HasLedger : Result Durable JournalFault → Type 0
HasLedger (Err fault) = ⊥
HasLedger (Ok d) = has_ledger d ≡ true

-- A source may give these bytes: they are what it has to give, where it tells that.
abbrev pub MayGive : Option (List ℕ) → List ℕ → Type 0
MayGive source given = IfSome source (λ told. given ≡ told)

-- The snapshot behind which a node begins with a file of these bytes, and with what this source may
-- give, stands for the entries of a ledger up to its base. Where there is no snapshot, or no node
-- begins, that is so. It is asked of the file's snapshot, and where the file has no ledger, of the
-- source's.
abbrev pub OfLedger : List ℕ → Option (List ℕ) → Type 0
OfLedger held source =
    (given : List ℕ) → MayGive source given → (b : Beginning) →
    beginning_of (opened held) given ≡ Ok b → IsOfLedger b.state.snapshot

-- ---- what a stop leaves of its file

-- The disk of a node that began, or that didn't.
abbrev pub disk_after : {D : Type 0} → Result (NodeSeen D NodeStore) (NodeError × D) → D
disk_after (Ok replica) = replica.disk
disk_after (Err stopped) = stopped.1

-- Of a disk with these bytes and this history an image is one that a stop might have left before,
-- or it opens as the bytes do, or it opens to their key, with no fewer spent leaves.
abbrev pub KeepsNode : List ℕ → List Step → List ℕ → Type 0
KeepsNode bytes past image =
    OpensToTheSame goes_on_ledger bytes past image
    ⊎ ((d : Durable) × (opened bytes ≡ Ok d) × KeepsLeaves goes_on_ledger d image)

-- An image opens to this state with an opening ledger, or with a snapshot.
abbrev pub OpensBegun : Durable → List ℕ → Type 0
OpensBegun d image =
    ((s : Start Entry) × (opened image ≡ Ok (opened_state s d)))
    ⊎ ((body : Body) × (opened image ≡ Ok (installed_state body d)))

-- An image has its closed gate, and opens to this state, or to it with an opening ledger or a
-- snapshot, where it has no ledger.
abbrev pub KeepsOpening : Durable → List ℕ → Type 0
KeepsOpening d image =
    HasGate journal_header image
    × ((opened image ≡ Ok d) ⊎ ((has_ledger d ≡ false) × OpensBegun d image))

-- An image that a stop might have left before, or one that has its closed gate and opens to what
-- the bytes open to, or to that with an opening ledger or a snapshot.
abbrev pub IsUnserved : List ℕ → List Step → List ℕ → Type 0
IsUnserved bytes past image =
    OpensToTheSame goes_on_ledger bytes past image
    ⊎ ((d : Durable) × (opened bytes ≡ Ok d) × KeepsOpening d image)

-- So it is of each image that a stop may leave at some moment since then.
abbrev pub MovesNode : List ℕ → List Step → List Step → Type 0
MovesNode bytes before after = Leaves (KeepsNode bytes before) before after

-- ---- how it serves

-- What is told of a serve whose link ended: so many payloads were in the grammar, and so many
-- frames were lost.
abbrev pub served_line : ℕ × ℕ → List ℕ
served_line counts =
    codes "served " ++ decimal counts.0 ++ codes " lost " ++ decimal counts.1 ++ codes "\n"

-- How it serves.
abbrev pub IsAsked : NodeTask → Serving → Type 0
IsAsked task s =
    (s.peers.now ≡ task.peers) × (s.ticks ≡ task.ticks) × (s.turns ≡ task.turns)

-- Over a disk with these bytes and this history, and its count of faults.
module _ {D : Type 0} (honest : Bool) (bytes : D → List ℕ) (past : D → List Step)
    (faults_of : D → ℕ) where
  -- A node began so: of the rules it is this one, with a ledger where there is one with its file's
  -- snapshot; and an honest disk keeps that, whatever comes: a stop leaves its bytes and no others.
  pub record BeginsAs (b : Beginning) (first : NodeSeen D NodeStore) : Type 0 where
    pub stands : StandsForFile b.state first.core b.node
    pub ledger : IsOfLedger b.state.snapshot → IsOfLedger first.core.book.ledger.snapshot
    pub going : first.stopped ≡ None
    pub keeps : IsTrue honest → opened (bytes first.disk) ≡ Ok b.state
    pub at_rest : IsTrue honest → IsAtRest (bytes first.disk) (past first.disk)

  -- By what the disk's bytes opened to and the source gave.
  pub record BeginsBy (opens : Result Durable JournalFault) (given : List ℕ)
      (first : NodeSeen D NodeStore) : Type 0 where
    pub state : Durable
    pub found : opens ≡ Ok state
    pub start : Beginning
    pub begins : beginning_of opens given ≡ Ok start
    pub began : BeginsAs start first

-- With this task, these objects, and this link.
module _ {S D L : Type 0} (task : NodeTask) (r : Run S D) (link : LinkRun L) where
  -- What holds of what the disk's bytes opened to, and of the bytes of the source.
  abbrev pub OfBeginning : (Result Durable JournalFault → List ℕ → Type 0) → Type 0
  OfBeginning P =
      OfOpened r.disk.honest (r.disk.bytes r.disk.before) (λ opens.
      OfBytes r.source.given (λ given. P opens given))

  -- It began so from its file and the source, which gave its end where the file has no ledger, and
  -- what it then did over the link came to this end.
  pub record Served (end : Result (ℕ × ℕ) ServeEnd) : Type 0 where
    pub settings : Serving
    pub asked : IsAsked task settings
    pub first : NodeSeen D NodeStore
    pub begins : OfBeginning (λ opens given.
        BeginsBy r.disk.honest r.disk.bytes r.disk.past r.disk.faults opens given first
        × (HasLedger opens ⊎ (r.source.ended ≡ true)))
    pub last : NodeSeen D NodeStore
    pub course : Serves link.honest
        (serving_rules Stands goes_on_ledger r.disk.honest r.disk.bytes r.disk.past r.disk.faults)
        settings
        first (link.past link.before) (link.inward link.before).coming
        last (link.past link.after) (link.inward link.after).coming end
    pub disk : last.disk ≡ r.disk.after

  -- It didn't begin: nothing was sent or asked for. Where the file of an honest disk has its closed
  -- gate, then at every moment a stop leaves what it might have left before, or what opens to what
  -- the file opened to, or to that with an opening ledger or a snapshot.
  pub record NotServed : Type 0 where
    pub link_same : link.after ≡ link.before
    pub any_moment : IsTrue r.disk.honest → HasGate journal_header (r.disk.bytes r.disk.before) →
        Leaves (IsUnserved (r.disk.bytes r.disk.before) (r.disk.past r.disk.before))
        (r.disk.past r.disk.before) (r.disk.past r.disk.after)

  -- And an honest disk's file opens to what it opened to.
  pub record NotOpened : Type 0 where
    pub served : NotServed
    pub file : IsTrue r.disk.honest →
        OpensAsBefore (r.disk.bytes r.disk.before) (r.disk.bytes r.disk.after)

  -- It didn't begin, by this fault.
  abbrev pub NotBegun : BeginFault → Type 0
  NotBegun fault = OfBeginning (λ opens given. beginning_of opens given ≡ Err fault) × NotOpened

  -- An expected text: why it didn't begin, the counts, or that its turns are over.
  abbrev pub NodeOutput : List ℕ → Type 0
  NodeOutput text =
      ((fault : BeginFault) × NotBegun fault × (text ≡ fault_line (printed.Opening fault)))
      ⊎ ((counts : ℕ × ℕ) × Served (Ok counts) × (text ≡ served_line counts))
      ⊎ (Served (Err ends.Turns) × (text ≡ fault_line (printed.Turns task.turns)))

  -- What a run comes to, by how it ends. Each one didn't begin, or served so far.
  abbrev pub NodeRuns : Ending → Type 0
  NodeRuns endings.Done =
      ((link.inward link.after).ended ≡ true)
      × (counts : ℕ × ℕ) × Served (Ok counts)
      × Appends r.sink.held r.sink.holds (served_line counts)
  NodeRuns endings.NotValid =
      (fault : BeginFault) × NotBegun fault
      × Appends r.sink.held r.sink.holds (fault_line (printed.Opening fault))
  NodeRuns endings.OtherWords = ⊥
  NodeRuns endings.SourceFailed =
      Rose r.source.faults r.source.faults_now × NotOpened × Keeps r.sink.held r.sink.holds
  NodeRuns endings.SinkFailed =
      Rose r.sink.faults r.sink.faults_now
      × PrintsPrefix NodeOutput r.sink.held r.sink.holds
  NodeRuns endings.DiskFailed =
      Rose (r.disk.faults r.disk.before) (r.disk.faults r.disk.after)
      × (NotServed ⊎ Served (Err ends.Stopped)) × Keeps r.sink.held r.sink.holds
  NodeRuns endings.LinkFailed =
      Rose (link.inward link.before).faults (link.inward link.after).faults
      × Served (Err ends.LinkFailed) × Keeps r.sink.held r.sink.holds
  NodeRuns endings.Memory =
      ((NotServed ⊎ Served (Err ends.NoMemory)) × Keeps r.sink.held r.sink.holds)
      ⊎ PrintsPrefix NodeOutput r.sink.held r.sink.holds
  NodeRuns endings.PastLimit =
      ((link.inward link.after).calls ≡ calls_after task.turns (link.inward link.before).calls)
      × ((link.inward link.after).ended ≡ (link.inward link.before).ended)
      × Served (Err ends.Turns)
      × Appends r.sink.held r.sink.holds (fault_line (printed.Turns task.turns))
  NodeRuns endings.NoReading = ⊥
