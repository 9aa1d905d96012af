-- What `node` does: it serves as the node of the disk's file over the link.
use Rattle.std.specs.Prelude.{◌≡◌, ◌≢◌, ◌⊎◌, Result, Ok, Err, IsTrue, true}
use Rattle.gl_commands.specs.declared.task.NodeTask.{NodeTask}
use Rattle.gl_journal.specs.Durable.{Durable, journal_header}
use Rattle.gl_journal.specs.Parts.{HasGate}
use Rattle.gl_journal.specs.declared.fault.JournalFault.{JournalFault}
use Rattle.gl_journal.specs.declared.key.KeyKind.TheVariants.{Node}
use Rattle.gl_outside.specs.Disk.{IsImage, Leaves}
use Rattle.gl_store_book.specs.NodeFile.{has_ledger, opened}
use Rattle.ccfg.specs.Nodes.{MovesNode, NodeRuns, OfLedger}
use Rattle.ccfg.specs.Run.{IsUnread, LinkRun, Run}
use Rattle.ccfg.specs.SignCommand.{IsForeign}
use Rattle.ccfg.specs.declared.ending.Ending.{Ending}
use Rattle.ccfg.specs.declared.ending.Ending.TheVariants.{DiskFailed}

-- A file with which a node needs no source: none of a node, or one that has a ledger.
abbrev pub NeedsNoSource : Result Durable JournalFault → Type 0
NeedsNoSource (Err fault) = Unit {0}
NeedsNoSource (Ok d) = (d.key.kind ≢ Node) ⊎ (has_ledger d ≡ true)

pub record NodeDoes {S D L : Type 0} (node : NodeTask) (r : Run S D) (link : LinkRun L)
    (e : Ending) : Type 0 where
  -- It began by its file and the source, what it did over the link came to this end, and so the run
  -- ends and writes.
  pub exact : NodeRuns node r link e
  -- Whatever the ending: where the file of an honest disk has its closed gate, and the snapshot
  -- behind which the node begins, if there is one, stands for a ledger, then at every moment each
  -- image that a stop may leave is one that it might have left before, or opens as the disk's bytes
  -- do, or to their key with no fewer spent leaves. Where the file has no ledger, that snapshot is
  -- the source's.
  pub any_moment : IsTrue r.disk.honest → HasGate journal_header (r.disk.bytes r.disk.before) →
      OfLedger (r.disk.bytes r.disk.before) r.source.given →
      MovesNode (r.disk.bytes r.disk.before) (r.disk.past r.disk.before)
      (r.disk.past r.disk.after)
  -- A file that opens to nothing is left alone: at every moment a stop leaves what it might have
  -- left before, and but where the disk failed it has the bytes that it had.
  pub foreign : IsTrue r.disk.honest → IsForeign (opened (r.disk.bytes r.disk.before)) →
      Leaves (IsImage (r.disk.past r.disk.before)) (r.disk.past r.disk.before)
      (r.disk.past r.disk.after)
  pub foreign_bytes : IsTrue r.disk.honest → IsForeign (opened (r.disk.bytes r.disk.before)) →
      e ≢ DiskFailed → r.disk.bytes r.disk.after ≡ r.disk.bytes r.disk.before
  -- The source is left unread where it isn't needed.
  pub unread : IsTrue r.disk.honest → NeedsNoSource (opened (r.disk.bytes r.disk.before)) →
      IsUnread r.source
