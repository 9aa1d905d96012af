-- What a command does that signs with the key of the disk's file: `endorse`, `genesis` and `sign`.
use Rattle.std.specs.Prelude.{◌≡◌, ◌≢◌, ◌⊎◌, Result, Ok, Err, IsTrue}
use Rattle.gl_journal.specs.Durable.{Durable, journal_header}
use Rattle.gl_journal.specs.Parts.{HasGate}
use Rattle.gl_journal.specs.declared.fault.JournalFault.{JournalFault}
use Rattle.gl_journal.specs.declared.key.KeyKind.{KeyKind}
use Rattle.gl_store_book.specs.NodeFile.{opened}
use Rattle.gl_keyfile.specs.SigningRequest.{kind_of, use_of}
use Rattle.gl_keyfile.specs.declared.leaf.LeafUse.{LeafUse}
use Rattle.gl_keyfile.specs.declared.signature.Signing.{Signing}
use Rattle.gl_outside.specs.Disk.{IsImage, Leaves}
use Rattle.ccfg.specs.ExpectedOutput.{PrintsFaultPrefix, output_of_signing}
use Rattle.ccfg.specs.Exits.{ExitsByDisk}
use Rattle.ccfg.specs.Plans.{MovesByLeaf, OpensAsBefore, SpendsLeaf}
use Rattle.ccfg.specs.Run.{IsUnread, Run}
use Rattle.ccfg.specs.declared.ending.Ending.{Ending}
use Rattle.ccfg.specs.declared.ending.Ending.TheVariants.{DiskFailed, Done, Memory, NoReading, NotValid, PastLimit, SinkFailed, SourceFailed}

-- Bytes that are no key file: they open to a fault.
abbrev pub IsForeign : Result Durable JournalFault → Type 0
IsForeign opens = (fault : JournalFault) × (opens ≡ Err fault)

-- A leaf of the key of an honest disk's file is taken for this use.
pub record TakesLeaf {S D : Type 0} (leaf : LeafUse) (r : Run S D) (e : Ending) : Type 0 where
  -- 0: the disk had a key file, and whatever a stop leaves of it opens to the state in which its
  -- next leaf is spent, and to nothing else.
  pub signed : e ≡ Done →
      SpendsLeaf leaf (r.disk.bytes r.disk.before) (r.disk.past r.disk.after)
  -- 0, 4 and 7: so it is there too, unless what was written is a prefix of a fault's line, or
  -- nothing.
  pub spent : (e ≡ Done) ⊎ (e ≡ SinkFailed) ⊎ (e ≡ Memory) →
      SpendsLeaf leaf (r.disk.bytes r.disk.before) (r.disk.past r.disk.after)
      ⊎ PrintsFaultPrefix r.sink.held r.sink.holds
  -- 1, 3, 8 and 9: the file opens to what it opened to; no leaf is spent.
  pub unspent : (e ≡ NotValid) ⊎ (e ≡ SourceFailed) ⊎ (e ≡ PastLimit) ⊎ (e ≡ NoReading) →
      OpensAsBefore (r.disk.bytes r.disk.before) (r.disk.bytes r.disk.after)
  -- Whatever the ending: where the file has its closed gate and opens to a state, then at every
  -- moment each image that a stop may leave is one that it might have left before, or opens to that
  -- state, or to the one with the next leaf spent.
  pub any_moment : HasGate journal_header (r.disk.bytes r.disk.before) →
      MovesByLeaf leaf (r.disk.bytes r.disk.before) (r.disk.past r.disk.before)
      (r.disk.past r.disk.after)
  -- A file that is no key file is left alone: at every moment a stop leaves what it might have left
  -- before, and but where the disk failed it has the bytes that it had.
  pub foreign : IsForeign (opened (r.disk.bytes r.disk.before)) →
      Leaves (IsImage (r.disk.past r.disk.before)) (r.disk.past r.disk.before)
      (r.disk.past r.disk.after)
  pub foreign_bytes : IsForeign (opened (r.disk.bytes r.disk.before)) → e ≢ DiskFailed →
      r.disk.bytes r.disk.after ≡ r.disk.bytes r.disk.before

-- There is no key file, or its key is of another kind.
abbrev pub HasNoKey : KeyKind → Result Durable JournalFault → Type 0
HasNoKey kind (Err fault) = Unit {0}
HasNoKey kind (Ok state) = state.key.kind ≢ kind

-- Where an honest disk has no key file of this kind the source is left unread.
abbrev pub ReadsWithKey : {S D : Type 0} → KeyKind → Run S D → Type 0
ReadsWithKey kind r =
    IsTrue r.disk.honest → HasNoKey kind (opened (r.disk.bytes r.disk.before)) → IsUnread r.source

pub record SignDoes {S D : Type 0} (signing : Signing) (r : Run S D) (e : Ending) : Type 0 where
  -- It ends, and writes, by the key that the file opens to, the limit, the form of the bytes and
  -- what is signed.
  pub exact : ExitsByDisk r e (λ shown. output_of_signing signing shown.opens)
  pub leaf : IsTrue r.disk.honest → TakesLeaf (use_of signing) r e
  pub unread : ReadsWithKey (kind_of signing) r
