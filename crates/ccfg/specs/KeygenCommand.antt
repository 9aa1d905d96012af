-- What `keygen` does: it begins a key file with the source's bytes as the key's seed.
use Rattle.std.specs.Prelude.{◌≡◌, ◌⊎◌, ℕ, ◌<◌, List, IsTrue, length}
use Rattle.gl_entry.specs.SourceBytes.{OfBytes}
use Rattle.gl_hss.specs.declared.types.Types.{Types}
use Rattle.gl_journal.specs.declared.key.KeyKind.{KeyKind}
use Rattle.ccfg.specs.ExpectedOutput.{PrintsFaultPrefix, on_empty, output_of_seed}
use Rattle.ccfg.specs.Exits.{ExitsByDisk}
use Rattle.ccfg.specs.Plans.{IsUntouched, KeepsKey, MovesToKey}
use Rattle.ccfg.specs.Run.{IsUnread, Run}
use Rattle.ccfg.specs.declared.ending.Ending.{Ending}
use Rattle.ccfg.specs.declared.ending.Ending.TheVariants.{Done, Memory, NoReading, NotValid, SinkFailed, SourceFailed}

pub record KeygenDoes {S D : Type 0} (kind : KeyKind) (types : Types) (r : Run S D) (e : Ending)
    : Type 0 where
  -- It ends, and writes, by the number of the disk's bytes, and by the seed that the source gives.
  pub exact : ExitsByDisk r e (λ shown given. on_empty shown.len (output_of_seed kind types given))
  -- 0: whatever a stop leaves of an honest disk opens to the key of this kind and these types with
  -- the source's bytes as its seed, and to nothing else.
  pub kept : e ≡ Done → IsTrue r.disk.honest →
      OfBytes r.source.given (KeepsKey kind types (r.disk.past r.disk.after))
  -- 4 and 7: so it is there too, unless what was written is a prefix of a fault's line, or
  -- nothing.
  pub shown : IsTrue r.disk.honest → (e ≡ SinkFailed) ⊎ (e ≡ Memory) →
      OfBytes r.source.given (KeepsKey kind types (r.disk.past r.disk.after))
      ⊎ PrintsFaultPrefix r.sink.held r.sink.holds
  -- An honest disk that isn't empty stays as it was, and the source is left unread.
  pub not_empty : IsTrue r.disk.honest → 0 < length (r.disk.bytes r.disk.before) →
      IsUntouched r.disk.bytes r.disk.past r.disk.before r.disk.after
  pub unread : IsTrue r.disk.honest → 0 < length (r.disk.bytes r.disk.before) → IsUnread r.source
  -- 1, 3 and 9: an honest disk stays as it was.
  pub untouched : IsTrue r.disk.honest → (e ≡ NotValid) ⊎ (e ≡ SourceFailed) ⊎ (e ≡ NoReading) →
      IsUntouched r.disk.bytes r.disk.past r.disk.before r.disk.after
  -- Whatever the ending: at every moment a stop leaves of an honest disk what it might have left
  -- before, no key file, or this key alone.
  pub any_moment : IsTrue r.disk.honest → OfBytes r.source.given
      (MovesToKey kind types (r.disk.past r.disk.before) (r.disk.past r.disk.after))
