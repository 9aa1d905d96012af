-- The records of what an event changed.
use Rattle.std.specs.Prelude.{◌≡◌, ◌≤◌, ◌<◌, ℕ, ◌+◌, ◌-◌, ◌^◌, List, [], ◌++◌, Some, Vec, vec_capacity, length, map, take}
use Rattle.std.specs.declared.alloc.Global.{Global}
use Rattle.gl_entry.specs.Entry.{frame_bytes}
use Rattle.gl_journal.specs.Durable.{Durable, LogRules, fold_records, leaf_count}
use Rattle.gl_journal.specs.Records.{records_bytes}
use Rattle.gl_journal.specs.RecordView.{record_values}
use Rattle.gl_journal.specs.declared.record.Record.{Record}
use Rattle.gl_replication.specs.declared.node.Core.{Core}
use Rattle.gl_node.specs.Frames.{EachGoesOn}
use Rattle.gl_node.specs.Kept.{Kept}
use Rattle.gl_node.specs.declared.changed.Before.{Before}

-- The records lead from one durable state to another.
abbrev pub Folds : LogRules → List Record → Durable → Durable → Type 0
Folds goes_on records old new = fold_records goes_on old (record_values records) ≡ Some new

-- How many bytes the batch of these records has.
abbrev pub records_size : List Record → ℕ
records_size records = length (records_bytes (record_values records))

-- An empty list, with room for what an event changes that brings so many frames.
pub record IsRoom (records : Vec Record Global) (count : ℕ) : Type 0 where
  pub empty : records.items ≡ []
  pub room : count + 3 ≤ vec_capacity records

-- A file with this durable state kept what was there before, and a core has now what is to be kept:
-- no earlier view, the ledger cut to a seqno that isn't below the base, with the entries of these
-- frames after it, and no fewer reserved leaves, whose number fits its field.
pub record IsChange {S Q G R A F : Type 0} (held : S → Kept) (goes : LogRules) (d : Durable)
    (before : Before) (kept : ℕ) (frames : List (List ℕ)) (c : Core S Q G R A F) : Type 0 where
  pub view : d.view ≡ before.view
  pub vote : d.vote ≡ before.vote
  pub len : d.base + length d.log ≡ before.len
  pub reserved : d.reserved ≡ before.leaves.reserved
  pub rises : before.view ≤ c.peer.view
  pub above : d.base ≤ kept
  pub within : kept ≤ before.len
  pub log : map frame_bytes (held c.book).entries ≡ take (kept - d.base) d.log ++ frames
  pub follow : EachGoesOn goes d.snapshot (map frame_bytes (held c.book).entries)
  pub more : before.leaves.reserved ≤ c.leaves.reserved
  pub leaves : c.leaves.reserved ≤ leaf_count d
  pub few : c.leaves.reserved < 2 ^ 32
