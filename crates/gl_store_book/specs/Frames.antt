-- Frames of entries as a ledger, and which frame goes on one.
use Rattle.std.specs.Prelude.{ℕ, List, [], ◌∷◌, Option, None, Some, Result, Ok, Err, Bool, false, is_none, length, map, option_and_then, ◌==◌, if◌then◌else◌}
use Rattle.std.specs.Option.{option_map}
use Rattle.gl_entry.specs.Entry.{frame_bytes}
use Rattle.gl_entry.specs.Parsing.{first_entry}
use Rattle.gl_entry.specs.declared.entry.Entry.{Entry}
use Rattle.gl_entry.specs.declared.fault.EntryFault.{EntryFault}
use Rattle.gl_journal.specs.Durable.{LogRules}
use Rattle.gl_ledger.specs.NodeKeys.{service_layers}
use Rattle.gl_ledger.specs.Broken.{broken_over}
use Rattle.gl_journal.specs.declared.installed.Installed.{Installed}
use Rattle.gl_snapshot.specs.Parsing.{body_of as governed_body}
use Rattle.gl_snapshot_body.specs.declared.body.Body.{Body}
use Rattle.gl_snapshot_body.specs.declared.fault.ShapeFault.{ShapeFault}
use Rattle.gl_store_book.specs.BasedLedgers.{BasedLedger, body_of}

abbrev pub whole_entry : ℕ → Result (Entry × ℕ) EntryFault → Option Entry
whole_entry size (Ok read) = if read.1 == size then Some read.0 else None
whole_entry size (Err fault) = None

-- The entry whose frame the bytes are, all of them.
unfoldable pub entry_of_frame : List ℕ → Option Entry
entry_of_frame frame = whole_entry (length frame) (first_entry frame)

-- The ledger whose entries have these frames.
unfoldable pub ledger_of_frames : List (List ℕ) → Option (List Entry)
ledger_of_frames [] = Some []
ledger_of_frames (frame ∷ frames) =
    option_and_then (λ e. option_map (λ es. e ∷ es) (ledger_of_frames frames))
    (entry_of_frame frame)

-- The entry breaks no rule of the audit after entries that stand on the body of a snapshot, where
-- there is one, or else are a whole ledger.
abbrev pub is_unbroken : Option (List ℕ) → Option (List Entry) → Option Entry → Bool
is_unbroken snapshot None e = false
is_unbroken snapshot (Some ledger) None = false
is_unbroken snapshot (Some ledger) (Some e) =
    is_none (broken_over service_layers (body_of snapshot) ledger e)

-- A frame goes on those before it where these are the frames of a ledger and it is the frame, all
-- of it, of an entry that breaks no rule of the audit after that ledger.
abbrev pub frame_goes_on : Option (List ℕ) → List (List ℕ) → List ℕ → Bool
frame_goes_on snapshot log frame =
    is_unbroken snapshot (ledger_of_frames log) (entry_of_frame frame)

-- What the body of a snapshot tells of a ledger that begins behind it, where it is one whose rows of
-- governance spell.
abbrev pub told_by : Result Body ShapeFault → Option Installed
told_by (Ok body) = Some (record { base = body.base; view = body.view })
told_by (Err fault) = None

-- What the file of a node lets in.
abbrev pub goes_on_ledger : LogRules
goes_on_ledger = record {
  appends = frame_goes_on;
  installs = λ bytes. told_by (governed_body 0 bytes);
}

-- ---- a ledger as it is read from a file, where there is one yet

-- The frames of its entries above the base.
abbrev pub frames_of : Option BasedLedger → List (List ℕ)
frames_of None = []
frames_of (Some l) = map frame_bytes l.entries

-- The bytes of the body of its snapshot, if it has one.
abbrev pub snapshot_in : Option BasedLedger → Option (List ℕ)
snapshot_in None = None
snapshot_in (Some l) = l.snapshot
