-- Frames of a ledger's entries.
use Rattle.std.specs.Prelude.{◌≡◌, ℕ, ◌+◌, List, [], ◌∷◌, true, Option, Some, length, take, slice_get, if◌then◌else◌}
use Rattle.gl_entry.specs.Entry.{frame_bytes, is_entry}
use Rattle.gl_entry.specs.declared.entry.Entry.{Entry}
use Rattle.gl_journal.specs.Durable.{LogRules}

-- Each of the frames, which stand on a snapshot's body where there is one, goes on those before it.
abbrev pub EachGoesOn : LogRules → Option (List ℕ) → List (List ℕ) → Type 0
EachGoesOn goes_on snapshot frames = (i : ℕ) (frame : List ℕ) →
    slice_get frames i ≡ Some frame → goes_on.appends snapshot (take i frames) frame ≡ true

-- The frame of an entry that a ledger may hold; any other has none.
abbrev pub frame_if_fits : Entry → List ℕ
frame_if_fits e = if is_entry e then frame_bytes e else []

-- How many bytes the records of frames have: each has its kind and its length in front.
abbrev pub appends_size : List (List ℕ) → ℕ
appends_size [] = 0
appends_size (frame ∷ frames) = 5 + length frame + appends_size frames
