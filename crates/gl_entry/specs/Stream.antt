-- The entries of a ledger's bytes, one frame after the other.
use Rattle.std.specs.Prelude.{◌≡◌, ◌⊎◌, ℕ, ◌+◌, ◌≤◌, List, [], ◌∷◌, ◌++◌, Bool, true, Option, None, Some, Result, Ok, Err, length}
use Rattle.std.specs.Io.KnownBytes.{IsAtEnd}
use Rattle.gl_base.specs.Steps.{◌>>=◌}
use Rattle.gl_base.specs.Code.{unread_of}
use Rattle.gl_base.specs.Cut.{Unread}
use Rattle.gl_entry.specs.Parsing.{size_at, frame_at}
use Rattle.gl_entry.specs.declared.entry.Entry.{Entry}
use Rattle.gl_entry.specs.declared.fault.EntryFault.{EntryFault}

-- The next entry of a ledger of which these bytes are left, and the bytes after its frame; none
-- where no bytes are left.
unfoldable pub next_entry : List ℕ → Result (Option (Entry × List ℕ)) EntryFault
next_entry [] = Ok None
next_entry (byte ∷ bytes) =
    frame_at (unread_of (byte ∷ bytes)) >>= λ read. Ok (Some (read.0, read.1.bytes))

-- The bytes of a ledger that are still to be read: those that are kept, and those that the source
-- has left, where it tells them.
abbrev pub to_read : List ℕ → Option (List ℕ) → Option (List ℕ)
to_read kept None = None
to_read kept (Some left) = Some (kept ++ left)

-- The next entry of these bytes, or none where there are none, and what is left after it.
abbrev pub GivesNext : List ℕ → Option Entry → Option (List ℕ) → Type 0
GivesNext bytes None left = bytes ≡ []
GivesNext bytes (Some e) left =
    (rest : List ℕ) × (next_entry bytes ≡ Ok (Some (e, rest))) × (left ≡ Some rest)

-- How it is found in the bytes that are kept

-- How many bytes it takes to know the next entry: a whole frame, or the 8 bytes of its head where
-- that lacks bytes or is bad.
abbrev pub size_wanted : Result (ℕ × Unread) EntryFault → ℕ
size_wanted (Ok size) = 8 + size.0
size_wanted (Err fault) = 8

abbrev pub wanted : List ℕ → ℕ
wanted bytes = size_wanted (size_at (unread_of bytes))

-- Bytes that are still to come don't change the next entry: enough are kept, or the source gave its
-- end.
abbrev pub IsSettled : List ℕ → Option (List ℕ) → Bool → Type 0
IsSettled kept left ended = (wanted kept ≤ length kept) ⊎ (IsAtEnd left × (ended ≡ true))

-- The next entry was taken from the start of the bytes, if there are any.
abbrev pub TakesNext : List ℕ → Option Entry → List ℕ → Type 0
TakesNext old None new = (old ≡ []) × (new ≡ [])
TakesNext old (Some e) new = next_entry old ≡ Ok (Some (e, new))
