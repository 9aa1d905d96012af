-- What is taken of a ledger file, from the start of the bytes that are still to be read.
use Rattle.std.specs.Prelude.{◌≡◌, ℕ, List, [], ◌∷◌, Option, None, Some, true}
use Rattle.std.specs.List.{list_all}
use Rattle.gl_entry.specs.Entry.{is_entry}
use Rattle.gl_entry.specs.declared.entry.Entry.{Entry}
use Rattle.gl_entry.specs.declared.fault.EntryFault.{EntryFault}
use Rattle.gl_entry.specs.SourceBytes.{OfBytes}
use Rattle.gl_entry.specs.LedgerFile.{ledger_file, no_entries, with_entries}
use Rattle.gl_entry.specs.declared.next.Next.{Next}
use Rattle.gl_entry.specs.declared.next.Next.TheVariants as nexts

-- The bytes that are still to be read were a file that begins with these entries, and now they are
-- the file after them; where they are known.
abbrev pub Reads : Option (List ℕ) → List Entry → Option (List ℕ) → Type 0
Reads None taken left = Unit {0}
Reads (Some bytes) taken None = ⊥
Reads (Some bytes) taken (Some rest) = ledger_file bytes ≡ with_entries taken (ledger_file rest)

-- These entries were taken from the start of the bytes that are still to be read.
abbrev pub Consumes : Option (List ℕ) → List Entry → Option (List ℕ) → Type 0
Consumes old taken new = (list_all is_entry taken ≡ true) × Reads old taken new

-- The next entry was taken; or the bytes that are still to be read are at their end, or begin with
-- no frame.
abbrev pub IsNext : Option (List ℕ) → Next → Option (List ℕ) → Type 0
IsNext old (nexts.Entry e) new = Consumes old (e ∷ []) new
IsNext old nexts.End new = OfBytes old (λ bytes. ledger_file bytes ≡ no_entries None)
IsNext old nexts.Unread new =
    OfBytes old (λ bytes. (fault : EntryFault) × (ledger_file bytes ≡ no_entries (Some fault)))
