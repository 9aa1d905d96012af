-- The view and the vote that a file keeps of a node once its service opens, and why it may not.
use Rattle.std.specs.Prelude.{◌≡◌, ℕ, ◌^◌, ◌≤◌, List, [], ◌∷◌, max, Result, Ok, if◌then◌else◌}
use Rattle.gl_rules.specs.World.{Start}
use Rattle.gl_entry.specs.declared.entry.Entry.{Entry}
use Rattle.gl_journal.specs.Durable.{Durable}
use Rattle.gl_journal.specs.Records.{RecordValue, Vote}
use Rattle.gl_journal.specs.declared.fault.JournalFault.TheVariants as disks
use Rattle.gl_store_book.specs.AtOpening.{opening_size, opening_view, vote_at_opening, vote_records}
use Rattle.gl_store_book.specs.declared.node_file.fault.OpeningFault.{OpeningFault}
use Rattle.gl_store_book.specs.declared.node_file.fault.OpeningFault.TheVariants as faults
use Rattle.gl_store_book.specs.declared.node_file.opening_batch.ViewVote.{ViewVote}

-- Their record, where the file has another view or vote.
abbrev pub view_vote_records : ViewVote → List RecordValue
view_vote_records t = if t.is_new then Vote t.view t.vote ∷ [] else []

-- They are those of the node of a file once its service opens.
pub record IsViewVoteOf (s : Start Entry) (d : Durable) (t : ViewVote) : Type 0 where
  pub view : t.view ≡ max d.view (opening_view s)
  pub vote : t.vote ≡ vote_at_opening s d
  pub records : view_vote_records t ≡ vote_records d t.view t.vote

-- The batch that would keep the opening ledger has so many bytes, more than a length has room for.
abbrev pub IsTooLarge : Result (Start Entry) ℕ → Durable → ℕ → Type 0
IsTooLarge start d size =
    (s : Start Entry) × (start ≡ Ok s) × (size ≡ opening_size s d) × (2 ^ 32 ≤ size)

-- A fault that an opening ledger may have, or the disk.
abbrev pub IsOfOpening : OpeningFault → Type 0
IsOfOpening (faults.Journal fault) = fault ≡ disks.DiskFault
IsOfOpening (faults.KeyKind want got) = ⊥
IsOfOpening (faults.NotOpening seqno) = Unit {0}
IsOfOpening (faults.TooLarge size) = Unit {0}
