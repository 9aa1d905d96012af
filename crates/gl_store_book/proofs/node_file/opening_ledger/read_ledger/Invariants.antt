use Rattle.std.proofs.Common.{◌≡◌, ◌-◌, ◌++◌, length, take}
use Rattle.std.specs.List.{flat_map}
use Rattle.gl_entry.specs.Entry.{frame_bytes}
use Rattle.gl_ledger.specs.Recordings.{last_entry}
use Rattle.gl_ledger.specs.Past.{is_unopened}
use Rattle.gl_store_book.specs.ServiceStart.{start_after, start_in}
use Rattle.gl_store_book.proofs.node_file.opening_ledger.read_ledger.Given as goal

-- what was read are the frames of the ledger so far
abbrev pub invariant-loop-begun : goal.invariant-loop-begun
invariant-loop-begun l = record {
  start : start_in l.bytes ≡ start_after l.ledger l.rest;
  frames : l.bytes ≡ flat_map frame_bytes l.ledger ++ l.rest;
  begun : l.begun ≡ is_unopened (last_entry (take (length l.ledger - 1) l.ledger));
}

abbrev pub decreases-loop-begun : goal.decreases-loop-begun
decreases-loop-begun l = length l.rest
