use Rattle.std.proofs.Common.{◌≡◌, ℕ, ◌+◌, List, length}
use Rattle.gl_journal.specs.Parts.{Parts}
use Rattle.gl_journal.proofs.reader.end_of_batches.Given as goal

abbrev pub invariant-loop-suffix : goal.invariant-loop-suffix
invariant-loop-suffix l = record {
  parts : (payloads : List (List ℕ)) × Parts l.at l.bytes payloads l.place l.rest;
  size : l.place + length l.rest ≡ l.at + length l.bytes;
}

abbrev pub decreases-loop-suffix : goal.decreases-loop-suffix
decreases-loop-suffix l = length l.rest
