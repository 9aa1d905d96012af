use Rattle.std.proofs.Common.{◌≡◌, ◌≤◌, ◌*◌, length, take}
use Rattle.std.specs.List.{flat_map}
use Rattle.gl_entry.specs.Entry.{write_bytes}
use Rattle.gl_entry.proofs.lengths.writes_len.Given as goal

-- the length of the writes so far, which is within a limit
abbrev pub invariant-loop-write : goal.invariant-loop-write
invariant-loop-write l = record {
  exact : l.len ≡ length (flat_map write_bytes (take l.write-index l.writes));
  limit : l.len ≤ l.write-index * 66696;
}
