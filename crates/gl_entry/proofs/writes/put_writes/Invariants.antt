use Rattle.std.proofs.Common.{◌≡◌, ◌++◌, drop}
use Rattle.std.specs.List.{flat_map}
use Rattle.gl_entry.specs.Entry.{write_bytes}
use Rattle.gl_entry.proofs.writes.put_writes.Given as goal

-- what is written and what is left to write make the whole
abbrev pub invariant-loop-write : goal.invariant-loop-write
invariant-loop-write l = l.out.items ++ flat_map write_bytes (drop l.write-index l.writes) ≡ l.fn.out.items ++ flat_map write_bytes l.writes
