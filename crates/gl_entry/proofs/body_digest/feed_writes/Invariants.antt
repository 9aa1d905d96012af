use Rattle.std.proofs.Common.{take}
use Rattle.std.specs.List.{flat_map}
use Rattle.gl_entry.specs.Entry.{write_bytes}
use Rattle.gl_entry.specs.Leaf.{Feeds}
use Rattle.gl_entry.proofs.body_digest.feed_writes.Given as goal

-- the writes so far were fed
abbrev pub invariant-loop-write : goal.invariant-loop-write
invariant-loop-write l = Feeds l.fn.hasher l.hasher (flat_map write_bytes (take l.write-index l.writes))
