use Rattle.std.proofs.Common.{take}
use Rattle.std.specs.List.{flat_map}
use Rattle.gl_entry.specs.Leaf.{Feeds}
use Rattle.gl_snapshot_body.specs.Body.{start_bytes}
use Rattle.gl_snapshot.proofs.digest.feed_starts.Given as goal

-- what was fed so far
abbrev pub invariant-loop-start : goal.invariant-loop-start
invariant-loop-start l = Feeds l.fn.hasher l.hasher (flat_map start_bytes (take l.start-index l.starts))
