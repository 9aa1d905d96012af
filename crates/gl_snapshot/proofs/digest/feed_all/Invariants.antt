use Rattle.std.proofs.Common.{take}
use Rattle.std.specs.List.{flat_map}
use Rattle.gl_entry.specs.Leaf.{Feeds}
use Rattle.gl_snapshot_body.specs.Body.{row_bytes}
use Rattle.gl_snapshot.proofs.digest.feed_all.Given as goal

-- what was fed so far
abbrev pub invariant-loop-row : goal.invariant-loop-row
invariant-loop-row l = Feeds l.fn.hasher l.hasher (flat_map row_bytes (take l.row-index l.rows))
