use Rattle.std.proofs.Common.{◌≡◌, ◌++◌, take}
use Rattle.std.specs.List.{flat_map}
use Rattle.gl_snapshot_body.specs.Body.{start_bytes}
use Rattle.gl_snapshot_body.proofs.encode.put_starts.Given as goal

-- what is written so far
abbrev pub invariant-loop-start : goal.invariant-loop-start
invariant-loop-start l = l.out.items ≡ l.fn.out.items ++ flat_map start_bytes (take l.start-index l.starts)
