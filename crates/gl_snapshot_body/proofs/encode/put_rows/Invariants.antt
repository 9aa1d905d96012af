use Rattle.std.proofs.Common.{◌≡◌, ◌++◌, take}
use Rattle.std.specs.List.{flat_map}
use Rattle.gl_snapshot_body.specs.Body.{row_bytes}
use Rattle.gl_snapshot_body.proofs.encode.put_rows.Given as goal

-- what is written so far
abbrev pub invariant-loop-row : goal.invariant-loop-row
invariant-loop-row l = l.out.items ≡ l.fn.out.items ++ flat_map row_bytes (take l.row-index l.rows)
