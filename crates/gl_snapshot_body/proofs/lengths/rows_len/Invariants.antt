use Rattle.std.proofs.Common.{◌≡◌, ◌≤◌, ◌*◌, length, take}
use Rattle.std.specs.List.{flat_map}
use Rattle.gl_snapshot_body.specs.Body.{row_bytes}
use Rattle.gl_snapshot_body.proofs.lengths.rows_len.Given as goal

-- the length of the rows so far, which is within a limit
abbrev pub invariant-loop-row : goal.invariant-loop-row
invariant-loop-row l = record {
  exact : l.len ≡ length (flat_map row_bytes (take l.row-index l.rows));
  limit : l.len ≤ l.row-index * 66695;
}
