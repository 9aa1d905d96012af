use Rattle.std.proofs.Common.{◌≡◌, None}
use Rattle.gl_snapshot_body.specs.Parsing.{repeated_at, row_at}
use Rattle.gl_snapshot_body.proofs.Loop.{suffix}
use Rattle.gl_snapshot_body.proofs.decode.read_ascending.Given as goal

-- what was read and what is still to be read make the whole
abbrev pub invariant-loop : goal.invariant-loop
invariant-loop l = suffix row_at l.rows.items l.count l.counter l.cut ≡ repeated_at row_at None l.count l.fn.cut
