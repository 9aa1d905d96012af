use Rattle.std.proofs.Common.{◌≡◌, drop}
use Rattle.gl_attempt.specs.Asks.{rows_written, first_unnoted}
use Rattle.gl_attempt.proofs.asks.written_ask.Given as goal

-- All rows so far are to other maps, or noted.
abbrev pub invariant-loop-write : goal.invariant-loop-write
invariant-loop-write l =
    first_unnoted l.overlay.base.now (rows_written l.map (drop l.write-index l.write-items))
    ≡ first_unnoted l.overlay.base.now (rows_written l.map l.overlay.writes)
