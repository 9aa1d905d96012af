use Rattle.std.proofs.Common.{◌≡◌, ◌≤◌, [], length, drop, suc}
use Rattle.gl_tx.specs.Run.{run_from}
use Rattle.gl_tx.proofs.RunLaws.{so_far}
use Rattle.gl_tx.proofs.runs.answers_to.Given as goal

-- The answers so far and what the rest gives are what all operations give.
abbrev pub invariant-loop-i : goal.invariant-loop-i
invariant-loop-i g l = record {
  reported : so_far l.answers.items (run_from (suc l.i) (drop l.i l.operations) (g.L.Lookup.sees l.overlay.base.now) l.overlay.writes)
      ≡ run_from 1 l.operations (g.L.Lookup.sees l.fn.overlay.base.now) [];
  same : l.overlay.base.now ≡ l.fn.overlay.base.now;
  each : length l.answers.items ≡ l.i;
  few : length l.overlay.writes ≤ l.i;
}
