use Rattle.std.proofs.Common.{◌≡◌, ◌≤◌, drop, length}
use Rattle.gl_attempt.specs.Asks.{asks_from, sees_by, first_unnoted, next_ask}
use Rattle.gl_attempt.proofs.asks.next_ask.Given as goal

-- All that the operations so far ask for is noted.
abbrev pub invariant-loop-operation : goal.invariant-loop-operation
invariant-loop-operation l = record {
  rest : first_unnoted l.reads (asks_from (drop l.operation-index l.operation-items) (sees_by l.reads) l.overlay.writes) ≡ next_ask l.request l.reads;
  same : l.overlay.base.now ≡ l.reads;
  few : length l.overlay.writes ≤ l.operation-index;
}
