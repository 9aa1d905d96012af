use Rattle.std.proofs.Common.{◌≡◌, ◌≤◌, ◌+◌, ◌++◌, length}
use Rattle.std.specs.Vec.Iter.{into_iter_items, into_iter_len}
use Rattle.gl_schedule.proofs.Played.{Played}
use Rattle.gl_schedule.proofs.player.play.Given as goal

-- what is written so far is what is told so far
abbrev pub invariant-loop-line : goal.invariant-loop-line
invariant-loop-line g l = record {
  all : l.yielded ++ into_iter_items l.line-iterator ≡ l.fn.lines;
  len : into_iter_len l.line-iterator ≡ length (into_iter_items l.line-iterator);
  number : l.number ≡ length l.yielded + 2;
  played : Played (g.K.Sink.holds l.fn.sink) (g.K.Sink.holds l.sink) l.fn.settings l.fn.lines (length l.yielded) l.machine;
  never_falls : g.K.Sink.faults l.fn.sink ≤ g.K.Sink.faults l.sink;
}
