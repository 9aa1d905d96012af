use Rattle.std.proofs.Common.{◌≡◌, ◌+◌, length, IfSome, option_map}
use Rattle.gl_journal.specs.Durable.{fold_payload}
use Rattle.gl_journal.specs.RecordView.{state_of, StandsOn}
use Rattle.gl_journal.proofs.folding.fold_payload.Given as goal

abbrev pub invariant-loop-kind : goal.invariant-loop-kind
invariant-loop-kind g l = record {
  stands : IfSome l.state (λ d. StandsOn g.L.EntryLog.snapshot d);
  folded : fold_payload g.L.EntryLog.goes_on l.at l.payload (option_map (state_of g.L.EntryLog.frames) l.fn.state) ≡ fold_payload g.L.EntryLog.goes_on l.place l.rest (option_map (state_of g.L.EntryLog.frames) l.state);
  size : l.place + length l.rest ≡ l.at + length l.payload;
}

abbrev pub decreases-loop-kind : goal.decreases-loop-kind
decreases-loop-kind g l = length l.rest
