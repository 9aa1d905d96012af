use Rattle.std.proofs.Common.{◌≡◌, ◌+◌, IsOk, length, IfSome, option_map}
use Rattle.gl_journal.specs.Gates.{payloads_from}
use Rattle.gl_journal.specs.Durable.{fold_opening}
use Rattle.gl_journal.specs.RecordView.{state_of, StandsOn}
use Rattle.gl_journal.proofs.folding.fold_payloads.Given as goal

abbrev pub invariant-loop-suffix : goal.invariant-loop-suffix
invariant-loop-suffix g l = record {
  opens : IsOk (payloads_from l.place l.rest);
  stands : IfSome l.state (λ d. StandsOn g.L.EntryLog.snapshot d);
  folded : fold_opening g.L.EntryLog.goes_on 8 (payloads_from 8 l.batches) (option_map (state_of g.L.EntryLog.frames) l.fn.state) ≡ fold_opening g.L.EntryLog.goes_on l.place (payloads_from l.place l.rest) (option_map (state_of g.L.EntryLog.frames) l.state);
  size : l.place + length l.rest ≡ 8 + length l.batches;
}

abbrev pub decreases-loop-suffix : goal.decreases-loop-suffix
decreases-loop-suffix g l = length l.rest
