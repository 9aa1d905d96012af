use Rattle.std.proofs.Common.{◌∙◌, sym, ap, arith}
use Rattle.gl_ledger.specs.Snapshot.{snapshot_over}
use Rattle.gl_audit.specs.Ends.{end_over}
use Rattle.gl_audit.proofs.PastOver.{count_kept}
use Rattle.gl_audit.proofs.Snapshots.{all_taken}
use Rattle.gl_audit.proofs.ledger_state.LedgerState.snapshot.Goals as goal

pub snapshot_up_to-requires-clause-from_base : goal.snapshot_up_to-requires-clause-from_base
snapshot_up_to-requires-clause-from_base c = let s = c.requires.state in let count = count_kept s.0 s.1 c.args.self.now s.2 in omega (arith, count)

pub returns-clause-body : goal.returns-clause-body
returns-clause-body c = λ before es k.
    let all = all_taken before es c.args.self.now k in
    c.in_ok-body.ensures.body before es k (k.ends ∙ sym (ap (end_over before) all)) ∙ ap (snapshot_over before) all
