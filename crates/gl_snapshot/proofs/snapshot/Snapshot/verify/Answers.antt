use Rattle.std.proofs.Common.{◌≡◌, ◌↔◌, Ok, Result, sym, subst}
use Rattle.gl_base.specs.declared.tx_id.TxId.{TxId}
use Rattle.gl_snapshot.specs.Verdict.{Shows}
use Rattle.gl_snapshot.specs.declared.fault.SnapshotFault.{SnapshotFault}
use Rattle.gl_snapshot.proofs.Verdicts.{verified-shows}
use Rattle.gl_snapshot.proofs.snapshot.Snapshot.verify.Goals as goal

pub returns-clause-shows : goal.returns-clause-shows
returns-clause-shows c id =
    subst (λ (r : Result TxId SnapshotFault). (r ≡ Ok id) ↔ Shows c.args.identity.now c.args.self.now id) (sym c.check.ensures.exact)
    (verified-shows c.args.identity.now c.args.self.now c.check.ensures.accepts id)
