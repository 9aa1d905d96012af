use Rattle.std.proofs.Common.{◌∙◌, ap, subst, Result, arith}
use Rattle.gl_base.specs.Answers.{Answers}
use Rattle.gl_snapshot_body.specs.declared.fault.ShapeFault.{ShapeFault}
use Rattle.gl_snapshot.specs.Parsing.{decoded}
use Rattle.gl_snapshot.specs.declared.snapshot.GovernedSnapshot.{GovernedSnapshot}
use Rattle.gl_snapshot.specs.declared.snapshot.Snapshot.{Snapshot}
use Rattle.gl_snapshot.proofs.SnapshotLaws.{found, decoded-reads}
use Rattle.gl_snapshot.proofs.snapshot.Snapshot.decode.Goals as goal

pub returns-clause-found : goal.returns-clause-found
returns-clause-found c = found c.read_all.result c.args.bytes.now (λ i. omega (arith, c.type_inv.bytes i)) c.read_all.ensures.exact

pub returns-clause-only : goal.returns-clause-only
returns-clause-only c s is encoded =
    subst (λ (reading : Result Snapshot ShapeFault). Answers (λ (read : GovernedSnapshot). read.snapshot) c.read_all.result reading)
    (ap decoded encoded ∙ decoded-reads s is) c.read_all.ensures.exact
