use Rattle.std.proofs.Common.{refl, subst, ◌∙◌}
use Rattle.gl_base.specs.Answers.{Answers}
use Rattle.gl_ledger.specs.Tree.{writes_of}
use Rattle.gl_snapshot_body.specs.Body.{body_bytes}
use Rattle.gl_snapshot_body.specs.Digest.{digest_within}
use Rattle.gl_snapshot_body.specs.declared.body.Body.{Body}
use Rattle.gl_audit.proofs.Snapshots.{rows_ascending, snapshot_kept}
use Rattle.gl_audit.proofs.ledger_state.LedgerState.snapshot_digest.Goals as goal

pub returns : goal.returns
returns c = λ before es k.
    subst (λ (body : Body). Answers (λ digest. digest) c.digest_of_body.result (digest_within (body_bytes body)))
    (snapshot_kept before es c.args.self.now _ k refl c.view.ensures c.greatest_commit.ensures c.deref.ensures.value (c.deref-2.ensures.value ∙ c.in_ok-peaks.ensures.peaks before es k) refl)
    (c.digest_of_body.ensures before.rows (writes_of es) (rows_ascending before k.read) k.tables_are)
