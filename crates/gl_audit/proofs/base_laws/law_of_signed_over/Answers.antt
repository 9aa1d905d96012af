use Rattle.gl_snapshot_body.specs.declared.body.Body.{Body}
use Rattle.gl_audit.proofs.SnapshotOver.{signs_before, signs_here, last_signed_pushed, commit_from-push}
use Rattle.gl_audit.proofs.base_laws.law_of_signed_over.Goals as goal

pub returns : goal.returns
returns c = record {
  before = signs_before;
  here = signs_here;
  last = last_signed_pushed;
  commit = λ (body : Body). commit_from-push body.commit;
}
