use Rattle.gl_audit.proofs.SnapshotOver.{base_pushed, view_pushed, commit_pushed, views_pushed, rows_pushed, rows_ascend}
use Rattle.gl_audit.proofs.base_laws.law_of_snapshot_over.Goals as goal

pub returns : goal.returns
returns c = record {
  base = base_pushed;
  view = view_pushed;
  commit = commit_pushed;
  views = views_pushed;
  rows = rows_pushed;
  ascending = rows_ascend;
}
