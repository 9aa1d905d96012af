use Rattle.gl_audit.proofs.SnapshotOver.{requests_over-push}
use Rattle.gl_audit.proofs.TablesOver.{tables_over-push, leaves_pushed, length-leaves_over, peaks_pushed}
use Rattle.gl_audit.proofs.base_laws.law_of_pushed.Goals as goal

pub returns : goal.returns
returns c = record {
  tables = tables_over-push;
  leaves = leaves_pushed;
  leaf_count = length-leaves_over;
  peaks = peaks_pushed;
  requests = requests_over-push;
}
