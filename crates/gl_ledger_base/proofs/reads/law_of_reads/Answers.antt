use Rattle.gl_ledger_base.proofs.LedgersReads.{read_at_base, read_behind, read_commit, read_evidence, read_signature, read_signature_upto, read_view}
use Rattle.gl_ledger_base.proofs.reads.law_of_reads.Goals as goal

pub returns : goal.returns
returns c = record {
  views = read_view;
  last_signature = read_signature;
  signature_upto = read_signature_upto;
  signature_at_base = read_at_base;
  signature_behind = read_behind;
  commit = read_commit;
  evidence = read_evidence;
}
