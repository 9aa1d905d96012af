use Rattle.gl_gov_base.proofs.RequestsOver.{over_rise, over_pushed, over_cut, whole_over, no_base, seqno_read}
use Rattle.gl_gov_base.proofs.WholeOver.{whole_behind, behind_whole}
use Rattle.gl_gov_base.proofs.laws_over.law_of_requests_over.Goals as goal

pub returns : goal.returns
returns c = record {
  rising = over_rise;
  pushed = over_pushed;
  cut = over_cut;
  whole = whole_over;
  no_base = no_base;
  above = whole_behind;
  governed = behind_whole;
  seqno = seqno_read;
}
