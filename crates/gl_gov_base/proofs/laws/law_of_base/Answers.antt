use Rattle.std.proofs.Common.{ap}
use Rattle.gl_gov_rules.specs.Service.{threshold_of}
use Rattle.gl_gov_base.proofs.AcceptedOver.{governed_over}
use Rattle.gl_gov_base.proofs.AlwaysRead.{always_read}
use Rattle.gl_gov_base.proofs.AtBase.{alike_over, effects_over, share_counts}
use Rattle.gl_gov_base.proofs.SameReadings.{same_trusted}
use Rattle.gl_gov_base.proofs.SameRefusals.{same_refusal}
use Rattle.gl_gov_base.proofs.SameRows.{same_member_rows, same_nodes, same_service, same_all, same_proposal_status}
use Rattle.gl_gov_base.proofs.laws.law_of_base.Goals as goal

pub returns : goal.returns
returns c = record {
  read = λ base all rs is governed some. always_read rs governed base is.low is.fits some all is.left;
  refusals = λ base all g rs es over seqno request high fits. same_refusal base _ _ (alike_over base all g rs es over) seqno high request fits;
  effects = effects_over;
  statuses = λ base all g rs es over. same_proposal_status base _ _ (alike_over base all g rs es over);
  rows = λ base all g rs es over. same_all base _ _ (alike_over base all g rs es over);
  service = λ base all g rs es over. same_service base _ _ (alike_over base all g rs es over);
  nodes = λ base all g rs es over. same_nodes base _ _ (alike_over base all g rs es over);
  trusted = λ base all g rs es over. same_trusted base _ _ (alike_over base all g rs es over);
  marks = λ base all g rs es over. (alike_over base all g rs es over).marks;
  shares = share_counts;
  needed = λ base all g rs es over. ap threshold_of (alike_over base all g rs es over).dealing;
  members = λ base all g rs es over. same_member_rows base _ _ (alike_over base all g rs es over);
  accepted = governed_over;
}
