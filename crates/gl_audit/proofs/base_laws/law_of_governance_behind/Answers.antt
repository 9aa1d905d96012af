use Rattle.gl_audit.proofs.GovernanceBehind.{numbered_over, governed_over, follows_over, read_in_order, bounded_behind}
use Rattle.gl_audit.proofs.base_laws.law_of_governance_behind.Goals as goal

pub returns : goal.returns
returns c = record {
  numbered = numbered_over;
  governed = governed_over;
  follows = follows_over;
  read = read_in_order;
  bounded = bounded_behind;
}
