use Rattle.gl_gov_rules.specs.declared.change.Changed.{Changed}
use Rattle.gl_gov_rules.specs.Members.{member_named}
use Rattle.gl_gov_rules.specs.RequestFacts.{removed_in, trust_in, retirement_in}
use Rattle.gl_gov_rules.proofs.ByRequests.{all_more}
use Rattle.gl_gov_rules.proofs.index.ByChange.append.Goals as goal

pub returns : goal.returns
returns c = λ cs ds before more. record {
  members = all_more (λ (x : Changed). member_named x.change) cs ds _ _ _ before.members more.members c.append_reserved.ensures;
  removed = all_more (λ (x : Changed). removed_in x.change) cs ds _ _ _ before.removed more.removed c.append_reserved-2.ensures;
  trusts = all_more (λ (x : Changed). trust_in x.seqno x.change) cs ds _ _ _ before.trusts more.trusts c.append_reserved-3.ensures;
  retirements = all_more (λ (x : Changed). retirement_in x.seqno x.change) cs ds _ _ _ before.retirements more.retirements c.append_reserved-4.ensures;
}
