use Rattle.gl_gov_rules.specs.declared.change.Changed.{Changed}
use Rattle.gl_gov_rules.specs.Members.{member_named}
use Rattle.gl_gov_rules.specs.RequestFacts.{removed_in, trust_in, retirement_in}
use Rattle.gl_gov_rules.proofs.ByRequests.{reported_left}
use Rattle.gl_gov_rules.proofs.index.ByChange.cut.Goals as goal

pub returns : goal.returns
returns c = λ n cs left before. record {
  members = reported_left (λ (x : Changed). member_named x.change) n _ cs c.args.left.now _ _ left before.members c.named_count.ensures c.truncate.ensures.items;
  removed = reported_left (λ (x : Changed). removed_in x.change) n _ cs c.args.left.now _ _ left before.removed c.removed_count.ensures c.truncate-2.ensures.items;
  trusts = reported_left (λ (x : Changed). trust_in x.seqno x.change) n _ cs c.args.left.now _ _ left before.trusts c.trust_count.ensures c.truncate-3.ensures.items;
  retirements = reported_left (λ (x : Changed). retirement_in x.seqno x.change) n _ cs c.args.left.now _ _ left before.retirements c.retirement_count.ensures c.truncate-4.ensures.items;
}
