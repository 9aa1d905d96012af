use Rattle.std.proofs.Common.{◌++◌, ◌∙◌, ap}
use Rattle.std.specs.Option.{option_to_list}
use Rattle.gl_gov_rules.specs.declared.change.Changed.{Changed}
use Rattle.gl_gov_rules.specs.Members.{member_named}
use Rattle.gl_gov_rules.specs.RequestFacts.{removed_in, trust_in, retirement_in}
use Rattle.gl_gov_rules.proofs.ByRequests.{one_more}
use Rattle.gl_gov_rules.proofs.index.ByChange.push.Goals as goal

pub returns : goal.returns
returns c = λ cs before. record {
  members = one_more (λ (x : Changed). member_named x.change) cs c.args.changed.now _ _ before.members
      (c.in_ok-push_some.ensures ∙ ap (λ o. c.args.self.now.members.items ++ option_to_list o) c.member_named.ensures);
  removed = one_more (λ (x : Changed). removed_in x.change) cs c.args.changed.now _ _ before.removed
      (c.in_ok-push_some-2.ensures ∙ ap (λ o. c.args.self.now.removed.items ++ option_to_list o) c.removed_in.ensures);
  trusts = one_more (λ (x : Changed). trust_in x.seqno x.change) cs c.args.changed.now _ _ before.trusts
      (c.in_ok-push_some-3.ensures ∙ ap (λ o. c.args.self.now.trusts.items ++ option_to_list o) c.trust_in.ensures);
  retirements = one_more (λ (x : Changed). retirement_in x.seqno x.change) cs c.args.changed.now _ _ before.retirements
      (c.in_ok-push_some-4.ensures ∙ ap (λ o. c.args.self.now.retirements.items ++ option_to_list o) c.retirement_in-retirement.ensures);
}
