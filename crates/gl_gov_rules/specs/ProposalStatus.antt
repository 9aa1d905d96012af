-- The proposal that a request concerns, and its state.
use Rattle.std.specs.Prelude.{ℕ, List, Option, None, Some, option_map}
use Rattle.gl_requests.specs.Encoding.{proposal_id}
use Rattle.gl_requests.specs.declared.request.MemberAct.{MemberAct}
use Rattle.gl_requests.specs.declared.request.MemberAct.TheVariants as acts
use Rattle.gl_requests.specs.declared.request.MemberRequest.{MemberRequest}
use Rattle.gl_requests.specs.declared.request.GovernanceRequest.{GovernanceRequest}
use Rattle.gl_requests.specs.declared.request.GovernanceRequest.TheVariants as requests
use Rattle.gl_gov_rules.specs.declared.change.Proposal.{Proposal}
use Rattle.gl_gov_rules.specs.declared.change.ProposalStatus.{ProposalStatus}
use Rattle.gl_gov_rules.specs.History.{History}
use Rattle.gl_gov_rules.specs.Proposals.{proposal, proposal_state}

-- The proposal that a request makes, answers or takes back.
abbrev pub named_in_act : MemberRequest → MemberAct → Option (List ℕ)
named_in_act m acts.Ack = None
named_in_act m (acts.Propose list) = Some (proposal_id m)
named_in_act m (acts.Ballot id agrees) = Some id
named_in_act m (acts.Withdraw id) = Some id
named_in_act m (acts.Share share) = None

abbrev pub proposal_named : GovernanceRequest → Option (List ℕ)
proposal_named (requests.Member m) = named_in_act m m.act
proposal_named other = None

abbrev pub status_of : History → Proposal → ProposalStatus
status_of h p = record { id = p.id; state = proposal_state h p }

abbrev pub status_with : History → Option (List ℕ) → Option ProposalStatus
status_with h None = None
status_with h (Some id) = option_map (status_of h) (proposal h id)

-- The proposal that a request concerns, and its state after the request.
unfoldable pub proposal_status : History → GovernanceRequest → Option ProposalStatus
proposal_status h request = status_with h (proposal_named request)
