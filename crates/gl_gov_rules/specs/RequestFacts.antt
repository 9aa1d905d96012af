-- What a request tells of a node that it marks, and of the member who signed it; and what a change
-- tells of the member or the nodes that it removes, and of the node that it trusts. Each is kept
-- beside a history.
use Rattle.std.specs.Prelude.{ℕ, suc, Option, None, Some, nat_eq, if◌then◌else◌}
use Rattle.gl_requests.specs.declared.action.Action.TheVariants as actions
use Rattle.gl_requests.specs.declared.request.MemberRequest.{MemberRequest}
use Rattle.gl_requests.specs.declared.request.GovernanceRequest.{GovernanceRequest}
use Rattle.gl_requests.specs.declared.request.GovernanceRequest.TheVariants as requests
use Rattle.gl_gov_rules.specs.declared.change.Change.{Change}
use Rattle.gl_gov_rules.specs.declared.change.Change.TheVariants as changes
use Rattle.gl_gov_rules.specs.declared.request_facts.Mark.{Mark}
use Rattle.gl_gov_rules.specs.declared.request_facts.Trust.{Trust}
use Rattle.gl_gov_rules.specs.declared.request_facts.Retirement.{Retirement}
use Rattle.gl_gov_rules.specs.declared.request_facts.Signed.{Signed}
use Rattle.gl_gov_rules.specs.Members.{is_ack}
use Rattle.gl_gov_rules.specs.Signatures.{leaf_of}

-- The number of the member whose removal the change applies.
abbrev pub removed_in : Change → Option ℕ
removed_in (changes.Applied (actions.RemoveMember number)) = Some number
removed_in other = None

-- The trust of a node that a change applies.
abbrev pub trust_in : ℕ → Change → Option Trust
trust_in seqno (changes.Applied (actions.TransitionNodeToTrusted id)) =
    Some (record { id = id; seqno = seqno })
trust_in seqno other = None

-- What takes a node out of service, or by a recovery all nodes.
abbrev pub retirement_in : ℕ → Change → Option Retirement
retirement_in seqno (changes.Recovered key) = Some (record { seqno = seqno; id = None })
retirement_in seqno (changes.Applied (actions.RemoveNode id)) =
    Some (record { seqno = seqno; id = Some id })
retirement_in seqno other = None

-- The mark of a node.
abbrev pub mark_in : ℕ → GovernanceRequest → Option Mark
mark_in seqno (requests.Mark id) = Some (record { id = id; seqno = seqno })
mark_in seqno other = None

-- What is told of its signer.
abbrev pub signed_in : ℕ → MemberRequest → Signed
signed_in seqno m =
    record { seqno = seqno; next_leaf = suc (leaf_of m.signature); is_ack = is_ack m.act }

abbrev pub signed_by : ℕ → ℕ → GovernanceRequest → Option Signed
signed_by number seqno (requests.Member m) =
    if nat_eq m.member number then Some (signed_in seqno m) else None
signed_by number seqno other = None
