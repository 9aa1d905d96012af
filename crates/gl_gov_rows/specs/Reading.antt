-- The parts of the values of rows of governance, and what the reading of a row comes to.
use Rattle.std.specs.Prelude.{ℕ, List, [], ◌∷◌, Option, Some, Result, Ok, Err, find, map, nat_eq, if◌then◌else◌}
use Rattle.std.specs.List.{range_with_len}
use Rattle.gl_base.specs.Steps.{◌>>=◌}
use Rattle.gl_base.specs.Cut.{Unread, number_at}
use Rattle.gl_base.specs.Code.{field, flag_at}
use Rattle.gl_base.specs.declared.fault.CodeFault.{CodeFault}
use Rattle.gl_base.specs.declared.or_no_memory.OrNoMemory.{OrNoMemory}
use Rattle.gl_base.specs.declared.or_no_memory.OrNoMemory.TheVariants.{NoMemory, Fault}
use Rattle.gl_vmaps.specs.Name.{is_governance}
use Rattle.gl_vmaps.specs.declared.row.Row.{Row}
use Rattle.gl_requests.specs.declared.genesis.ServiceState.{ServiceState}
use Rattle.gl_requests.specs.declared.genesis.ServiceState.TheVariants as services
use Rattle.gl_gov_rules.specs.declared.change.ProposalState.{ProposalState}
use Rattle.gl_gov_rules.specs.declared.change.ProposalState.TheVariants as states
use Rattle.gl_gov_rules.specs.declared.refusal.MemberStatus.{MemberStatus}
use Rattle.gl_gov_rules.specs.declared.refusal.MemberStatus.TheVariants as members
use Rattle.gl_gov_rules.specs.declared.refusal.NodeStatus.{NodeStatus}
use Rattle.gl_gov_rules.specs.declared.refusal.NodeStatus.TheVariants as nodes
use Rattle.gl_gov_rules.specs.declared.row.Vote.{Vote}
use Rattle.gl_gov_rules.specs.declared.row.NodeRow.{NodeRow}
use Rattle.gl_gov_rules.specs.declared.row.GovernedRows.{GovernedRows}
use Rattle.gl_gov_rules.specs.GovernedRows.{later_member, with_row, with_next}

-- All of each kind, in the order of their bytes.
abbrev pub service_states : List ServiceState
service_states = services.Opening ∷ services.Open ∷ services.WaitingForRecoveryShares ∷ []

abbrev pub member_statuses : List MemberStatus
member_statuses = members.Accepted ∷ members.Active ∷ members.Removed ∷ []

abbrev pub node_statuses : List NodeStatus
node_statuses = nodes.Pending ∷ nodes.Trusted ∷ nodes.Retired ∷ nodes.Marked ∷ []

abbrev pub proposal_states : List ProposalState
proposal_states =
    states.Open ∷ states.Accepted ∷ states.Rejected ∷ states.Withdrawn ∷ states.Failed
    ∷ states.Dropped ∷ []

-- A ballot of a member with a number above the last one's.
unfoldable pub vote_at : ℕ → Unread → Result (Vote × Unread) CodeFault
vote_at last u = do
  member ← field (number_at 1 u) >>= later_member last u.at
  agrees ← flag_at member.1
  Ok (record { member = member.0; agrees = agrees.0 }, agrees.1)

-- The first node with a number, and so many numbers from 1 with the first node of each.
abbrev pub node_numbered : List NodeRow → ℕ → Option NodeRow
node_numbered ns number = find (λ (x : NodeRow). nat_eq x.order number) ns

abbrev pub by_number : List NodeRow → ℕ → List (Option NodeRow)
by_number ns count = map (node_numbered ns) (range_with_len 1 count)

-- What stands at all of these places, None where one is free.
abbrev pub all_of : List (Option NodeRow) → Option (List NodeRow)
all_of [] = Some []
all_of (place ∷ places) = with_next place (all_of places)

-- What a row adds, where it is one of governance; None where that doesn't spell.
abbrev pub with_governed : GovernedRows → Row → Option GovernedRows
with_governed g r = if is_governance r.map then with_row g r else Some g

-- What a reading answers, with a fault told by the index of its row.
abbrev pub at_index : {X : Type 0} → ℕ → Result X (OrNoMemory CodeFault) → Result X (OrNoMemory ℕ)
at_index index (Ok x) = Ok x
at_index index (Err NoMemory) = Err NoMemory
at_index index (Err (Fault fault)) = Err (Fault index)
