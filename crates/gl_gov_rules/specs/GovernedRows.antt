-- The rows of governance as values, read off a snapshot's rows, and the history that begins with
-- them.
use Rattle.std.specs.Prelude.{ℕ, ◌≤◌, zero, suc, List, [], ◌∷◌, ◌++◌, Option, None, Some, Bool, true, false, ◌&&◌, ◌||◌, not, Result, Ok, Err, length, map, min, filter, filter_map, fold, find, is_some, nat_le, nat_lt, nat_eq, slice_index_or, ◌==◌, if◌then◌else◌}
use Rattle.std.specs.List.{flat_map}
use Rattle.std.specs.Result.{result_ok}
use Rattle.sha2.specs.Sha256.{sha256}
use Rattle.gl_base.specs.Bytes.{same_bytes, mebibyte}
use Rattle.gl_base.specs.Steps.{◌>>=◌}
use Rattle.gl_base.specs.Cut.{Unread, bytes_at, number_at, string_at}
use Rattle.gl_base.specs.Code.{field, flag_at, whole}
use Rattle.gl_base.specs.declared.fault.CodeFault.{CodeFault}
use Rattle.gl_base.specs.declared.fault.CodeFault.TheVariants as faults
use Rattle.gl_vmaps.specs.Name.{is_governance}
use Rattle.gl_vmaps.specs.declared.row.Row.{Row}
use Rattle.gl_shares.specs.declared.share.Share.{Share}
use Rattle.gl_requests.specs.Encoding.{state_byte, action_bytes}
use Rattle.gl_requests.specs.Parsing.{rule_at, dealing_at, digest_at, node_at, action_at, member_number_at}
use Rattle.gl_requests.specs.declared.genesis.ServiceState.TheVariants as services
use Rattle.gl_requests.specs.declared.genesis.NewMember.{NewMember}
use Rattle.gl_requests.specs.declared.genesis.Dealing.{Dealing}
use Rattle.gl_requests.specs.declared.action.Action.{Action}
use Rattle.gl_requests.specs.declared.action.Action.TheVariants as actions
use Rattle.gl_gov_rules.specs.declared.change.RecordedNode.{RecordedNode}
use Rattle.gl_gov_rules.specs.declared.change.Proposal.{Proposal}
use Rattle.gl_gov_rules.specs.declared.change.ProposalState.TheVariants as states
use Rattle.gl_gov_rules.specs.declared.change.Change.{Change}
use Rattle.gl_gov_rules.specs.declared.change.Change.TheVariants as changes
use Rattle.gl_gov_rules.specs.declared.change.Changed.{Changed}
use Rattle.gl_gov_rules.specs.declared.refusal.MemberStatus.{MemberStatus}
use Rattle.gl_gov_rules.specs.declared.refusal.MemberStatus.TheVariants as member_statuses
use Rattle.gl_gov_rules.specs.declared.refusal.NodeStatus.{NodeStatus}
use Rattle.gl_gov_rules.specs.declared.refusal.NodeStatus.TheVariants as node_statuses
use Rattle.gl_gov_rules.specs.declared.row.Vote.{Vote}
use Rattle.gl_gov_rules.specs.declared.row.ServiceRow.{ServiceRow}
use Rattle.gl_gov_rules.specs.declared.row.MemberRow.{MemberRow}
use Rattle.gl_gov_rules.specs.declared.row.NodeRow.{NodeRow}
use Rattle.gl_gov_rules.specs.declared.row.ProposalRow.{ProposalRow}
use Rattle.gl_gov_rules.specs.declared.row.ProposalAt.{ProposalAt}
use Rattle.gl_gov_rules.specs.declared.row.RuleAt.{RuleAt}
use Rattle.gl_gov_rules.specs.declared.row.GovernedRows.{GovernedRows}
use Rattle.gl_gov_rules.specs.declared.request_facts.Mark.{Mark}
use Rattle.gl_gov_rules.specs.declared.change.Recorded.{Recorded}
use Rattle.gl_gov_rules.specs.History.{History, Carried, Answered, SignedBy, no_history}
use Rattle.gl_gov_rules.specs.Nodes.{is_trusted_status}
use Rattle.gl_gov_rules.specs.Proposals.{is_open_state}
use Rattle.gl_gov_rules.specs.Changes.{changed_at, set_member, with_request, history}
use Rattle.gl_gov_rules.specs.Rows.{service_map, service_key, members_map, member_byte, nodes_map, node_byte, proposals_map, proposal_byte, constitution_map, dealing_map, dealing_key, shares_map}

-- No rows yet, after the entry with a seqno.
abbrev pub no_rows : ℕ → GovernedRows
no_rows seqno = record {
  seqno = seqno;
  service = None;
  members = [];
  nodes = [];
  proposals = [];
  rules = [];
  dealing = None;
  shares = [];
}

-- ---- readings

-- A byte that one of these has, else its place.
abbrev pub one_with : {X : Type 0} → (X → ℕ) → List X → ℕ → ℕ × Unread →
    Result (X × Unread) CodeFault
one_with byte [] place b = Err (faults.Value place)
one_with byte (x ∷ xs) place b =
    if byte x == b.0 then Ok (x, b.1) else one_with byte xs place b

unfoldable pub one_of_at : {X : Type 0} → (X → ℕ) → List X → Unread →
    Result (X × Unread) CodeFault
one_of_at byte xs u = field (number_at 1 u) >>= one_with byte xs u.at

unfoldable pub service_row_at : Unread → Result (ServiceRow × Unread) CodeFault
service_row_at u = do
  state ← one_of_at state_byte
      (services.Opening ∷ services.Open ∷ services.WaitingForRecoveryShares ∷ []) u
  recovered ← flag_at state.1
  key ← field (bytes_at 60 recovered.1)
  Ok (record { state = state.0; is_recovered = recovered.0; identity = key.0 }, key.1)

unfoldable pub member_row_at : ℕ → Unread → Result (MemberRow × Unread) CodeFault
member_row_at number u = do
  status ← one_of_at member_byte
      (member_statuses.Accepted ∷ member_statuses.Active ∷ member_statuses.Removed ∷ []) u
  key ← field (bytes_at 60 status.1)
  leaf ← field (number_at 4 key.1)
  Ok (record { number = number; status = status.0; key = key.0; next_leaf = leaf.0 }, leaf.1)

unfoldable pub node_row_at : List ℕ → Unread → Result (NodeRow × Unread) CodeFault
node_row_at id u = do
  order ← field (number_at 2 u)
  status ← one_of_at node_byte
      (node_statuses.Pending ∷ node_statuses.Trusted ∷ node_statuses.Retired
      ∷ node_statuses.Marked ∷ [])
      order.1
  node ← node_at status.1
  removal ← field (number_at 8 node.1)
  Ok (
    record {
      id = id;
      order = order.0;
      status = status.0;
      key = node.0.key;
      endorsement = node.0.endorsement;
      removal = removal.0;
    },
    removal.1,
  )

-- Votes ascend by member.
abbrev pub later_member : ℕ → ℕ → ℕ × Unread → Result (ℕ × Unread) CodeFault
later_member last place m = if nat_lt last m.0 then Ok m else Err (faults.Value place)

unfoldable pub votes_at : ℕ → ℕ → Unread → Result (List Vote × Unread) CodeFault
votes_at zero last u = Ok ([], u)
votes_at (suc n) last u = do
  member ← field (number_at 1 u) >>= later_member last u.at
  agrees ← flag_at member.1
  rest ← votes_at n member.0 agrees.1
  Ok (record { member = member.0; agrees = agrees.0 } ∷ rest.0, rest.1)

-- Actions up to the end of their bytes; as many steps as there are bytes are enough.
unfoldable pub actions_to_end : ℕ → Unread → Result (List Action) CodeFault
actions_to_end zero u = if length u.bytes == 0 then Ok [] else Err (faults.Trailing u.at)
actions_to_end (suc n) u = if length u.bytes == 0 then Ok [] else (do
  first ← action_at u
  rest ← actions_to_end n first.1
  Ok (first.0 ∷ rest))

unfoldable pub proposal_row_at : Unread → Result (ProposalRow × Unread) CodeFault
proposal_row_at u = do
  state ← one_of_at proposal_byte
      (states.Open ∷ states.Accepted ∷ states.Rejected ∷ states.Withdrawn ∷ states.Failed
      ∷ states.Dropped ∷ [])
      u
  by ← member_number_at state.1
  bytes ← field (string_at 4 mebibyte by.1)
  list ← actions_to_end (length bytes.0) (record { at = 0; bytes = bytes.0 })
  count ← field (number_at 1 bytes.1)
  votes ← votes_at count.0 0 count.1
  Ok (record { state = state.0; proposer = by.0; actions = list; ballots = votes.0 }, votes.1)

-- ---- rows

abbrev pub is_removed_status : MemberStatus → Bool
is_removed_status member_statuses.Removed = true
is_removed_status other = false

abbrev pub is_active_status : MemberStatus → Bool
is_active_status member_statuses.Active = true
is_active_status other = false

abbrev pub is_marked_status : NodeStatus → Bool
is_marked_status node_statuses.Marked = true
is_marked_status other = false

abbrev pub value_read : {X : Type 0} → (Unread → Result (X × Unread) CodeFault) → Row → Option X
value_read reading r = result_ok (whole reading r.value)

abbrev pub put_where : {X : Type 0} → Bool → (X → Bool) → (X → GovernedRows) → Option X →
    Option GovernedRows
put_where ok is put None = None
put_where ok is put (Some x) = if ok && is x then Some (put x) else None

abbrev pub first_byte : List ℕ → ℕ
first_byte key = slice_index_or key 0 0

abbrev pub is_one_byte : List ℕ → Bool
is_one_byte key = (length key == 1) && nat_lt 0 (first_byte key)

-- At most 64 members are present, a node's identifier is its key's digest, and the actions of a
-- proposal are 1 to 16, of 60,000 bytes at most.
abbrev pub has_room : GovernedRows → MemberRow → Bool
has_room g m =
    is_removed_status m.status
    || nat_lt (length (filter (λ (n : MemberRow). not (is_removed_status n.status)) g.members)) 64

abbrev pub is_node_row : NodeRow → Bool
is_node_row n =
    nat_le 1 n.order && same_bytes n.id (sha256 n.key) && nat_le (length n.endorsement) 2508

abbrev pub is_proposal_row : ProposalRow → Bool
is_proposal_row p =
    nat_le 1 (length p.actions) && nat_le (length p.actions) 16
    && nat_le (length (flat_map action_bytes p.actions)) 60000

abbrev pub any_value : {X : Type 0} → X → Bool
any_value x = true

-- What a row adds; None where it doesn't spell.
unfoldable pub with_row : GovernedRows → Row → Option GovernedRows
with_row g r =
    if same_bytes r.map service_map
    then put_where (same_bytes r.key service_key) any_value
    (λ x. record g { service = Some x }) (value_read service_row_at r)
    else (if same_bytes r.map members_map
    then put_where (is_one_byte r.key) (has_room g)
    (λ x. record g { members = g.members ++ x ∷ [] })
    (value_read (member_row_at (first_byte r.key)) r)
    else (if same_bytes r.map nodes_map
    then put_where (nat_lt (length g.nodes) 65535) is_node_row
    (λ x. record g { nodes = g.nodes ++ x ∷ [] }) (value_read (node_row_at r.key) r)
    else (if same_bytes r.map proposals_map
    then put_where (length r.key == 32) is_proposal_row
    (λ x. record g { proposals = g.proposals ++ record { id = r.key; row = x } ∷ [] })
    (value_read proposal_row_at r)
    else (if same_bytes r.map constitution_map
    then put_where (is_one_byte r.key && nat_le (first_byte r.key) 7) any_value
    (λ x. record g { rules = g.rules ++ record { number = first_byte r.key; rule = x } ∷ [] })
    (value_read rule_at r)
    else (if same_bytes r.map dealing_map
    then put_where (same_bytes r.key dealing_key) any_value
    (λ x. record g { dealing = Some x }) (value_read dealing_at r)
    else (if same_bytes r.map shares_map
    then put_where (is_one_byte r.key) any_value
    (λ x. record g { shares = g.shares ++ record { member = first_byte r.key; value = x } ∷ [] })
    (value_read digest_at r)
    else None))))))

-- ---- what stands for the requests up to a base

-- A node and a proposal stand at the seqno 0, a mark and a share at the base's. That a member is
-- Active tells its Ack; of a removed member no Ack is told, and none is asked for.
abbrev pub carried_node : NodeRow → RecordedNode
carried_node n = record {
  id = n.id;
  seqno = 0;
  is_founding = is_trusted_status n.status;
  node = record { key = n.key; endorsement = n.endorsement };
}

abbrev pub carried_proposal : ProposalAt → Proposal
carried_proposal p =
    record { id = p.id; seqno = 0; proposer = p.row.proposer; actions = p.row.actions }

abbrev pub answers_carried : ProposalAt → List Answered
answers_carried p =
    map (λ (v : Vote). record { id = p.id; member = v.member; agrees = v.agrees }) p.row.ballots

abbrev pub signer_carried : MemberRow → SignedBy
signer_carried m =
    record { member = m.number; next_leaf = m.next_leaf; is_ack = is_active_status m.status }

abbrev pub mark_carried : ℕ → NodeRow → Option Mark
mark_carried seqno n =
    if is_marked_status n.status then Some (record { id = n.id; seqno = seqno }) else None

abbrev pub carried_by : GovernedRows → Carried
carried_by g = record {
  nodes = map carried_node g.nodes;
  marks = filter_map (mark_carried g.seqno) g.nodes;
  proposals = map carried_proposal g.proposals;
  ballots = flat_map answers_carried g.proposals;
  signed = map signer_carried g.members;
  shares = map (λ (s : Share). record { seqno = g.seqno; share = s }) g.shares;
}

-- The changes that rows stand for, at seqno 0 but the removals of nodes, which come last.
abbrev pub recovered_if : Option ServiceRow → List Change
recovered_if None = []
recovered_if (Some s) = if s.is_recovered then changes.Recovered s.identity ∷ [] else []

abbrev pub founded_by : Option ServiceRow → List Change
founded_by None = []
founded_by (Some s) = changes.Founded s.state s.identity ∷ []

abbrev pub dealt_by : Option Dealing → List Change
dealt_by None = []
dealt_by (Some d) = changes.Applied (actions.SetRecoveryThreshold d) ∷ []

abbrev pub member_of_row : MemberRow → NewMember
member_of_row m = record { number = m.number; key = m.key }

abbrev pub member_removed_by : MemberRow → Option Change
member_removed_by m =
    if is_removed_status m.status then Some (changes.Applied (actions.RemoveMember m.number))
    else None

abbrev pub settled_row : ProposalAt → Option Change
settled_row p =
    if is_open_state p.row.state then None else Some (changes.Settled p.id p.row.state)

-- None stands above the base, since a cut asks of the changes for no other order.
abbrev pub node_removed_by : ℕ → NodeRow → Option Changed
node_removed_by base n =
    if nat_lt 0 n.removal
    then Some (changed_at (min n.removal base) (changes.Applied (actions.RemoveNode n.id)))
    else None

abbrev pub changes_at_base : GovernedRows → List Change
changes_at_base g =
    recovered_if g.service ++ founded_by g.service
    ++ (changes.Applied (actions.SetConstitution (map (λ (r : RuleAt). r.rule) g.rules)) ∷ [])
    ++ dealt_by g.dealing ++ map (λ (m : MemberRow). set_member (member_of_row m)) g.members
    ++ filter_map member_removed_by g.members ++ filter_map settled_row g.proposals

abbrev pub changes_of_rows : GovernedRows → List Changed
changes_of_rows g =
    map (changed_at 0) (changes_at_base g) ++ filter_map (node_removed_by g.seqno) g.nodes

abbrev pub begin_with : Option GovernedRows → History
begin_with None = no_history
begin_with (Some g) =
    record { carried = carried_by g; requests = []; changes = changes_of_rows g }

-- The history of requests behind rows.
unfoldable pub history_behind : GovernedRows → List Recorded → History
history_behind g rs = fold with_request (begin_with (Some g)) rs

-- The history of requests behind a base, or from the first on where there is none.
abbrev pub history_over : Option GovernedRows → List Recorded → History
history_over None rs = history rs
history_over (Some g) rs = history_behind g rs

-- A base, where there is one, is not above a seqno.
abbrev pub IsBelow : Option GovernedRows → ℕ → Type 0
IsBelow None to = Unit {0}
IsBelow (Some g) to = g.seqno ≤ to

-- ---- all rows

abbrev pub with_next : Option NodeRow → Option (List NodeRow) → Option (List NodeRow)
with_next None rest = None
with_next (Some n) None = None
with_next (Some n) (Some ns) = Some (n ∷ ns)

-- The nodes by their numbers, from 1; one that lacks doesn't spell.
abbrev pub numbered_from : ℕ → ℕ → List NodeRow → Option (List NodeRow)
numbered_from zero order ns = Some []
numbered_from (suc n) order ns =
    with_next (find (λ (x : NodeRow). nat_eq x.order order) ns) (numbered_from n (suc order) ns)

-- The rows of governance among rows, or the index of the first that doesn't spell; the number of
-- rows where the service, the dealing, a rule or a node's number lacks.
abbrev pub ended_rows : ℕ → GovernedRows → Option (List NodeRow) → Result GovernedRows ℕ
ended_rows index g None = Err index
ended_rows index g (Some ns) =
    if is_some g.service && is_some g.dealing && (length g.rules == 7)
    then Ok (record g { nodes = ns }) else Err index

abbrev pub or_index : {X : Type 0} → ℕ → Option GovernedRows → (GovernedRows → Result X ℕ) →
    Result X ℕ
or_index index None next = Err index
or_index index (Some g) next = next g

unfoldable pub rows_from : ℕ → GovernedRows → List Row → Result GovernedRows ℕ
rows_from index g [] = ended_rows index g (numbered_from (length g.nodes) 1 g.nodes)
rows_from index g (r ∷ rs) =
    if is_governance r.map
    then or_index index (with_row g r) (λ next. rows_from (suc index) next rs)
    else rows_from (suc index) g rs

unfoldable pub governed_rows : ℕ → List Row → Result GovernedRows ℕ
governed_rows seqno rows = rows_from 0 (no_rows seqno) rows
