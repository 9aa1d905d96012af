-- The rows of the governance tables, and the write set of a request (CCF documentation, "Builtin
-- Maps"). Numbers have their least significant byte first.
use Rattle.std.specs.Prelude.{ℕ, suc, List, [], ◌∷◌, ◌++◌, Option, None, Some, Bool, true, false, codes, map, filter_map, if◌then◌else◌}
use Rattle.std.specs.List.{flat_map, range_with_len}
use Rattle.gl_base.specs.LittleEndian.{little_endian}
use Rattle.gl_base.specs.Code.{flag_byte}
use Rattle.gl_base.specs.Field.{with_u32_length}
use Rattle.gl_vmaps.specs.Tables.{Tables, no_tables, wrote_all}
use Rattle.gl_vmaps.specs.Changes.{row, write_set, changes}
use Rattle.gl_vmaps.specs.declared.write.Write.{Write}
use Rattle.gl_shares.specs.declared.share.Share.{Share}
use Rattle.gl_requests.specs.Encoding.{state_byte, counted_bytes, rule_bytes, dealing_bytes, action_bytes}
use Rattle.gl_requests.specs.declared.genesis.ServiceState.{ServiceState}
use Rattle.gl_requests.specs.declared.genesis.NewMember.{NewMember}
use Rattle.gl_requests.specs.declared.genesis.Dealing.{Dealing}
use Rattle.gl_requests.specs.declared.action.Rule.{Rule}
use Rattle.gl_gov_rules.specs.declared.change.Recorded.{Recorded}
use Rattle.gl_gov_rules.specs.declared.change.RecordedNode.{RecordedNode}
use Rattle.gl_gov_rules.specs.declared.change.Proposal.{Proposal}
use Rattle.gl_gov_rules.specs.declared.change.ProposalState.{ProposalState}
use Rattle.gl_gov_rules.specs.declared.change.ProposalState.TheVariants as states
use Rattle.gl_gov_rules.specs.declared.refusal.MemberStatus.{MemberStatus}
use Rattle.gl_gov_rules.specs.declared.refusal.MemberStatus.TheVariants as member_statuses
use Rattle.gl_gov_rules.specs.declared.refusal.NodeStatus.{NodeStatus}
use Rattle.gl_gov_rules.specs.declared.refusal.NodeStatus.TheVariants as node_statuses
use Rattle.gl_gov_rules.specs.declared.row.Vote.{Vote}
use Rattle.gl_gov_rules.specs.declared.row.ServiceRow.{ServiceRow}
use Rattle.gl_gov_rules.specs.declared.row.MemberRow.{MemberRow}
use Rattle.gl_gov_rules.specs.declared.row.NodeRow.{NodeRow}
use Rattle.gl_gov_rules.specs.declared.row.ProposalRow.{ProposalRow}
use Rattle.gl_gov_rules.specs.History.{History, Answered, seqno_of}
use Rattle.gl_gov_rules.specs.Members.{members, member_status, next_leaf}
use Rattle.gl_gov_rules.specs.Nodes.{nodes, node_status, retirement}
use Rattle.gl_gov_rules.specs.Service.{constitution, dealing, identity, is_recovered, service_state, shares_given}
use Rattle.gl_gov_rules.specs.Proposals.{proposals, proposal_state, answers_of, has_answered}
use Rattle.gl_gov_rules.specs.Changes.{history}

-- The service

abbrev pub service_map : List ℕ
service_map = codes "public:ccf.gov.service"

abbrev pub service_key : List ℕ
service_key = codes "s"

abbrev pub service_row_of : Option ServiceState → Bool → Option (List ℕ) → Option ServiceRow
service_row_of (Some state) recovered (Some key) =
    Some (record { state = state; is_recovered = recovered; identity = key })
service_row_of other recovered key = None

-- The service's row: its state, whether it was recovered, and its key. Before a founding there is
-- none.
unfoldable pub service_row : History → Option ServiceRow
service_row h = service_row_of (service_state h) (is_recovered h) (identity h)

abbrev pub service_write : ServiceRow → Write
service_write s =
    row service_map service_key (state_byte s.state ∷ flag_byte s.is_recovered ∷ s.identity)

-- Members

abbrev pub members_map : List ℕ
members_map = codes "public:ccf.gov.members"

abbrev pub member_byte : MemberStatus → ℕ
member_byte member_statuses.Accepted = 1
member_byte member_statuses.Active = 2
member_byte member_statuses.Removed = 3

-- A member's row: its number, its status, its key, and 1 plus the last leaf that it used, or 0.
unfoldable pub member_row : History → NewMember → MemberRow
member_row h m = record {
  number = m.number;
  status = member_status h m.number;
  key = m.key;
  next_leaf = next_leaf h m.number;
}

unfoldable pub member_rows : History → List MemberRow
member_rows h = map (member_row h) (members h)

abbrev pub member_write : MemberRow → Write
member_write m =
    row members_map (m.number ∷ [])
    ((member_byte m.status ∷ m.key) ++ little_endian 4 m.next_leaf)

-- Nodes

abbrev pub nodes_map : List ℕ
nodes_map = codes "public:ccf.gov.nodes"

abbrev pub node_byte : NodeStatus → ℕ
node_byte node_statuses.Pending = 1
node_byte node_statuses.Trusted = 2
node_byte node_statuses.Retired = 3
node_byte node_statuses.Marked = 4

-- A node's row: its identifier, its number in the order of nodes, from 1, its status, its key and
-- endorsement, and the seqno of the entry that retired it, or 0.
unfoldable pub node_row : History → ℕ → RecordedNode → NodeRow
node_row h order n = record {
  id = n.id;
  order = order;
  status = node_status h n;
  key = n.node.key;
  endorsement = n.node.endorsement;
  removal = seqno_of (retirement h n);
}

abbrev pub node_rows_from : History → ℕ → List RecordedNode → List NodeRow
node_rows_from h order [] = []
node_rows_from h order (n ∷ ns) = node_row h order n ∷ node_rows_from h (suc order) ns

unfoldable pub node_rows : History → List NodeRow
node_rows h = node_rows_from h 1 (nodes h)

abbrev pub node_write : NodeRow → Write
node_write n =
    row nodes_map n.id
    (little_endian 2 n.order ++ (node_byte n.status ∷ n.key) ++ with_u32_length n.endorsement
    ++ little_endian 8 n.removal)

-- Proposals

abbrev pub proposals_map : List ℕ
proposals_map = codes "public:ccf.gov.proposals"

abbrev pub proposal_byte : ProposalState → ℕ
proposal_byte states.Open = 1
proposal_byte states.Accepted = 2
proposal_byte states.Rejected = 3
proposal_byte states.Withdrawn = 4
proposal_byte states.Failed = 5
proposal_byte states.Dropped = 6

-- The member's ballot on a proposal, if it is among these answers.
abbrev pub vote_of : List Answered → List ℕ → ℕ → Option Vote
vote_of given id number =
    if has_answered given id true number then Some (record { member = number; agrees = true })
    else (if has_answered given id false number
    then Some (record { member = number; agrees = false }) else None)

-- All numbers that members may have.
abbrev pub member_numbers : List ℕ
member_numbers = range_with_len 1 255

-- The ballots on a proposal, ascending by member.
unfoldable pub votes : List Answered → List ℕ → List Vote
votes given id = filter_map (vote_of given id) member_numbers

-- A proposal's row: its state, its proposer, its actions, and its ballots.
unfoldable pub proposal_row : History → Proposal → ProposalRow
proposal_row h p = record {
  state = proposal_state h p;
  proposer = p.proposer;
  actions = p.actions;
  ballots = votes (answers_of h) p.id;
}

abbrev pub vote_bytes : Vote → List ℕ
vote_bytes v = v.member ∷ flag_byte v.agrees ∷ []

abbrev pub proposal_write : List ℕ → ProposalRow → Write
proposal_write id p =
    row proposals_map id
    ((proposal_byte p.state ∷ p.proposer ∷ []) ++ with_u32_length (flat_map action_bytes p.actions)
    ++ counted_bytes vote_bytes p.ballots)

unfoldable pub proposal_writes : History → List Write
proposal_writes h = map (λ (p : Proposal). proposal_write p.id (proposal_row h p)) (proposals h)

-- The constitution: the rule of each action, by its number.

abbrev pub constitution_map : List ℕ
constitution_map = codes "public:ccf.gov.constitution"

abbrev pub rule_writes_from : ℕ → List Rule → List Write
rule_writes_from number [] = []
rule_writes_from number (r ∷ rs) =
    row constitution_map (number ∷ []) (rule_bytes r) ∷ rule_writes_from (suc number) rs

abbrev pub rule_writes_of : Option (List Rule) → List Write
rule_writes_of None = []
rule_writes_of (Some rules) = rule_writes_from 1 rules

-- The dealing, and the shares that were given.

abbrev pub dealing_map : List ℕ
dealing_map = codes "public:ccf.gov.dealing"

abbrev pub dealing_key : List ℕ
dealing_key = codes "d"

abbrev pub dealing_write : Dealing → Write
dealing_write d = row dealing_map dealing_key (dealing_bytes d)

abbrev pub shares_map : List ℕ
shares_map = codes "public:ccf.gov.shares"

abbrev pub share_write : Share → Write
share_write s = row shares_map (s.member ∷ []) s.value

-- All rows

abbrev pub write_of : {A : Type 0} → (A → Write) → Option A → List Write
write_of write None = []
write_of write (Some a) = write a ∷ []

-- All rows, in no order.
unfoldable pub all_rows : History → List Write
all_rows h =
    rule_writes_of (constitution h) ++ write_of dealing_write (dealing h)
    ++ map member_write (member_rows h) ++ map node_write (node_rows h) ++ proposal_writes h
    ++ write_of service_write (service_row h) ++ map share_write (shares_given h)

-- The rows ascending by map and key.
unfoldable pub rows : History → List Write
rows h = write_set (all_rows h)

-- The effect of recorded requests: the tables of their rows.
abbrev pub effect : List Recorded → Tables
effect rs = wrote_all no_tables (rows (history rs))

-- The write set of a request after others: it turns their rows into those with it.
abbrev pub effect_writes : List Recorded → Recorded → List Write
effect_writes rs r = changes (rows (history rs)) (rows (history (rs ++ r ∷ [])))
