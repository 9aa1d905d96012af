-- The rows of governance that are spelled are read back.
use Rattle.std.proofs.Common.{◌≡◌, ℕ, zero, suc, ◌+◌, ◌^◌, ◌<◌, ◌≤◌, Bool, true, false, ◌&&◌, ◌==◌, nat_lt, List, [], ◌∷◌, ◌++◌, length, Result, Ok, refl, sym, ap, ◌∙◌, append_assoc, length-append, arith}
use Rattle.std.specs.List.{list_all, flat_map}
use Rattle.std.proofs.lemmas.Bool.{and_parts}
use Rattle.std.proofs.lemmas.Bool.Decides.{nat_tests}
use Rattle.gl_base.specs.LittleEndian.{little_endian}
use Rattle.gl_base.specs.Bytes.{mebibyte, are_sized}
use Rattle.gl_base.specs.Field.{with_u32_length}
use Rattle.gl_base.specs.Cut.{Unread, number_at}
use Rattle.gl_base.specs.Code.{field, flag_byte, flag_at}
use Rattle.gl_base.specs.declared.fault.CodeFault.{CodeFault}
use Rattle.gl_base.proofs.Fields.{number_at-encoded, tag_read}
use Rattle.gl_base.proofs.RowLaws.{string-reads}
use Rattle.gl_base.proofs.ParsedBytes.{Gets, IsRead}
use Rattle.gl_requests.specs.Encoding.{state_byte, counted_bytes, action_bytes}
use Rattle.gl_requests.specs.Ranges.{is_node, is_action, is_member_number}
use Rattle.gl_requests.specs.declared.genesis.ServiceState.{ServiceState}
use Rattle.gl_requests.specs.declared.genesis.ServiceState.TheVariants as services
use Rattle.gl_requests.specs.declared.action.Action.{Action}
use Rattle.gl_requests.specs.declared.action.Action.TheVariants as actions
use Rattle.gl_requests.proofs.FieldReadings.{sized-read, flag-read, member_number-read}
use Rattle.gl_requests.proofs.PartReadings.{node-read}
use Rattle.gl_requests.proofs.ActionReadings.{action-read}
use Rattle.gl_gov_rules.specs.declared.change.ProposalState.{ProposalState}
use Rattle.gl_gov_rules.specs.declared.change.ProposalState.TheVariants as states
use Rattle.gl_gov_rules.specs.declared.refusal.MemberStatus.{MemberStatus}
use Rattle.gl_gov_rules.specs.declared.refusal.MemberStatus.TheVariants as member_statuses
use Rattle.gl_gov_rules.specs.declared.refusal.NodeStatus.{NodeStatus}
use Rattle.gl_gov_rules.specs.declared.refusal.NodeStatus.TheVariants as node_statuses
use Rattle.gl_gov_rules.specs.declared.row.Vote.{Vote}
use Rattle.gl_gov_rules.specs.declared.row.ServiceRow.{ServiceRow}
use Rattle.gl_gov_rules.specs.declared.row.MemberRow.{MemberRow}
use Rattle.gl_gov_rules.specs.declared.row.NodeRow.{NodeRow}
use Rattle.gl_gov_rules.specs.declared.row.ProposalRow.{ProposalRow}
use Rattle.gl_gov_rules.specs.Rows.{member_byte, node_byte, proposal_byte, vote_bytes}
use Rattle.gl_gov_rules.specs.GovernedRows.{one_of_at, service_row_at, member_row_at, node_row_at, votes_at, actions_to_end, proposal_row_at}

abbrev pub always : {X : Type 0} → X → Bool
always x = true

-- ---- bytes that are states

abbrev state_at : Unread → Result (ServiceState × Unread) CodeFault
state_at u = one_of_at state_byte (services.Opening ∷ services.Open ∷ services.WaitingForRecoveryShares ∷ []) u

state-read : IsRead state_at (λ s. state_byte s ∷ []) always
unfolding one_of_at
state-read at services.Opening rest is = record { place = at + 1; read = rw (tag_read at 1 rest) refl }
state-read at services.Open rest is = record { place = at + 1; read = rw (tag_read at 2 rest) refl }
state-read at services.WaitingForRecoveryShares rest is = record { place = at + 1; read = rw (tag_read at 3 rest) refl }

abbrev member_status_at : Unread → Result (MemberStatus × Unread) CodeFault
member_status_at u = one_of_at member_byte (member_statuses.Accepted ∷ member_statuses.Active ∷ member_statuses.Removed ∷ []) u

member_status-read : IsRead member_status_at (λ s. member_byte s ∷ []) always
unfolding one_of_at
member_status-read at member_statuses.Accepted rest is = record { place = at + 1; read = rw (tag_read at 1 rest) refl }
member_status-read at member_statuses.Active rest is = record { place = at + 1; read = rw (tag_read at 2 rest) refl }
member_status-read at member_statuses.Removed rest is = record { place = at + 1; read = rw (tag_read at 3 rest) refl }

abbrev node_status_at : Unread → Result (NodeStatus × Unread) CodeFault
node_status_at u = one_of_at node_byte (node_statuses.Pending ∷ node_statuses.Trusted ∷ node_statuses.Retired ∷ node_statuses.Marked ∷ []) u

node_status-read : IsRead node_status_at (λ s. node_byte s ∷ []) always
unfolding one_of_at
node_status-read at node_statuses.Pending rest is = record { place = at + 1; read = rw (tag_read at 1 rest) refl }
node_status-read at node_statuses.Trusted rest is = record { place = at + 1; read = rw (tag_read at 2 rest) refl }
node_status-read at node_statuses.Retired rest is = record { place = at + 1; read = rw (tag_read at 3 rest) refl }
node_status-read at node_statuses.Marked rest is = record { place = at + 1; read = rw (tag_read at 4 rest) refl }

abbrev proposal_state_at : Unread → Result (ProposalState × Unread) CodeFault
proposal_state_at u = one_of_at proposal_byte (states.Open ∷ states.Accepted ∷ states.Rejected ∷ states.Withdrawn ∷ states.Failed ∷ states.Dropped ∷ []) u

proposal_state-read : IsRead proposal_state_at (λ s. proposal_byte s ∷ []) always
unfolding one_of_at
proposal_state-read at states.Open rest is = record { place = at + 1; read = rw (tag_read at 1 rest) refl }
proposal_state-read at states.Accepted rest is = record { place = at + 1; read = rw (tag_read at 2 rest) refl }
proposal_state-read at states.Rejected rest is = record { place = at + 1; read = rw (tag_read at 3 rest) refl }
proposal_state-read at states.Withdrawn rest is = record { place = at + 1; read = rw (tag_read at 4 rest) refl }
proposal_state-read at states.Failed rest is = record { place = at + 1; read = rw (tag_read at 5 rest) refl }
proposal_state-read at states.Dropped rest is = record { place = at + 1; read = rw (tag_read at 6 rest) refl }

-- ---- numbers

abbrev pub word_at : ℕ → Unread → Result (ℕ × Unread) CodeFault
word_at size unread = field (number_at size unread)

abbrev pub is_word : ℕ → ℕ → Bool
is_word size n = nat_lt n (256 ^ size)

word-read : (size : ℕ) → IsRead (word_at size) (little_endian size) (is_word size)
word-read size at n rest is =
    let small : n < 256 ^ size = grind (arith, nat_tests, is) in
    record { place = at + size; read = ap field (number_at-encoded size at n rest small) }

-- ---- the service and a member

abbrev pub service_bytes : ServiceRow → List ℕ
service_bytes s = state_byte s.state ∷ flag_byte s.is_recovered ∷ s.identity

pub service-read : IsRead service_row_at service_bytes (λ s. are_sized 60 s.identity)
unfolding service_row_at
service-read at s rest is =
    let state = state-read at s.state (flag_byte s.is_recovered ∷ (s.identity ++ rest)) refl in
    let recovered = flag-read state.place s.is_recovered (s.identity ++ rest) refl in
    let key = sized-read 60 recovered.place s.identity rest is in
    record { place = key.place; read = rw (state.read, recovered.read, key.read) refl }

abbrev pub member_bytes_of : MemberRow → List ℕ
member_bytes_of m = (member_byte m.status ∷ m.key) ++ little_endian 4 m.next_leaf

pub member-read : (at : ℕ) (m : MemberRow) (rest : List ℕ) → are_sized 60 m.key ≡ true → is_word 4 m.next_leaf ≡ true → Gets (member_row_at m.number (record { at = at; bytes = member_bytes_of m ++ rest })) m rest
unfolding member_row_at
member-read at m rest sized small =
    let status = member_status-read at m.status (m.key ++ (little_endian 4 m.next_leaf ++ rest)) refl in
    let key = sized-read 60 status.place m.key (little_endian 4 m.next_leaf ++ rest) sized in
    let leaf = word-read 4 key.place m.next_leaf rest small in
    let regrouped = append_assoc (member_byte m.status ∷ m.key) (little_endian 4 m.next_leaf) rest in
    record { place = leaf.place; read = ap (λ (ys : List ℕ). member_row_at m.number (record { at = at; bytes = ys })) regrouped ∙ rw (status.read, key.read, leaf.read) refl }

-- ---- a node

abbrev pub node_bytes_of : NodeRow → List ℕ
node_bytes_of n = little_endian 2 n.order ++ (node_byte n.status ∷ n.key) ++ with_u32_length n.endorsement ++ little_endian 8 n.removal

pub node_row-read : (at : ℕ) (n : NodeRow) (rest : List ℕ) → is_word 2 n.order ≡ true → is_node (record { key = n.key; endorsement = n.endorsement }) ≡ true → is_word 8 n.removal ≡ true → Gets (node_row_at n.id (record { at = at; bytes = node_bytes_of n ++ rest })) n rest
unfolding node_row_at
node_row-read at n rest few fits small =
    let e : List ℕ = with_u32_length n.endorsement in
    let tail : List ℕ = little_endian 8 n.removal ++ rest in
    let order = word-read 2 at n.order (node_byte n.status ∷ ((n.key ++ e) ++ tail)) few in
    let status = node_status-read order.place n.status ((n.key ++ e) ++ tail) refl in
    let node = node-read status.place (record { key = n.key; endorsement = n.endorsement }) tail fits in
    let removal = word-read 8 node.place n.removal rest small in
    let regrouped : node_bytes_of n ++ rest ≡ little_endian 2 n.order ++ (node_byte n.status ∷ ((n.key ++ e) ++ tail)) =
    append_assoc (little_endian 2 n.order ++ (node_byte n.status ∷ n.key) ++ e) (little_endian 8 n.removal) rest
    ∙ append_assoc (little_endian 2 n.order ++ (node_byte n.status ∷ n.key)) e tail
    ∙ append_assoc (little_endian 2 n.order) (node_byte n.status ∷ n.key) (e ++ tail)
    ∙ ap (λ (ys : List ℕ). little_endian 2 n.order ++ (node_byte n.status ∷ ys)) (sym (append_assoc n.key e tail)) in
    record { place = removal.place; read = ap (λ (ys : List ℕ). node_row_at n.id (record { at = at; bytes = ys })) regrouped ∙ rw (order.read, status.read, node.read, removal.read) refl }

-- ---- votes

abbrev pub are_rising : ℕ → List Vote → Bool
are_rising last [] = true
are_rising last (v ∷ vs) = nat_lt last v.member && are_rising v.member vs

one_vote : (at last place end : ℕ) (v : Vote) (vs : List Vote) (rest : List ℕ) → nat_lt last v.member ≡ true →
    flag_at (record { at = at + 1; bytes = flag_byte v.agrees ∷ (flat_map vote_bytes vs ++ rest) }) ≡ Ok (v.agrees, record { at = place; bytes = flat_map vote_bytes vs ++ rest }) →
    votes_at (length vs) v.member (record { at = place; bytes = flat_map vote_bytes vs ++ rest }) ≡ Ok (vs, record { at = end; bytes = rest }) →
    votes_at (suc (length vs)) last (record { at = at; bytes = v.member ∷ flag_byte v.agrees ∷ (flat_map vote_bytes vs ++ rest) }) ≡ Ok (v ∷ vs, record { at = end; bytes = rest })
unfolding votes_at
one_vote at last place end v vs rest later agrees others =
    rw (tag_read at v.member (flag_byte v.agrees ∷ (flat_map vote_bytes vs ++ rest)), later, agrees, others) refl

pub votes-read : (at last : ℕ) (vs : List Vote) (rest : List ℕ) → are_rising last vs ≡ true → Gets (votes_at (length vs) last (record { at = at; bytes = flat_map vote_bytes vs ++ rest })) vs rest
unfolding votes_at
votes-read at last [] rest is = record { place = at; read = refl }
votes-read at last (v ∷ vs) rest is =
    let both = and_parts (nat_lt last v.member) (are_rising v.member vs) is in
    let agrees = flag-read (at + 1) v.agrees (flat_map vote_bytes vs ++ rest) refl in
    let others = votes-read agrees.place v.member vs rest both.1 in
    record { place = others.place; read = one_vote at last agrees.place others.place v vs rest both.0 agrees.read others.read }

-- ---- actions to the end of their bytes

some_bytes : (a : Action) → 1 ≤ length (action_bytes a)
some_bytes (actions.SetMember m) = omega arith
some_bytes (actions.RemoveMember n) = omega arith
some_bytes (actions.SetRecoveryThreshold d) = omega arith
some_bytes (actions.TransitionNodeToTrusted id) = omega arith
some_bytes (actions.RemoveNode id) = omega arith
some_bytes actions.TransitionServiceToOpen = omega arith
some_bytes (actions.SetConstitution rules) = omega arith

pub actions-read : (n at : ℕ) (list : List Action) → length (flat_map action_bytes list) ≤ n → list_all is_action list ≡ true → actions_to_end n (record { at = at; bytes = flat_map action_bytes list }) ≡ Ok list
unfolding actions_to_end
actions-read zero at [] few all = refl
actions-read (suc n) at [] few all = refl
actions-read zero at (a ∷ list) few all = absurd (omega (arith, some_bytes a, few, length-append (action_bytes a) (flat_map action_bytes list)))
actions-read (suc n) at (a ∷ list) few all =
    let both = and_parts (is_action a) (list_all is_action list) all in
    let there = action-read at a (flat_map action_bytes list) both.0 in
    let long : (length (action_bytes a ++ flat_map action_bytes list) == 0) ≡ false = grind (arith, nat_tests, some_bytes a, length-append (action_bytes a) (flat_map action_bytes list)) in
    let less : length (flat_map action_bytes list) ≤ n = omega (arith, some_bytes a, few, length-append (action_bytes a) (flat_map action_bytes list)) in
    rw (long, there.read, actions-read n there.place list less both.1) refl

-- ---- a proposal

abbrev pub proposal_bytes_of : ProposalRow → List ℕ
proposal_bytes_of p = (proposal_byte p.state ∷ p.proposer ∷ []) ++ with_u32_length (flat_map action_bytes p.actions) ++ counted_bytes vote_bytes p.ballots

pub record IsProposalRow (p : ProposalRow) : Type 0 where
  pub proposer : is_member_number p.proposer ≡ true
  pub small : length (flat_map action_bytes p.actions) ≤ 60000
  pub fits : list_all is_action p.actions ≡ true
  pub rising : are_rising 0 p.ballots ≡ true
  pub few : length p.ballots < 256

pub proposal-read : (at : ℕ) (p : ProposalRow) (rest : List ℕ) → IsProposalRow p → Gets (proposal_row_at (record { at = at; bytes = proposal_bytes_of p ++ rest })) p rest
unfolding proposal_row_at
proposal-read at p rest is =
    let list : List ℕ = flat_map action_bytes p.actions in
    let given : List ℕ = flat_map vote_bytes p.ballots in
    let few : length p.ballots < 256 ^ 1 = is.few in
    let within : length list ≤ mebibyte = omega (arith, is.small) in
    let small : length list < 256 ^ 4 = omega (arith, is.small) in
    let state = proposal_state-read at p.state (p.proposer ∷ (with_u32_length list ++ (little_endian 1 (length p.ballots) ++ (given ++ rest)))) refl in
    let by = member_number-read state.place p.proposer (with_u32_length list ++ (little_endian 1 (length p.ballots) ++ (given ++ rest))) is.proposer in
    let bytes = ap field (string-reads 4 mebibyte by.place list (little_endian 1 (length p.ballots) ++ (given ++ rest)) within small) in
    let made = actions-read (length list) 0 p.actions (omega arith) is.fits in
    let count = ap field (number_at-encoded 1 (by.place + length (with_u32_length list)) (length p.ballots) (given ++ rest) few) in
    let votes = votes-read (by.place + length (with_u32_length list) + 1) 0 p.ballots rest is.rising in
    let regrouped : proposal_bytes_of p ++ rest ≡ proposal_byte p.state ∷ p.proposer ∷ (with_u32_length list ++ (little_endian 1 (length p.ballots) ++ (given ++ rest))) = simp append_assoc refl in
    record { place = votes.place; read = ap (λ (ys : List ℕ). proposal_row_at (record { at = at; bytes = ys })) regrouped ∙ rw (state.read, by.read, bytes, made, count, votes.read) refl }
