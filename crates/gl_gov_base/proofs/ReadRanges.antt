-- What is read of rows within the limits of tables is in its range.
use Rattle.std.proofs.Common.{◌≡◌, ℕ, zero, suc, ◌<◌, ◌≤◌, List, [], ◌∷◌, ◌++◌, length, Option, Some, None, IfSome, is_some, Bool, true, false, not, ◌&&◌, ◌||◌, ◌==◌, cond, find, filter, count_by, nat_le, nat_lt, nat_eq, Result, Ok, Err, IfOk, refl, ◌∙◌, ap, subst, length-append, arith}
use Rattle.std.specs.List.{list_all, flat_map, AllByRecursion}
use Rattle.std.specs.Result.{result_ok}
use Rattle.std.proofs.lemmas.Bool.{and_parts, and_from, eqb-true}
use Rattle.std.proofs.lemmas.Bool.Decides.{nat_tests}
use Rattle.std.proofs.lemmas.List.Sums.{length-filter}
use Rattle.sha2.specs.Sha256.{sha256}
use Rattle.gl_base.specs.Bytes.{same_bytes, mebibyte, is_byte, are_bytes, is_digest, are_sized}
use Rattle.gl_base.specs.Steps.{◌>>=◌}
use Rattle.gl_base.specs.Cut.{Unread, number_at, string_at}
use Rattle.gl_base.specs.Code.{field, flag_at, unread_of, whole, ended}
use Rattle.gl_base.specs.Field.{with_u32_length}
use Rattle.gl_base.specs.declared.fault.CodeFault.{CodeFault}
use Rattle.gl_base.specs.declared.fault.CodeFault.TheVariants as faults
use Rattle.gl_base.specs.LittleEndian.{little_endian}
use Rattle.gl_base.specs.declared.fault.CutFault.{CutFault}
use Rattle.gl_base.proofs.ByteLists.{AreBytes, are_bytes-each, AreBytes-take}
use Rattle.gl_base.proofs.Fields.{number_encoded}
use Rattle.gl_base.proofs.ParsedBytes.{IsEncoded, bytes_left}
use Rattle.gl_vmaps.specs.Name.{is_map_name, is_key, is_governance}
use Rattle.gl_vmaps.specs.Rows.{row_write, row_writes}
use Rattle.gl_vmaps.specs.Writes.{is_written_value, is_write}
use Rattle.gl_vmaps.specs.declared.row.Row.{Row}
use Rattle.gl_vmaps.proofs.TablesLaws.{same_bytes-eq}
use Rattle.gl_requests.specs.Encoding.{state_byte, node_bytes, rule_bytes, dealing_bytes, action_bytes}
use Rattle.gl_requests.specs.Parsing.{rule_at, dealing_at, digest_at, node_at, action_at, signature_at, member_number_at}
use Rattle.gl_requests.specs.Ranges.{is_signature_field, is_node, is_member_number, is_member, is_rule, is_dealing, is_action, is_action_count}
use Rattle.gl_requests.specs.declared.genesis.ServiceState.TheVariants as services
use Rattle.gl_requests.specs.declared.genesis.NewNode.{NewNode}
use Rattle.gl_requests.specs.declared.genesis.Dealing.{Dealing}
use Rattle.gl_requests.proofs.ActionReadings.{action-encoded}
use Rattle.gl_requests.proofs.FieldReadings.{byte_at, one_byte, byte-encoded, sized_at, themselves, sized-encoded, digest-encoded, signature-encoded, member_number-encoded, flag_bytes, any_flag, flag-encoded}
use Rattle.gl_requests.proofs.PartReadings.{node-encoded, dealing-encoded, rule-encoded}
use Rattle.gl_gov_rules.specs.declared.change.ProposalState.TheVariants as states
use Rattle.gl_gov_rules.specs.declared.refusal.MemberStatus.TheVariants as member_statuses
use Rattle.gl_gov_rules.specs.declared.refusal.NodeStatus.TheVariants as node_statuses
use Rattle.gl_gov_rules.specs.declared.row.ServiceRow.{ServiceRow}
use Rattle.gl_gov_rules.specs.declared.row.MemberRow.{MemberRow}
use Rattle.gl_gov_rules.specs.declared.row.NodeRow.{NodeRow}
use Rattle.gl_gov_rules.specs.declared.row.ProposalRow.{ProposalRow}
use Rattle.gl_gov_rules.specs.declared.row.ProposalAt.{ProposalAt}
use Rattle.gl_gov_rules.specs.declared.row.RuleAt.{RuleAt}
use Rattle.gl_gov_rules.specs.declared.row.GovernedRows.{GovernedRows}
use Rattle.gl_gov_rules.specs.Governed.{IsBoundedProposal}
use Rattle.gl_gov_rules.specs.Rows.{service_map, service_key, member_byte, members_map, node_byte, nodes_map, proposal_byte, proposals_map, constitution_map, dealing_map, dealing_key, shares_map}
use Rattle.gl_gov_rules.specs.GovernedRows.{no_rows, one_with, one_of_at, service_row_at, member_row_at, node_row_at, votes_at, actions_to_end, proposal_row_at, is_removed_status, value_read, put_where, first_byte, is_one_byte, has_room, is_node_row, is_proposal_row, any_value, with_row, carried_node, carried_proposal, member_of_row, with_next, numbered_from, ended_rows, or_index, rows_from, governed_rows}
use Rattle.gl_gov_rules.proofs.Counting.{all_append, one_if, count-cons, count-append, each_append}
use Rattle.gl_gov_rules.proofs.Digests.{sha256_digest}
use Rattle.gl_gov_rules.proofs.RowParts.{is_recorded_node, is_made_proposal, is_given_share}
use Rattle.gl_gov_base.proofs.RowsReadable.{is_there}

-- ---- steps of a reading

-- bytes are left
abbrev Left : {X : Type 0} → X × Unread → Type 0
Left x = AreBytes x.1.bytes

-- what is read is in its range, and bytes are left
abbrev Ranged : {X : Type 0} → (X → Bool) → X × Unread → Type 0
Ranged is x = (is x.0 ≡ true) × AreBytes x.1.bytes

then_has : {X Z : Type 0} (r : Result X CodeFault) (next : X → Result Z CodeFault) (P : X → Type 0) (Q : Z → Type 0) → IfOk r P → ((x : X) → P x → IfOk (next x) Q) → IfOk (r >>= next) Q
then_has (Ok x) next P Q has each = each x has
then_has (Err e) next P Q has each = tt

then_any : {X Z : Type 0} (r : Result X CodeFault) (next : X → Result Z CodeFault) (Q : Z → Type 0) → ((x : X) → IfOk (next x) Q) → IfOk (r >>= next) Q
then_any (Ok x) next Q each = each x
then_any (Err e) next Q each = tt

-- what is encoded so is in its range
of_encoded : {X : Type 0} (reading : Unread → Result (X × Unread) CodeFault) (bytes : X → List ℕ) (is : X → Bool) → IsEncoded reading bytes is → (u : Unread) → AreBytes u.bytes → IfOk (reading u) (Ranged is)
of_encoded {X = X} reading bytes is encoded u all = go (reading u) refl
  where
    go : (r : Result (X × Unread) CodeFault) → reading u ≡ r → IfOk r (Ranged is)
    go (Ok x) e = let there = encoded u x.1 x.0 all e in (there.limits, there.left)
    go (Err e) is = tt

one_with_left : {X : Type 0} (byte : X → ℕ) (xs : List X) (place : ℕ) (b : ℕ × Unread) → AreBytes b.1.bytes → IfOk (one_with byte xs place b) Left
one_with_left byte [] place b all = tt
one_with_left {X = X} byte (x ∷ xs) place b all = pick (byte x == b.0) (one_with_left byte xs place b all)
  where
    pick : (c : Bool) → IfOk (one_with byte xs place b) Left → IfOk (cond c (Ok (x, b.1)) (one_with byte xs place b)) Left
    pick true rest = all
    pick false rest = rest

one_of_left : {X : Type 0} (byte : X → ℕ) (xs : List X) (u : Unread) → AreBytes u.bytes → IfOk (one_of_at byte xs u) Left
unfolding one_of_at
one_of_left byte xs u all =
    then_has (byte_at u) (one_with byte xs u.at) (Ranged is_byte) Left (of_encoded byte_at one_byte is_byte byte-encoded u all) (λ b is. one_with_left byte xs u.at b is.1)

number_left : (size : ℕ) (u : Unread) → AreBytes u.bytes → IfOk (field (number_at size u)) Left
number_left size u all = go (number_at size u) refl
  where
    go : (r : Result (ℕ × Unread) CutFault) → number_at size u ≡ r → IfOk (field r) Left
    go (Ok x) e = bytes_left u.bytes (little_endian size x.0) x.1.bytes all (number_encoded size x.0 u x.1 (AreBytes-take size u.bytes all) e)
    go (Err e) is = tt

-- what is all of bytes
whole_has : {X : Type 0} (reading : Unread → Result (X × Unread) CodeFault) (P : X → Type 0) (v : List ℕ) → IfOk (reading (unread_of v)) (λ x. P x.0) → IfOk (whole reading v) P
whole_has {X = X} reading P v has = then_has (reading (unread_of v)) ended (λ x. P x.0) P has (λ x is. pick (length x.1.bytes == 0) x is)
  where
    pick : (b : Bool) (x : X × Unread) → P x.0 → IfOk (cond b (Ok x.0) (Err (faults.Trailing x.1.at))) P
    pick true x is = is
    pick false x is = tt

value_has : {X : Type 0} (reading : Unread → Result (X × Unread) CodeFault) (P : X → Type 0) (r : Row) → IfOk (reading (unread_of r.value)) (λ x. P x.0) → IfSome (value_read reading r) P
value_has {X = X} reading P r has = go (whole reading r.value) (whole_has reading P r.value has)
  where
    go : (o : Result X CodeFault) → IfOk o P → IfSome (result_ok o) P
    go (Ok x) is = is
    go (Err e) is = tt

value_ranged : {X : Type 0} (reading : Unread → Result (X × Unread) CodeFault) (bytes : X → List ℕ) (is : X → Bool) → IsEncoded reading bytes is → (r : Row) → AreBytes r.value → IfSome (value_read reading r) (λ x. is x ≡ true)
value_ranged {X = X} reading bytes is encoded r all = value_has reading (λ x. is x ≡ true) r (go (reading (unread_of r.value)) (of_encoded reading bytes is encoded (unread_of r.value) all))
  where
    go : (o : Result (X × Unread) CodeFault) → IfOk o (Ranged is) → IfOk o (λ x. is x.0 ≡ true)
    go (Ok x) there = there.0
    go (Err e) there = tt

-- ---- rows as values

service_ranged : (u : Unread) → AreBytes u.bytes → IfOk (service_row_at u) (λ x. are_sized 60 x.0.identity ≡ true)
unfolding service_row_at
service_ranged u all =
    then_has (one_of_at state_byte (services.Opening ∷ services.Open ∷ services.WaitingForRecoveryShares ∷ []) u) _ Left (λ x. are_sized 60 x.0.identity ≡ true) (one_of_left state_byte _ u all)
    (λ state left. then_has (flag_at state.1) _ (Ranged any_flag) (λ x. are_sized 60 x.0.identity ≡ true) (of_encoded flag_at flag_bytes any_flag flag-encoded state.1 left)
    (λ recovered more. then_has (sized_at 60 recovered.1) _ (Ranged (are_sized 60)) (λ x. are_sized 60 x.0.identity ≡ true) (of_encoded (sized_at 60) themselves (are_sized 60) (sized-encoded 60) recovered.1 more.1)
    (λ key sized. sized.0)))

member_ranged : (number : ℕ) (u : Unread) → is_member_number number ≡ true → AreBytes u.bytes → IfOk (member_row_at number u) (λ x. is_member (member_of_row x.0) ≡ true)
unfolding member_row_at
member_ranged number u valid all =
    then_has (one_of_at member_byte (member_statuses.Accepted ∷ member_statuses.Active ∷ member_statuses.Removed ∷ []) u) _ Left (λ x. is_member (member_of_row x.0) ≡ true) (one_of_left member_byte _ u all)
    (λ status left. then_has (sized_at 60 status.1) _ (Ranged (are_sized 60)) (λ x. is_member (member_of_row x.0) ≡ true) (of_encoded (sized_at 60) themselves (are_sized 60) (sized-encoded 60) status.1 left)
    (λ key sized. then_any (field (number_at 4 key.1)) _ (λ x. is_member (member_of_row x.0) ≡ true)
    (λ leaf. and_from (is_member_number number) (are_sized 60 key.0) valid sized.0)))

-- a node's key and endorsement
abbrev named_node : NodeRow → NewNode
named_node n = record { key = n.key; endorsement = n.endorsement }

node_ranged : (id : List ℕ) (u : Unread) → AreBytes u.bytes → IfOk (node_row_at id u) (λ x. is_node (named_node x.0) ≡ true)
unfolding node_row_at
node_ranged id u all =
    then_has (field (number_at 2 u)) _ Left (λ x. is_node (named_node x.0) ≡ true) (number_left 2 u all)
    (λ order first. then_has (one_of_at node_byte (node_statuses.Pending ∷ node_statuses.Trusted ∷ node_statuses.Retired ∷ node_statuses.Marked ∷ []) order.1) _ Left (λ x. is_node (named_node x.0) ≡ true) (one_of_left node_byte _ order.1 first)
    (λ status left. then_has (node_at status.1) _ (Ranged is_node) (λ x. is_node (named_node x.0) ≡ true) (of_encoded node_at node_bytes is_node node-encoded status.1 left)
    (λ node fits. then_any (field (number_at 8 node.1)) _ (λ x. is_node (named_node x.0) ≡ true) (λ removal. fits.0))))

actions_ranged : (n : ℕ) (u : Unread) → AreBytes u.bytes → IfOk (actions_to_end n u) (λ list. list_all is_action list ≡ true)
unfolding actions_to_end
actions_ranged zero u all = pick (length u.bytes == 0)
  where
    pick : (b : Bool) → IfOk (cond b (Ok []) (Err (faults.Trailing u.at))) (λ list. list_all is_action list ≡ true)
    pick true = refl
    pick false = tt
actions_ranged (suc n) u all = pick (length u.bytes == 0) (λ v left. actions_ranged n v left)
  where
    more : ((v : Unread) → AreBytes v.bytes → IfOk (actions_to_end n v) (λ list. list_all is_action list ≡ true)) →
        IfOk (action_at u >>= λ first. actions_to_end n first.1 >>= λ rest. Ok (first.0 ∷ rest)) (λ list. list_all is_action list ≡ true)
    more rest_of =
        then_has (action_at u) _ (Ranged is_action) (λ list. list_all is_action list ≡ true) (of_encoded action_at action_bytes is_action action-encoded u all)
        (λ first fits. then_has (actions_to_end n first.1) _ (λ list. list_all is_action list ≡ true) (λ list. list_all is_action list ≡ true) (rest_of first.1 fits.1)
        (λ rest others. and_from (is_action first.0) (list_all is_action rest) fits.0 others))

    pick : (b : Bool) → ((v : Unread) → AreBytes v.bytes → IfOk (actions_to_end n v) (λ list. list_all is_action list ≡ true)) →
        IfOk (cond b (Ok []) (action_at u >>= λ first. actions_to_end n first.1 >>= λ rest. Ok (first.0 ∷ rest))) (λ list. list_all is_action list ≡ true)
    pick true rest_of = refl
    pick false rest_of = more rest_of

-- who made a proposal, and its actions
abbrev IsProposed : ProposalRow → Type 0
IsProposed p = (is_member_number p.proposer ≡ true) × (list_all is_action p.actions ≡ true)

string_ranged : (u : Unread) → AreBytes u.bytes → IfOk (field (string_at 4 mebibyte u)) (Ranged is_signature_field)
unfolding signature_at
string_ranged u all = of_encoded signature_at with_u32_length is_signature_field signature-encoded u all

proposal_ranged : (u : Unread) → AreBytes u.bytes → IfOk (proposal_row_at u) (λ x. IsProposed x.0)
unfolding proposal_row_at
proposal_ranged u all =
    then_has (one_of_at proposal_byte (states.Open ∷ states.Accepted ∷ states.Rejected ∷ states.Withdrawn ∷ states.Failed ∷ states.Dropped ∷ []) u) _ Left (λ x. IsProposed x.0) (one_of_left proposal_byte _ u all)
    (λ state left. then_has (member_number_at state.1) _ (Ranged is_member_number) (λ x. IsProposed x.0) (of_encoded member_number_at one_byte is_member_number member_number-encoded state.1 left)
    (λ by valid. then_has (field (string_at 4 mebibyte by.1)) _ (Ranged is_signature_field) (λ x. IsProposed x.0) (string_ranged by.1 valid.1)
    (λ bytes held. then_has (actions_to_end (length bytes.0) (record { at = 0; bytes = bytes.0 })) _ (λ list. list_all is_action list ≡ true) (λ x. IsProposed x.0)
    (actions_ranged (length bytes.0) (record { at = 0; bytes = bytes.0 }) (are_bytes-each bytes.0 (and_parts (are_bytes bytes.0) (nat_le (length bytes.0) mebibyte) held.0).0))
    (λ list fit. then_any (field (number_at 1 bytes.1)) _ (λ x. IsProposed x.0)
    (λ count. then_any (votes_at count.0 0 count.1) _ (λ x. IsProposed x.0)
    (λ votes. (valid.0, fit)))))))

-- ---- one row

-- A node is one as requests record it, with an endorsement as short.
pub record IsNodeInRange (n : NodeRow) : Type 0 where
  pub fits : is_recorded_node (carried_node n) ≡ true
  pub short : length n.endorsement ≤ 2508

pub record IsProposalInRange (p : ProposalAt) : Type 0 where
  pub fits : is_made_proposal (carried_proposal p) ≡ true
  pub bounded : IsBoundedProposal (carried_proposal p)

-- The rows of governance, as values, are in their ranges.
pub record AreInRange (g : GovernedRows) : Type 0 where
  pub service : IfSome g.service (λ (s : ServiceRow). are_sized 60 s.identity ≡ true)
  pub members : list_all (λ (m : MemberRow). is_member (member_of_row m)) g.members ≡ true
  pub present : count_by is_there g.members ≤ 64
  pub nodes : AllByRecursion IsNodeInRange g.nodes
  pub few : length g.nodes ≤ 65535
  pub proposals : AllByRecursion IsProposalInRange g.proposals
  pub rules : list_all (λ (r : RuleAt). is_rule r.rule) g.rules ≡ true
  pub dealing : IfSome g.dealing (λ (d : Dealing). is_dealing d ≡ true)
  pub shares : list_all is_given_share g.shares ≡ true

put_has : {X : Type 0} (ok : Bool) (is : X → Bool) (put : X → GovernedRows) (o : Option X) (P : X → Type 0) (Q : GovernedRows → Type 0) → IfSome o P → ((x : X) → P x → ok ≡ true → is x ≡ true → Q (put x)) → IfSome (put_where ok is put o) Q
put_has ok is put None P Q has each = tt
put_has {X = X} ok is put (Some x) P Q has each = pick ok (is x) (each x has)
  where
    pick : (a b : Bool) → (a ≡ true → b ≡ true → Q (put x)) → IfSome (cond (a && b) (Some (put x)) None) Q
    pick true true f = f refl refl
    pick true false f = tt
    pick false b f = tt

either : (b : Bool) (o p : Option GovernedRows) (Q : GovernedRows → Type 0) → IfSome o Q → IfSome p Q → IfSome (cond b o p) Q
either true o p Q one two = one
either false o p Q one two = two

-- the byte that a key is, and that it is one of a member
key_byte : (key : List ℕ) → are_bytes key ≡ true → is_one_byte key ≡ true → is_member_number (first_byte key) ≡ true
key_byte [] all one = absurd cc
key_byte (k ∷ ks) all one =
    let byte : is_byte k ≡ true = (and_parts (is_byte k) (are_bytes ks) all).0 in
    let some : nat_lt 0 k ≡ true = (and_parts (length (k ∷ ks) == 1) (nat_lt 0 k) one).1 in
    let least : nat_le 1 k ≡ true = grind (arith, nat_tests, some) in
    and_from (nat_le 1 k) (is_byte k) least byte

room_taken : (g : GovernedRows) (m : MemberRow) → count_by is_there g.members ≤ 64 → has_room g m ≡ true → count_by is_there (g.members ++ m ∷ []) ≤ 64
room_taken g m few room = by (is_removed_status m.status) refl room
  where
    by : (b : Bool) → is_removed_status m.status ≡ b → (b || nat_lt (length (filter is_there g.members)) 64) ≡ true → count_by is_there (g.members ++ m ∷ []) ≤ 64
    by true is e =
        let none : is_there m ≡ false = ap not is in
        omega (arith, count-append is_there g.members (m ∷ []), count-cons is_there m [], ap one_if none, few)
    by false is e =
        let one : is_there m ≡ true = ap not is in
        let low : length (filter is_there g.members) < 64 = grind (arith, nat_tests, e) in
        omega (arith, count-append is_there g.members (m ∷ []), count-cons is_there m [], ap one_if one, length-filter is_there g.members, low)

node_put : (n : NodeRow) → is_node (named_node n) ≡ true → is_node_row n ≡ true → IsNodeInRange n
node_put n fits is =
    let parts = and_parts (nat_le 1 n.order && same_bytes n.id (sha256 n.key)) (nat_le (length n.endorsement) 2508) is in
    let id : n.id ≡ sha256 n.key = same_bytes-eq n.id (sha256 n.key) (and_parts (nat_le 1 n.order) (same_bytes n.id (sha256 n.key)) parts.0).1 in
    record {
      fits = and_from (is_digest n.id) (is_node (named_node n)) (ap is_digest id ∙ sha256_digest n.key) fits;
      short = grind (arith, nat_tests, parts.1);
    }

proposal_put : (id : List ℕ) (p : ProposalRow) → are_bytes id ≡ true → (length id == 32) ≡ true → IsProposed p → is_proposal_row p ≡ true → IsProposalInRange (record { id = id; row = p })
proposal_put id p bytes long made is =
    let parts = and_parts (nat_le 1 (length p.actions) && nat_le (length p.actions) 16) (nat_le (length (flat_map action_bytes p.actions)) 60000) is in
    record {
      fits = and_from (is_digest id) (is_byte p.proposer) (and_from (length id == 32) (are_bytes id) long bytes) (and_parts (nat_le 1 p.proposer) (is_byte p.proposer) made.0).1;
      bounded = record { fits = and_from (is_action_count (length p.actions)) (list_all is_action p.actions) parts.0 made.1; small = grind (arith, nat_tests, parts.1) };
    }

row_put : (g : GovernedRows) (r : Row) → is_write (row_write r) ≡ true → AreInRange g → IfSome (with_row g r) AreInRange
unfolding with_row
row_put g r fits in_range =
    either (same_bytes r.map service_map) _ _ AreInRange
    (put_has (same_bytes r.key service_key) any_value (λ x. record g { service = Some x }) (value_read service_row_at r) (λ s. are_sized 60 s.identity ≡ true) AreInRange
    (value_has service_row_at (λ s. are_sized 60 s.identity ≡ true) r (service_ranged (unread_of r.value) value))
    (λ x is ok any. record { service = is; members = in_range.members; present = in_range.present; nodes = in_range.nodes; few = in_range.few; proposals = in_range.proposals; rules = in_range.rules; dealing = in_range.dealing; shares = in_range.shares }))
    (either (same_bytes r.map members_map) _ _ AreInRange members
    (either (same_bytes r.map nodes_map) _ _ AreInRange
    (put_has (nat_lt (length g.nodes) 65535) is_node_row (λ x. record g { nodes = g.nodes ++ x ∷ [] }) (value_read (node_row_at r.key) r) (λ n. is_node (named_node n) ≡ true) AreInRange
    (value_has (node_row_at r.key) (λ n. is_node (named_node n) ≡ true) r (node_ranged r.key (unread_of r.value) value))
    (λ x is ok valid. record { service = in_range.service; members = in_range.members; present = in_range.present; nodes = each_append IsNodeInRange g.nodes (x ∷ []) in_range.nodes (node_put x is valid, tt); few = more_nodes x ok; proposals = in_range.proposals; rules = in_range.rules; dealing = in_range.dealing; shares = in_range.shares }))
    (either (same_bytes r.map proposals_map) _ _ AreInRange
    (put_has (length r.key == 32) is_proposal_row (λ x. record g { proposals = g.proposals ++ record { id = r.key; row = x } ∷ [] }) (value_read proposal_row_at r) IsProposed AreInRange
    (value_has proposal_row_at IsProposed r (proposal_ranged (unread_of r.value) value))
    (λ x is ok valid. record { service = in_range.service; members = in_range.members; present = in_range.present; nodes = in_range.nodes; few = in_range.few; proposals = each_append IsProposalInRange g.proposals (record { id = r.key; row = x } ∷ []) in_range.proposals (proposal_put r.key x key ok is valid, tt); rules = in_range.rules; dealing = in_range.dealing; shares = in_range.shares }))
    (either (same_bytes r.map constitution_map) _ _ AreInRange
    (put_has (is_one_byte r.key && nat_le (first_byte r.key) 7) any_value (λ x. record g { rules = g.rules ++ record { number = first_byte r.key; rule = x } ∷ [] }) (value_read rule_at r) (λ x. is_rule x ≡ true) AreInRange
    (value_ranged rule_at rule_bytes is_rule rule-encoded r value)
    (λ x is ok any. record { service = in_range.service; members = in_range.members; present = in_range.present; nodes = in_range.nodes; few = in_range.few; proposals = in_range.proposals; rules = all_append (λ (q : RuleAt). is_rule q.rule) g.rules (record { number = first_byte r.key; rule = x } ∷ []) in_range.rules (and_from (is_rule x) true is refl); dealing = in_range.dealing; shares = in_range.shares }))
    (either (same_bytes r.map dealing_map) _ _ AreInRange
    (put_has (same_bytes r.key dealing_key) any_value (λ x. record g { dealing = Some x }) (value_read dealing_at r) (λ x. is_dealing x ≡ true) AreInRange
    (value_ranged dealing_at dealing_bytes is_dealing dealing-encoded r value)
    (λ x is ok any. record { service = in_range.service; members = in_range.members; present = in_range.present; nodes = in_range.nodes; few = in_range.few; proposals = in_range.proposals; rules = in_range.rules; dealing = is; shares = in_range.shares }))
    (either (same_bytes r.map shares_map) _ None AreInRange shares tt))))))
  where
    parts : ((is_map_name r.map && is_key r.key) ≡ true) × (is_written_value (Some r.value) ≡ true)
    parts = and_parts (is_map_name r.map && is_key r.key) (is_written_value (Some r.value)) fits

    key : are_bytes r.key ≡ true
    key = (and_parts (nat_le 1 (length r.key) && nat_le (length r.key) 1024) (are_bytes r.key) (and_parts (is_map_name r.map) (is_key r.key) parts.0).1).1

    value : AreBytes r.value
    value = are_bytes-each r.value (and_parts (nat_le (length r.value) 65536) (are_bytes r.value) parts.1).1

    more_nodes : (x : NodeRow) → nat_lt (length g.nodes) 65535 ≡ true → length (g.nodes ++ x ∷ []) ≤ 65535
    more_nodes x ok = let low : length g.nodes < 65535 = grind (arith, nat_tests, ok) in omega (arith, length-append g.nodes (x ∷ []), low)

    members : IfSome (put_where (is_one_byte r.key) (has_room g) (λ x. record g { members = g.members ++ x ∷ [] }) (value_read (member_row_at (first_byte r.key)) r)) AreInRange
    members = by (is_one_byte r.key) refl
      where
        by : (b : Bool) → is_one_byte r.key ≡ b → IfSome (put_where b (has_room g) (λ x. record g { members = g.members ++ x ∷ [] }) (value_read (member_row_at (first_byte r.key)) r)) AreInRange
        by true is =
            put_has true (has_room g) (λ x. record g { members = g.members ++ x ∷ [] }) (value_read (member_row_at (first_byte r.key)) r) (λ m. is_member (member_of_row m) ≡ true) AreInRange
            (value_has (member_row_at (first_byte r.key)) (λ m. is_member (member_of_row m) ≡ true) r (member_ranged (first_byte r.key) (unread_of r.value) (key_byte r.key key is) value))
            (λ x of ok room. record { service = in_range.service; members = all_append (λ (m : MemberRow). is_member (member_of_row m)) g.members (x ∷ []) in_range.members (and_from (is_member (member_of_row x)) true of refl); present = room_taken g x in_range.present room; nodes = in_range.nodes; few = in_range.few; proposals = in_range.proposals; rules = in_range.rules; dealing = in_range.dealing; shares = in_range.shares })
        by false is = none (value_read (member_row_at (first_byte r.key)) r)
          where
            none : (o : Option MemberRow) → IfSome (put_where false (has_room g) (λ x. record g { members = g.members ++ x ∷ [] }) o) AreInRange
            none None = tt
            none (Some x) = tt

    shares : IfSome (put_where (is_one_byte r.key) any_value (λ x. record g { shares = g.shares ++ record { member = first_byte r.key; value = x } ∷ [] }) (value_read digest_at r)) AreInRange
    shares =
        put_has (is_one_byte r.key) any_value (λ x. record g { shares = g.shares ++ record { member = first_byte r.key; value = x } ∷ [] }) (value_read digest_at r) (λ x. is_digest x ≡ true) AreInRange
        (value_ranged digest_at themselves is_digest digest-encoded r value)
        (λ x is ok any. record {
          service = in_range.service;
          members = in_range.members;
          present = in_range.present;
          nodes = in_range.nodes;
          few = in_range.few;
          proposals = in_range.proposals;
          rules = in_range.rules;
          dealing = in_range.dealing;
          shares = all_append is_given_share g.shares (record { member = first_byte r.key; value = x } ∷ []) in_range.shares
              (and_from (is_byte (first_byte r.key) && is_digest x) true
              (and_from (is_byte (first_byte r.key)) (is_digest x) (and_parts (nat_le 1 (first_byte r.key)) (is_byte (first_byte r.key)) (key_byte r.key key ok)).1 is) refl);
        })

-- ---- all rows

-- The rows of governance are in their ranges, and all of them are there that have to be.
pub record AreRead (g : GovernedRows) : Type 0 where
  pub in_range : AreInRange g
  pub service : is_some g.service ≡ true
  pub dealing : is_some g.dealing ≡ true
  pub rules : length g.rules ≡ 7

found_has : {A : Type 0} (P : A → Type 0) (p : A → Bool) (xs : List A) → AllByRecursion P xs → IfSome (find p xs) P
found_has P p [] all = tt
found_has {A = A} P p (x ∷ xs) all = pick (p x) (found_has P p xs all.1)
  where
    pick : (b : Bool) → IfSome (find p xs) P → IfSome (cond b (Some x) (find p xs)) P
    pick true rest = all.0
    pick false rest = rest

-- nodes by their numbers are as many as were asked for
numbered_has : (P : NodeRow → Type 0) (n order : ℕ) (ns : List NodeRow) → AllByRecursion P ns → IfSome (numbered_from n order ns) (λ xs. AllByRecursion P xs × (length xs ≡ n))
numbered_has P zero order ns all = (tt, refl)
numbered_has P (suc n) order ns all = go (find (λ (x : NodeRow). nat_eq x.order order) ns) (numbered_from n (suc order) ns) (found_has P (λ (x : NodeRow). nat_eq x.order order) ns all) (numbered_has P n (suc order) ns all)
  where
    go : (o : Option NodeRow) (rest : Option (List NodeRow)) → IfSome o P → IfSome rest (λ xs. AllByRecursion P xs × (length xs ≡ n)) → IfSome (with_next o rest) (λ xs. AllByRecursion P xs × (length xs ≡ suc n))
    go None rest one others = tt
    go (Some x) None one others = tt
    go (Some x) (Some xs) one others = ((one, others.0), ap suc others.1)

rows_end : (index : ℕ) (g : GovernedRows) → AreInRange g → IfOk (ended_rows index g (numbered_from (length g.nodes) 1 g.nodes)) AreRead
rows_end index g in_range = go (numbered_from (length g.nodes) 1 g.nodes) (numbered_has IsNodeInRange (length g.nodes) 1 g.nodes in_range.nodes)
  where
    go : (o : Option (List NodeRow)) → IfSome o (λ xs. AllByRecursion IsNodeInRange xs × (length xs ≡ length g.nodes)) → IfOk (ended_rows index g o) AreRead
    go None has = tt
    go (Some ns) has = pick (is_some g.service && is_some g.dealing && (length g.rules == 7)) refl
      where
        pick : (b : Bool) → (is_some g.service && is_some g.dealing && (length g.rules == 7)) ≡ b → IfOk (cond b (Ok (record g { nodes = ns })) (Err index)) AreRead
        pick false is = tt
        pick true is =
            let parts = and_parts (is_some g.service && is_some g.dealing) (length g.rules == 7) is in
            let both = and_parts (is_some g.service) (is_some g.dealing) parts.0 in
            record {
              in_range = record { service = in_range.service; members = in_range.members; present = in_range.present; nodes = has.0; few = (let many = has.1 in let few = in_range.few in omega (arith, many, few)); proposals = in_range.proposals; rules = in_range.rules; dealing = in_range.dealing; shares = in_range.shares };
              service = both.0;
              dealing = both.1;
              rules = eqb-true (length g.rules) 7 parts.1;
            }

rows_in_range : (index : ℕ) (g : GovernedRows) (rs : List Row) → list_all is_write (row_writes rs) ≡ true → AreInRange g → IfOk (rows_from index g rs) AreRead
unfolding rows_from
rows_in_range index g [] all in_range = rows_end index g in_range
rows_in_range index g (r ∷ rs) all in_range =
    let parts = and_parts (is_write (row_write r)) (list_all is_write (row_writes rs)) all in
    pick (is_governance r.map) (with_row g r) (row_put g r parts.0 in_range) (λ next has. rows_in_range (suc index) next rs parts.1 has)
  where
    put : (o : Option GovernedRows) → IfSome o AreInRange → ((next : GovernedRows) → AreInRange next → IfOk (rows_from (suc index) next rs) AreRead) → IfOk (or_index index o (λ next. rows_from (suc index) next rs)) AreRead
    put None has rest = tt
    put (Some next) has rest = rest next has

    pick : (b : Bool) (o : Option GovernedRows) → IfSome o AreInRange → ((next : GovernedRows) → AreInRange next → IfOk (rows_from (suc index) next rs) AreRead) →
        IfOk (cond b (or_index index o (λ next. rows_from (suc index) next rs)) (rows_from (suc index) g rs)) AreRead
    pick true o has rest = put o has rest
    pick false o has rest = rest g in_range

-- what rows within the limits of tables read as
pub are_read : (seqno : ℕ) (all : List Row) (g : GovernedRows) → list_all is_write (row_writes all) ≡ true → governed_rows seqno all ≡ Ok g → AreRead g
unfolding governed_rows
are_read seqno all g fits read = go (rows_from 0 (no_rows seqno) all) (rows_in_range 0 (no_rows seqno) all fits none) read
  where
    none : AreInRange (no_rows seqno)
    none = record { service = tt; members = refl; present = omega arith; nodes = tt; few = omega arith; proposals = tt; rules = refl; dealing = tt; shares = refl }

    go : (o : Result GovernedRows ℕ) → IfOk o AreRead → o ≡ Ok g → AreRead g
    go (Ok n) has e = let same : n ≡ g = cc in subst AreRead same has
    go (Err i) has e = absurd cc
