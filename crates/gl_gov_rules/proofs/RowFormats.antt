-- Each row of the governance tables, whose parts are in their ranges, fits the format of rows.
use Rattle.std.proofs.Common.{◌≡◌, ℕ, suc, ◌+◌, ◌≤◌, nat_le, nat_lt, List, [], ◌∷◌, ◌++◌, length, Option, None, Some, IfSome, Bool, true, false, ◌&&◌, ◌==◌, refl, length-append, arith}
use Rattle.std.specs.List.{list_all}
use Rattle.std.proofs.lemmas.Bool.{and_parts, and_from}
use Rattle.std.proofs.lemmas.Bool.Decides.{nat_tests}
use Rattle.gl_base.specs.LittleEndian.{little_endian}
use Rattle.gl_base.specs.Code.{flag_byte}
use Rattle.gl_base.specs.Field.{with_u32_length}
use Rattle.gl_base.specs.Bytes.{is_byte, are_bytes, are_sized, is_digest, mebibyte}
use Rattle.gl_base.proofs.LittleEndianLaws.{length-little_endian}
use Rattle.gl_vmaps.specs.Name.{is_map_name, is_key, is_value}
use Rattle.gl_vmaps.specs.Writes.{is_write}
use Rattle.gl_vmaps.specs.Changes.{row}
use Rattle.gl_shares.specs.declared.share.Share.{Share}
use Rattle.gl_requests.specs.Encoding.{state_byte, rule_bytes, dealing_bytes}
use Rattle.gl_requests.specs.Ranges.{is_signature_field, are_counted, is_node, is_share, is_dealing, are_rules, is_rule, is_member}
use Rattle.gl_requests.proofs.Sizes.{sized_length, length-dealing_bytes}
use Rattle.gl_requests.specs.declared.genesis.ServiceState.{ServiceState}
use Rattle.gl_requests.specs.declared.genesis.ServiceState.TheVariants as services
use Rattle.gl_requests.specs.declared.genesis.NewMember.{NewMember}
use Rattle.gl_requests.specs.declared.genesis.Dealing.{Dealing}
use Rattle.gl_requests.specs.declared.action.Rule.{Rule}
use Rattle.gl_gov_rules.specs.declared.change.RecordedNode.{RecordedNode}
use Rattle.gl_gov_rules.specs.declared.refusal.MemberStatus.{MemberStatus}
use Rattle.gl_gov_rules.specs.declared.refusal.MemberStatus.TheVariants as member_statuses
use Rattle.gl_gov_rules.specs.declared.refusal.NodeStatus.{NodeStatus}
use Rattle.gl_gov_rules.specs.declared.refusal.NodeStatus.TheVariants as node_statuses
use Rattle.gl_gov_rules.specs.declared.row.ServiceRow.{ServiceRow}
use Rattle.gl_gov_rules.specs.History.{History, seqno_of}
use Rattle.gl_gov_rules.specs.Members.{member_status, next_leaf}
use Rattle.gl_gov_rules.specs.Nodes.{node_status, retirement}
use Rattle.gl_gov_rules.specs.Rows.{service_map, service_key, service_row_of, service_write, members_map, member_byte, member_row, member_write, nodes_map, node_byte, node_row, node_write, constitution_map, rule_writes_from, rule_writes_of, dealing_map, dealing_key, dealing_write, shares_map, share_write, write_of}
use Rattle.gl_gov_rules.proofs.Digests.{bytes-append, one_byte, number_bytes, length_bytes, sized_bytes}
use Rattle.gl_gov_rules.proofs.EncodedParts.{member_parts, dealing_are_bytes, rule_are_bytes}
use Rattle.gl_gov_rules.proofs.RowParts.{is_recorded_node, is_given_share}

-- a row within the limits of maps, keys and values
pub row_fits : (table key value : List ℕ) → is_map_name table ≡ true → 1 ≤ length key → length key ≤ 1024 → are_bytes key ≡ true → length value ≤ 65536 → are_bytes value ≡ true →
    is_write (row table key value) ≡ true
row_fits table key value name some few bytes short all =
    let a : nat_le 1 (length key) ≡ true = grind (arith, nat_tests) in
    let b : nat_le (length key) 1024 ≡ true = grind (arith, nat_tests) in
    let c : nat_le (length value) 65536 ≡ true = grind (arith, nat_tests) in
    and_from (is_map_name table && is_key key) (is_value value)
    (and_from (is_map_name table) (is_key key) name (and_from (nat_le 1 (length key) && nat_le (length key) 1024) (are_bytes key) (and_from (nat_le 1 (length key)) (nat_le (length key) 1024) a b) bytes))
    (and_from (nat_le (length value) 65536) (are_bytes value) c all)

pub flag_byte_byte : (b : Bool) → is_byte (flag_byte b) ≡ true
flag_byte_byte true = refl
flag_byte_byte false = refl

-- ---- the constitution

rule_fits : (number : ℕ) (r : Rule) → is_byte number ≡ true → is_write (row constitution_map (number ∷ []) (rule_bytes r)) ≡ true
rule_fits number r byte =
    row_fits constitution_map (number ∷ []) (rule_bytes r) refl (omega arith) (omega arith) (one_byte number [] byte refl)
    (omega (arith, length-append (little_endian 2 r.num) (little_endian 2 r.den), length-little_endian 2 r.num, length-little_endian 2 r.den))
    (rule_are_bytes r)

rules_from_fit : (number : ℕ) (rules : List Rule) → number + length rules ≤ 256 → list_all is_write (rule_writes_from number rules) ≡ true
rules_from_fit number [] few = refl
rules_from_fit number (r ∷ rules) few =
    let byte : is_byte number ≡ true = grind (arith, nat_tests) in
    and_from (is_write (row constitution_map (number ∷ []) (rule_bytes r))) (list_all is_write (rule_writes_from (suc number) rules))
    (rule_fits number r byte) (rules_from_fit (suc number) rules (omega (arith, few)))

-- the constitution's rows
pub rules_rows_fit : (o : Option (List Rule)) → IfSome o (λ rules. are_rules rules ≡ true) → list_all is_write (rule_writes_of o) ≡ true
rules_rows_fit None fits = refl
rules_rows_fit (Some rules) fits =
    let seven = (and_parts (length rules == 7) (list_all is_rule rules) fits).0 in
    let count : length rules ≡ 7 = grind (arith, nat_tests) in
    rules_from_fit 1 rules (omega (arith, count))

-- ---- the dealing

dealing_fits : (d : Dealing) → is_dealing d ≡ true → is_write (dealing_write d) ≡ true
dealing_fits d fits =
    let counted = (and_parts (is_byte d.threshold && is_digest d.secret_digest) (are_counted is_share d.shares) fits).1 in
    let below = (and_parts (nat_lt (length d.shares) 256) (list_all is_share d.shares) counted).0 in
    let few : length d.shares ≤ 255 = grind (arith, nat_tests, below) in
    row_fits dealing_map dealing_key (dealing_bytes d) refl (omega arith) (omega arith) refl (omega (arith, length-dealing_bytes d fits, few)) (dealing_are_bytes d fits)

-- the dealing's row
pub dealing_row_fits : (o : Option Dealing) → IfSome o (λ d. is_dealing d ≡ true) → list_all is_write (write_of dealing_write o) ≡ true
dealing_row_fits None fits = refl
dealing_row_fits (Some d) fits = and_from (is_write (dealing_write d)) true (dealing_fits d fits) refl

-- ---- members

member_byte_byte : (s : MemberStatus) → is_byte (member_byte s) ≡ true
member_byte_byte member_statuses.Accepted = refl
member_byte_byte member_statuses.Active = refl
member_byte_byte member_statuses.Removed = refl

-- a member's row
pub member_row_fits : (h : History) (m : NewMember) → is_member m ≡ true → is_write (member_write (member_row h m)) ≡ true
unfolding member_row
member_row_fits h m fits =
    let parts = member_parts m fits in
    let status = member_byte (member_status h m.number) in
    let leaf = little_endian 4 (next_leaf h m.number) in
    row_fits members_map (m.number ∷ []) ((status ∷ m.key) ++ leaf) refl (omega arith) (omega arith) (one_byte m.number [] parts.0 refl)
    (omega (arith, length-append (status ∷ m.key) leaf, length-little_endian 4 (next_leaf h m.number), sized_length 60 m.key parts.1))
    (bytes-append (status ∷ m.key) leaf (one_byte status m.key (member_byte_byte (member_status h m.number)) (sized_bytes 60 m.key parts.1)) (number_bytes 4 (next_leaf h m.number)))

-- ---- nodes

node_byte_byte : (s : NodeStatus) → is_byte (node_byte s) ≡ true
node_byte_byte node_statuses.Pending = refl
node_byte_byte node_statuses.Trusted = refl
node_byte_byte node_statuses.Retired = refl
node_byte_byte node_statuses.Marked = refl

-- a node's row
pub node_row_fits : (h : History) (order : ℕ) (n : RecordedNode) → is_recorded_node n ≡ true → length n.node.endorsement ≤ 2508 → is_write (node_write (node_row h order n)) ≡ true
unfolding node_row
node_row_fits h order n fits short =
    let both = and_parts (is_digest n.id) (is_node n.node) fits in
    let node = and_parts (are_sized 56 n.node.key) (is_signature_field n.node.endorsement) both.1 in
    let endorsed = (and_parts (are_bytes n.node.endorsement) (nat_le (length n.node.endorsement) mebibyte) node.1).0 in
    let id = sized_length 32 n.id both.0 in
    let key = sized_length 56 n.node.key node.0 in
    let status = node_byte (node_status h n) in
    let place = little_endian 2 order in
    let said = with_u32_length n.node.endorsement in
    let removed = little_endian 8 (seqno_of (retirement h n)) in
    row_fits nodes_map n.id (place ++ (status ∷ n.node.key) ++ said ++ removed) refl
    (omega (arith, id)) (omega (arith, id)) (sized_bytes 32 n.id both.0)
    (omega (
      arith,
      length-append (place ++ (status ∷ n.node.key) ++ said) removed,
      length-append (place ++ (status ∷ n.node.key)) said,
      length-append place (status ∷ n.node.key),
      length-append (little_endian 4 (length n.node.endorsement)) n.node.endorsement,
      length-little_endian 2 order,
      length-little_endian 4 (length n.node.endorsement),
      length-little_endian 8 (seqno_of (retirement h n)),
      key,
      short,
    ))
    (bytes-append (place ++ (status ∷ n.node.key) ++ said) removed
    (bytes-append (place ++ (status ∷ n.node.key)) said
    (bytes-append place (status ∷ n.node.key) (number_bytes 2 order) (one_byte status n.node.key (node_byte_byte (node_status h n)) (sized_bytes 56 n.node.key node.0)))
    (length_bytes n.node.endorsement endorsed))
    (number_bytes 8 (seqno_of (retirement h n))))

-- ---- the service

state_byte_byte : (s : ServiceState) → is_byte (state_byte s) ≡ true
state_byte_byte services.Opening = refl
state_byte_byte services.Open = refl
state_byte_byte services.WaitingForRecoveryShares = refl

service_fits : (s : ServiceRow) → are_sized 60 s.identity ≡ true → is_write (service_write s) ≡ true
service_fits s fits =
    let long = sized_length 60 s.identity fits in
    row_fits service_map service_key (state_byte s.state ∷ flag_byte s.is_recovered ∷ s.identity) refl (omega arith) (omega arith) refl (omega (arith, long))
    (one_byte (state_byte s.state) (flag_byte s.is_recovered ∷ s.identity) (state_byte_byte s.state)
    (one_byte (flag_byte s.is_recovered) s.identity (flag_byte_byte s.is_recovered) (sized_bytes 60 s.identity fits)))

-- the service's row
pub service_row_fits : (state : Option ServiceState) (recovered : Bool) (key : Option (List ℕ)) → IfSome key (λ k. are_sized 60 k ≡ true) →
    list_all is_write (write_of service_write (service_row_of state recovered key)) ≡ true
service_row_fits None recovered key fits = refl
service_row_fits (Some state) recovered None fits = refl
service_row_fits (Some state) recovered (Some key) fits =
    let s : ServiceRow = record { state = state; is_recovered = recovered; identity = key } in
    and_from (is_write (service_write s)) true (service_fits s fits) refl

-- ---- shares

-- the row of a share that was given
pub share_row_fits : (s : Share) → is_given_share s ≡ true → is_write (share_write s) ≡ true
share_row_fits s fits =
    let both = and_parts (is_byte s.member) (is_digest s.value) fits in
    row_fits shares_map (s.member ∷ []) s.value refl (omega arith) (omega arith) (one_byte s.member [] both.0 refl)
    (omega (arith, sized_length 32 s.value both.1)) (sized_bytes 32 s.value both.1)
