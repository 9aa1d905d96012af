-- A request of governance in its ranges is encoded by bytes.
use Rattle.std.proofs.Common.{◌≡◌, ℕ, List, [], ◌∷◌, ◌++◌, length, Bool, true, false, ◌&&◌, nat_le, nat_lt, refl}
use Rattle.std.specs.List.{list_all}
use Rattle.std.proofs.lemmas.Bool.{and_parts}
use Rattle.gl_base.specs.Bytes.{is_byte, are_bytes, are_sized, mebibyte}
use Rattle.gl_base.specs.Code.{flag_byte}
use Rattle.gl_base.specs.Field.{with_u32_length}
use Rattle.gl_requests.specs.Encoding.{state_byte, counted_bytes, node_bytes, member_bytes, dealing_bytes, action_bytes, act_tag, act_fields, act_bytes, request_bytes}
use Rattle.gl_requests.specs.Ranges.{is_signature_field, are_counted, is_node, is_member_number, is_member, is_dealing, is_action, is_action_count, is_act, is_first_state, is_genesis, is_recovery, is_member_request, is_request}
use Rattle.gl_requests.specs.declared.genesis.ServiceState.{ServiceState}
use Rattle.gl_requests.specs.declared.genesis.ServiceState.TheVariants as services
use Rattle.gl_requests.specs.declared.genesis.NewNode.{NewNode}
use Rattle.gl_requests.specs.declared.genesis.NewMember.{NewMember}
use Rattle.gl_requests.specs.declared.genesis.Genesis as founding
use Rattle.gl_requests.specs.declared.genesis.Recovery.{Recovery}
use Rattle.gl_requests.specs.declared.request.MemberAct.{MemberAct}
use Rattle.gl_requests.specs.declared.request.MemberAct.TheVariants as acts
use Rattle.gl_requests.specs.declared.request.MemberRequest.{MemberRequest}
use Rattle.gl_requests.specs.declared.request.GovernanceRequest.{GovernanceRequest}
use Rattle.gl_requests.specs.declared.request.GovernanceRequest.TheVariants as requests
use Rattle.gl_gov_rules.proofs.Digests.{bytes-append, one_byte, length_bytes, sized_bytes}
use Rattle.gl_gov_rules.proofs.EncodedParts.{number_byte, member_parts, counted_are_bytes, dealing_are_bytes, action_are_bytes}

-- an endorsement, or a signature
field_bytes : (bytes : List ℕ) → is_signature_field bytes ≡ true → are_bytes bytes ≡ true
field_bytes bytes fits = (and_parts (are_bytes bytes) (nat_le (length bytes) mebibyte) fits).0

-- ---- nodes and members

-- a node, and a member
node_are_bytes : (n : NewNode) → is_node n ≡ true → are_bytes (node_bytes n) ≡ true
node_are_bytes n fits =
    let both = and_parts (are_sized 56 n.key) (is_signature_field n.endorsement) fits in
    bytes-append n.key (with_u32_length n.endorsement) (sized_bytes 56 n.key both.0) (length_bytes n.endorsement (field_bytes n.endorsement both.1))

member_are_bytes : (m : NewMember) → is_member m ≡ true → are_bytes (member_bytes m) ≡ true
member_are_bytes m fits = let both = member_parts m fits in one_byte m.number m.key both.0 (sized_bytes 60 m.key both.1)

-- nodes, and members, after their count
nodes_are_bytes : (ns : List NewNode) → are_counted is_node ns ≡ true → are_bytes (counted_bytes node_bytes ns) ≡ true
nodes_are_bytes ns fits = counted_are_bytes node_bytes is_node ns node_are_bytes (and_parts (nat_lt (length ns) 256) (list_all is_node ns) fits).1

members_are_bytes : (ms : List NewMember) → are_counted is_member ms ≡ true → are_bytes (counted_bytes member_bytes ms) ≡ true
members_are_bytes ms fits = counted_are_bytes member_bytes is_member ms member_are_bytes (and_parts (nat_lt (length ms) 256) (list_all is_member ms) fits).1

-- ---- foundings

-- the state of a service, and what founds one or recovers it
state_is_byte : (s : ServiceState) → is_byte (state_byte s) ≡ true
state_is_byte services.Opening = refl
state_is_byte services.Open = refl
state_is_byte services.WaitingForRecoveryShares = refl

genesis_are_bytes : (g : founding.Genesis) → is_genesis g ≡ true → are_bytes (request_bytes (requests.Genesis g)) ≡ true
genesis_are_bytes g fits =
    let a = and_parts (is_first_state g.state && are_sized 60 g.identity && are_counted is_node g.nodes && are_counted is_member g.members) (is_dealing g.dealing) fits in
    let b = and_parts (is_first_state g.state && are_sized 60 g.identity && are_counted is_node g.nodes) (are_counted is_member g.members) a.0 in
    let c = and_parts (is_first_state g.state && are_sized 60 g.identity) (are_counted is_node g.nodes) b.0 in
    let d = and_parts (is_first_state g.state) (are_sized 60 g.identity) c.0 in
    let first : List ℕ = 1 ∷ state_byte g.state ∷ g.identity in
    let nodes = counted_bytes node_bytes g.nodes in
    let members = counted_bytes member_bytes g.members in
    bytes-append (first ++ nodes ++ members) (dealing_bytes g.dealing)
    (bytes-append (first ++ nodes) members
    (bytes-append first nodes
    (one_byte 1 (state_byte g.state ∷ g.identity) refl (one_byte (state_byte g.state) g.identity (state_is_byte g.state) (sized_bytes 60 g.identity d.1)))
    (nodes_are_bytes g.nodes c.1))
    (members_are_bytes g.members b.1))
    (dealing_are_bytes g.dealing a.1)

recovery_are_bytes : (r : Recovery) → is_recovery r ≡ true → are_bytes (request_bytes (requests.Recover r)) ≡ true
recovery_are_bytes r fits =
    let both = and_parts (are_sized 60 r.identity) (are_counted is_node r.nodes) fits in
    bytes-append (2 ∷ r.identity) (counted_bytes node_bytes r.nodes) (one_byte 2 r.identity refl (sized_bytes 60 r.identity both.0)) (nodes_are_bytes r.nodes both.1)

-- ---- what members ask for

-- the tag, the fields, and the whole request
tag_is_byte : (act : MemberAct) → is_byte (act_tag act) ≡ true
tag_is_byte acts.Ack = refl
tag_is_byte (acts.Propose list) = refl
tag_is_byte (acts.Ballot id agrees) = refl
tag_is_byte (acts.Withdraw id) = refl
tag_is_byte (acts.Share share) = refl

flag_is_byte : (b : Bool) → is_byte (flag_byte b) ≡ true
flag_is_byte true = refl
flag_is_byte false = refl

fields_are_bytes : (act : MemberAct) → is_act act ≡ true → are_bytes (act_fields act) ≡ true
fields_are_bytes acts.Ack fits = refl
fields_are_bytes (acts.Propose list) fits = counted_are_bytes action_bytes is_action list action_are_bytes (and_parts (is_action_count (length list)) (list_all is_action list) fits).1
fields_are_bytes (acts.Ballot id agrees) fits = bytes-append id (flag_byte agrees ∷ []) (sized_bytes 32 id fits) (one_byte (flag_byte agrees) [] (flag_is_byte agrees) refl)
fields_are_bytes (acts.Withdraw id) fits = sized_bytes 32 id fits
fields_are_bytes (acts.Share share) fits = sized_bytes 32 share fits

member_request_are_bytes : (m : MemberRequest) → is_member_request m ≡ true → are_bytes (request_bytes (requests.Member m)) ≡ true
member_request_are_bytes m fits =
    let a = and_parts (is_member_number m.member && is_act m.act) (is_signature_field m.signature) fits in
    let b = and_parts (is_member_number m.member) (is_act m.act) a.0 in
    bytes-append (act_bytes m.member m.act) (with_u32_length m.signature)
    (bytes-append (act_tag m.act ∷ m.member ∷ []) (act_fields m.act)
    (one_byte (act_tag m.act) (m.member ∷ []) (tag_is_byte m.act) (one_byte m.member [] (number_byte m.member b.0) refl)) (fields_are_bytes m.act b.1))
    (length_bytes m.signature (field_bytes m.signature a.1))

-- ---- requests

-- each kind of request
pub governance_are_bytes : (g : GovernanceRequest) → is_request g ≡ true → are_bytes (request_bytes g) ≡ true
governance_are_bytes (requests.Genesis g) fits = genesis_are_bytes g fits
governance_are_bytes (requests.Recover r) fits = recovery_are_bytes r fits
governance_are_bytes (requests.Join n) fits = one_byte 3 (node_bytes n) refl (node_are_bytes n fits)
governance_are_bytes (requests.Mark id) fits = one_byte 4 id refl (sized_bytes 32 id fits)
governance_are_bytes (requests.Member m) fits = member_request_are_bytes m fits
