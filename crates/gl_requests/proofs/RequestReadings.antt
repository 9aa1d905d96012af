-- Requests: what is read is encoded so, and what is encoded so is read.
use Rattle.std.proofs.Common.{◌≡◌, ℕ, ◌+◌, Bool, true, ◌&&◌, ◌==◌, List, [], ◌∷◌, ◌++◌, Ok, Err, refl, sym, ap, ◌∙◌, append_assoc}
use Rattle.std.proofs.lemmas.Bool.{and_parts, and_from, eqb-true}
use Rattle.gl_base.specs.Bytes.{are_sized, is_digest}
use Rattle.gl_base.specs.Cut.{Unread}
use Rattle.gl_base.specs.Field.{with_u32_length}
use Rattle.gl_base.specs.declared.fault.CodeFault.TheVariants as faults
use Rattle.gl_base.proofs.ByteLists.{AreBytes}
use Rattle.gl_base.proofs.Fields.{tag_read}
use Rattle.gl_base.proofs.ParsedBytes.{IsEncoded, Gets, IsRead, whole-encoded, whole-read}
use Rattle.gl_requests.specs.declared.genesis.Genesis as founding
use Rattle.gl_requests.specs.declared.genesis.Recovery.{Recovery}
use Rattle.gl_requests.specs.declared.request.MemberAct.{MemberAct}
use Rattle.gl_requests.specs.declared.request.MemberAct.TheVariants as acts
use Rattle.gl_requests.specs.declared.request.MemberRequest.{MemberRequest}
use Rattle.gl_requests.specs.declared.request.GovernanceRequest.{GovernanceRequest}
use Rattle.gl_requests.specs.declared.request.GovernanceRequest.TheVariants as requests
use Rattle.gl_requests.specs.Encoding.{state_byte, counted_bytes, node_bytes, member_bytes, dealing_bytes, act_tag, act_fields, request_bytes}
use Rattle.gl_requests.specs.Ranges.{is_first_state, is_signature_field, are_counted, is_node, is_member_number, is_member, is_dealing, is_act, is_member_request, is_genesis, is_recovery, is_request}
use Rattle.gl_requests.specs.Parsing.{as_value, counted_at, state_at, signature_at, digest_at, node_at, member_number_at, member_at, dealing_at, act_at, member_request_at, genesis_at, recovery_at, is_act_tag, request_after, request_at, request_result}
use Rattle.gl_requests.proofs.Remainders.{IsAfter, field_after, made_after, from_after, value_after, cond_after, fault_after, kind_after}
use Rattle.gl_requests.proofs.FieldReadings.{one_byte, tagged-encoded, sized_at, themselves, sized-encoded, sized-read, digest-encoded, digest-read, signature-encoded, signature-read, member_number-encoded, member_number-read, counted-encoded, counted-read}
use Rattle.gl_requests.proofs.PartReadings.{state_bytes, state-encoded, state-read, node-encoded, node-read, member-encoded, member-read, dealing-encoded, dealing-read}
use Rattle.gl_requests.proofs.ActionReadings.{is_act_of, act-encoded, act-read}

-- ---- a genesis

-- What stands after its tag.
abbrev genesis_fields : founding.Genesis → List ℕ
genesis_fields g =
    (state_byte g.state ∷ g.identity) ++ counted_bytes node_bytes g.nodes ++ counted_bytes member_bytes g.members ++ dealing_bytes g.dealing

genesis-encoded : IsEncoded genesis_at genesis_fields is_genesis
unfolding genesis_at
genesis-encoded = from_after genesis_at genesis_fields is_genesis
    (field_after [] state_at state_bytes is_first_state state-encoded _ genesis_fields is_genesis
    (λ state first. field_after (state_bytes state) (sized_at 60) themselves (are_sized 60) (sized-encoded 60) _ genesis_fields is_genesis
    (λ identity sized. field_after (state_byte state ∷ identity) (counted_at node_at) (counted_bytes node_bytes) (are_counted is_node) (counted-encoded node_at node_bytes is_node node-encoded) _ genesis_fields is_genesis
    (λ nodes n. field_after ((state_byte state ∷ identity) ++ counted_bytes node_bytes nodes) (counted_at member_at) (counted_bytes member_bytes) (are_counted is_member) (counted-encoded member_at member_bytes is_member member-encoded) _ genesis_fields is_genesis
    (λ members m. field_after ((state_byte state ∷ identity) ++ counted_bytes node_bytes nodes ++ counted_bytes member_bytes members) dealing_at dealing_bytes is_dealing dealing-encoded _ genesis_fields is_genesis
    (λ dealing d.
    let a : Bool = is_first_state state in
    let b : Bool = are_sized 60 identity in
    let c : Bool = are_counted is_node nodes in
    let e : Bool = are_counted is_member members in
    made_after ((state_byte state ∷ identity) ++ counted_bytes node_bytes nodes ++ counted_bytes member_bytes members ++ dealing_bytes dealing)
    (record { state = state; identity = identity; nodes = nodes; members = members; dealing = dealing }) genesis_fields is_genesis refl
    (and_from (a && b && c && e) (is_dealing dealing) (and_from (a && b && c) e (and_from (a && b) c (and_from a b first sized) n) m) d)))))))

genesis-read : IsRead genesis_at genesis_fields is_genesis
unfolding genesis_at
genesis-read at g rest is =
    let a : Bool = is_first_state g.state in
    let b : Bool = are_sized 60 g.identity in
    let c : Bool = are_counted is_node g.nodes in
    let d : Bool = are_counted is_member g.members in
    let e = and_parts (a && b && c && d) (is_dealing g.dealing) is in
    let f = and_parts (a && b && c) d e.0 in
    let h = and_parts (a && b) c f.0 in
    let i = and_parts a b h.0 in
    let prefix : List ℕ = state_byte g.state ∷ g.identity in
    let listed : List ℕ = counted_bytes node_bytes g.nodes in
    let governing : List ℕ = counted_bytes member_bytes g.members in
    let dealt : List ℕ = dealing_bytes g.dealing in
    let state = state-read at g.state (g.identity ++ (listed ++ (governing ++ (dealt ++ rest)))) i.0 in
    let identity = sized-read 60 state.place g.identity (listed ++ (governing ++ (dealt ++ rest))) i.1 in
    let nodes = counted-read node_at node_bytes is_node node-read identity.place g.nodes (governing ++ (dealt ++ rest)) h.1 in
    let members = counted-read member_at member_bytes is_member member-read nodes.place g.members (dealt ++ rest) f.1 in
    let dealing = dealing-read members.place g.dealing rest e.1 in
    let regrouped : genesis_fields g ++ rest ≡ prefix ++ (listed ++ (governing ++ (dealt ++ rest))) =
    append_assoc (prefix ++ listed ++ governing) dealt rest
    ∙ append_assoc (prefix ++ listed) governing (dealt ++ rest)
    ∙ append_assoc prefix listed (governing ++ (dealt ++ rest)) in
    record {
      place = dealing.place;
      read =
          ap (λ (ys : List ℕ). genesis_at (record { at = at; bytes = ys })) regrouped
          ∙ rw (state.read, identity.read, nodes.read, members.read, dealing.read) refl;
    }

-- ---- a recovery

abbrev recovery_fields : Recovery → List ℕ
recovery_fields r = r.identity ++ counted_bytes node_bytes r.nodes

recovery-encoded : IsEncoded recovery_at recovery_fields is_recovery
unfolding recovery_at
recovery-encoded = from_after recovery_at recovery_fields is_recovery
    (field_after [] (sized_at 60) themselves (are_sized 60) (sized-encoded 60) _ recovery_fields is_recovery
    (λ identity sized. field_after identity (counted_at node_at) (counted_bytes node_bytes) (are_counted is_node) (counted-encoded node_at node_bytes is_node node-encoded) _ recovery_fields is_recovery
    (λ nodes n. made_after (identity ++ counted_bytes node_bytes nodes) (record { identity = identity; nodes = nodes }) recovery_fields is_recovery refl
    (and_from (are_sized 60 identity) (are_counted is_node nodes) sized n))))

recovery-read : IsRead recovery_at recovery_fields is_recovery
unfolding recovery_at
recovery-read at r rest is =
    let both = and_parts (are_sized 60 r.identity) (are_counted is_node r.nodes) is in
    let identity = sized-read 60 at r.identity (counted_bytes node_bytes r.nodes ++ rest) both.0 in
    let nodes = counted-read node_at node_bytes is_node node-read identity.place r.nodes rest both.1 in
    let regrouped = append_assoc r.identity (counted_bytes node_bytes r.nodes) rest in
    record {
      place = nodes.place;
      read = ap (λ (ys : List ℕ). recovery_at (record { at = at; bytes = ys })) regrouped ∙ rw (identity.read, nodes.read) refl;
    }

-- ---- a member's request

-- What stands after its tag.
abbrev member_fields : MemberRequest → List ℕ
member_fields m = (m.member ∷ act_fields m.act) ++ with_u32_length m.signature

-- It has this tag, and its fields are in their ranges.
abbrev is_member_of : ℕ → MemberRequest → Bool
is_member_of tag m = (act_tag m.act == tag) && is_member_request m

member_of-made : (tag member : ℕ) (act : MemberAct) (signature : List ℕ) → is_member_number member ≡ true → is_act_of tag act ≡ true → is_signature_field signature ≡ true
    → is_member_of tag (record { member = member; act = act; signature = signature }) ≡ true
member_of-made tag member act signature valid is fits =
    let both = and_parts (act_tag act == tag) (is_act act) is in
    and_from (act_tag act == tag) (is_member_number member && is_act act && is_signature_field signature) both.0
    (and_from (is_member_number member && is_act act) (is_signature_field signature) (and_from (is_member_number member) (is_act act) valid both.1) fits)

member_request-encoded : (tag : ℕ) → is_act_tag tag ≡ true → IsEncoded (member_request_at tag) member_fields (is_member_of tag)
unfolding member_request_at
member_request-encoded tag known = from_after (member_request_at tag) member_fields (is_member_of tag)
    (field_after [] member_number_at one_byte is_member_number member_number-encoded _ member_fields (is_member_of tag)
    (λ member valid. field_after (one_byte member) (act_at tag) act_fields (is_act_of tag) (act-encoded tag known) _ member_fields (is_member_of tag)
    (λ act is. field_after (member ∷ act_fields act) signature_at with_u32_length is_signature_field signature-encoded _ member_fields (is_member_of tag)
    (λ signature fits. made_after ((member ∷ act_fields act) ++ with_u32_length signature) (record { member = member; act = act; signature = signature }) member_fields (is_member_of tag) refl
    (member_of-made tag member act signature valid is fits)))))

-- after its tag its fields make the request
member-suffix : (tag : ℕ) → is_act_tag tag ≡ true → IsAfter (one_byte tag) (λ unread. as_value requests.Member (member_request_at tag unread)) request_bytes is_request
member-suffix tag known =
    value_after (one_byte tag) (member_request_at tag) member_fields (is_member_of tag) (member_request-encoded tag known) requests.Member request_bytes is_request
    (λ m is.
    let both = and_parts (act_tag m.act == tag) (is_member_request m) is in
    (ap (λ (n : ℕ). n ∷ member_fields m) (sym (eqb-true (act_tag m.act) tag both.0)), both.1))

member_request-read : (at : ℕ) (m : MemberRequest) (rest : List ℕ) → is_member_request m ≡ true → Gets (member_request_at (act_tag m.act) (record { at = at; bytes = member_fields m ++ rest })) m rest
unfolding member_request_at
member_request-read at m rest is =
    let a = and_parts (is_member_number m.member && is_act m.act) (is_signature_field m.signature) is in
    let b = and_parts (is_member_number m.member) (is_act m.act) a.0 in
    let signed : List ℕ = with_u32_length m.signature in
    let member = member_number-read at m.member (act_fields m.act ++ (signed ++ rest)) b.0 in
    let act = act-read member.place m.act (signed ++ rest) b.1 in
    let signature = signature-read act.place m.signature rest a.1 in
    let regrouped = append_assoc (m.member ∷ act_fields m.act) signed rest in
    record {
      place = signature.place;
      read =
          ap (λ (ys : List ℕ). member_request_at (act_tag m.act) (record { at = at; bytes = ys })) regrouped
          ∙ rw (member.read, act.read, signature.read) refl;
    }

-- ---- after a tag

tag-suffix : (place n : ℕ) → IsAfter (one_byte n) (λ unread. request_after place (n, unread)) request_bytes is_request
unfolding request_after
tag-suffix place n =
    kind_after n 1 genesis_at genesis_fields is_genesis genesis-encoded requests.Genesis request_bytes is_request (λ g is. (refl, is)) _
    (λ a. kind_after n 2 recovery_at recovery_fields is_recovery recovery-encoded requests.Recover request_bytes is_request (λ r is. (refl, is)) _
    (λ b. kind_after n 3 node_at node_bytes is_node node-encoded requests.Join request_bytes is_request (λ node is. (refl, is)) _
    (λ c. kind_after n 4 digest_at themselves is_digest digest-encoded requests.Mark request_bytes is_request (λ id is. (refl, is)) _
    (λ d. cond_after (is_act_tag n) (one_byte n) (λ unread. as_value requests.Member (member_request_at n unread)) (λ unread. Err (faults.Value place)) request_bytes is_request
    (λ known. member-suffix n known)
    (λ none. fault_after (one_byte n) (faults.Value place) request_bytes is_request)))))

request_at-encoded : IsEncoded request_at request_bytes is_request
unfolding request_at
request_at-encoded = tagged-encoded request_after request_bytes is_request (λ place n byte. tag-suffix place n)

-- by its tag a member's request is read as one
member-kind : (place : ℕ) (act : MemberAct) (unread : Unread) → request_after place (act_tag act, unread) ≡ as_value requests.Member (member_request_at (act_tag act) unread)
unfolding request_after
member-kind place acts.Ack unread = refl
member-kind place (acts.Propose list) unread = refl
member-kind place (acts.Ballot id agrees) unread = refl
member-kind place (acts.Withdraw id) unread = refl
member-kind place (acts.Share share) unread = refl

kind-read : (at : ℕ) (r : GovernanceRequest) (rest : List ℕ) → is_request r ≡ true → Gets (request_at (record { at = at; bytes = request_bytes r ++ rest })) r rest
unfolding request_at request_after
kind-read at (requests.Genesis g) rest is =
    let there = genesis-read (at + 1) g rest is in
    record { place = there.place; read = rw (tag_read at 1 (genesis_fields g ++ rest), there.read) refl }
kind-read at (requests.Recover r) rest is =
    let there = recovery-read (at + 1) r rest is in
    record { place = there.place; read = rw (tag_read at 2 (recovery_fields r ++ rest), there.read) refl }
kind-read at (requests.Join n) rest is =
    let there = node-read (at + 1) n rest is in
    record { place = there.place; read = rw (tag_read at 3 (node_bytes n ++ rest), there.read) refl }
kind-read at (requests.Mark id) rest is =
    let there = digest-read (at + 1) id rest is in
    record { place = there.place; read = rw (tag_read at 4 (id ++ rest), there.read) refl }
kind-read at (requests.Member m) rest is =
    let there = member_request-read (at + 1) m rest is in
    record {
      place = there.place;
      read =
          rw (tag_read at (act_tag m.act) (member_fields m ++ rest))
          (member-kind at m.act (record { at = at + 1; bytes = member_fields m ++ rest }) ∙ rw there.read refl);
    }

-- ---- all of the bytes

pub request-encoded : (bytes : List ℕ) (r : GovernanceRequest) → AreBytes bytes → request_result bytes ≡ Ok r → (is_request r ≡ true) × (bytes ≡ request_bytes r)
request-encoded = whole-encoded request_at request_bytes is_request request_at-encoded

pub request-read : (r : GovernanceRequest) → is_request r ≡ true → request_result (request_bytes r) ≡ Ok r
request-read = whole-read request_at request_bytes is_request kind-read
