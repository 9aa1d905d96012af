-- What the members, nodes, proposals and shares of requests that follow one another are made of is
-- in its range.
use Rattle.std.proofs.Common.{◌≡◌, ℕ, List, [], ◌∷◌, ◌++◌, length, map, Option, None, Some, IfSome, Bool, true, false, ◌&&◌, if◌then◌else◌, nat_lt, flat_map, filter_map, refl, sym, subst}
use Rattle.std.specs.List.{list_all, cons_option}
use Rattle.std.proofs.lemmas.Bool.{and_parts, and_from}
use Rattle.gl_base.specs.Bytes.{is_byte, is_digest, are_sized}
use Rattle.gl_shares.specs.declared.share.Share.{Share}
use Rattle.gl_requests.specs.Encoding.{node_id, proposal_id, request_bytes}
use Rattle.gl_requests.specs.Ranges.{is_node, is_member, is_dealing, are_counted, is_act, is_member_number, is_signature_field, is_first_state, is_member_request, is_request}
use Rattle.gl_requests.specs.declared.genesis.NewNode.{NewNode}
use Rattle.gl_requests.specs.declared.genesis.NewMember.{NewMember}
use Rattle.gl_requests.specs.declared.genesis.Genesis as founding
use Rattle.gl_requests.specs.declared.action.Action.TheVariants as actions
use Rattle.gl_requests.specs.declared.request.MemberAct.{MemberAct}
use Rattle.gl_requests.specs.declared.request.MemberAct.TheVariants as acts
use Rattle.gl_requests.specs.declared.request.MemberRequest.{MemberRequest}
use Rattle.gl_requests.specs.declared.request.GovernanceRequest.{GovernanceRequest}
use Rattle.gl_requests.specs.declared.request.GovernanceRequest.TheVariants as requests
use Rattle.gl_gov_rules.specs.declared.change.Recorded.{Recorded}
use Rattle.gl_gov_rules.specs.declared.change.RecordedNode.{RecordedNode}
use Rattle.gl_gov_rules.specs.declared.change.Proposal.{Proposal}
use Rattle.gl_gov_rules.specs.declared.change.Change.{Change}
use Rattle.gl_gov_rules.specs.declared.change.Change.TheVariants as changes
use Rattle.gl_gov_rules.specs.declared.change.Changed.{Changed}
use Rattle.gl_gov_rules.specs.Members.{member_named, members}
use Rattle.gl_gov_rules.specs.Nodes.{recorded_node, nodes_recorded, nodes}
use Rattle.gl_gov_rules.specs.Service.{share_in_act, share_in, share_after, last_clearing, shares_given}
use Rattle.gl_gov_rules.specs.Proposals.{proposal_in_act, proposal_in, proposals}
use Rattle.gl_gov_rules.specs.History.{History, nothing}
use Rattle.gl_gov_rules.specs.Changes.{history}
use Rattle.gl_gov_rules.specs.Governed.{Follows, IsGoverned}
use Rattle.gl_gov_rules.proofs.Counting.{all_append}
use Rattle.gl_gov_rules.proofs.Prefixes.{requests_more, history_of_none, governed_induction}
use Rattle.gl_gov_rules.proofs.Ranges.{is_change, are_changes, member_act}
use Rattle.gl_gov_rules.proofs.Digests.{sha256_digest}
use Rattle.gl_gov_rules.proofs.EncodedParts.{number_byte}
use Rattle.gl_gov_rules.proofs.NothingCarried.{nodes_asked, proposals_asked, shares_asked}

-- ---- lists

module _ {A B : Type 0} (p : A → Bool) (q : B → Bool) where
  -- what is found in things that pass a test passes another, where it does for each
  pub all_found : (f : A → Option B) → ((x : A) → p x ≡ true → IfSome (f x) (λ (y : B). q y ≡ true)) → (xs : List A) → list_all p xs ≡ true → list_all q (filter_map f xs) ≡ true
  all_found f each [] all = refl
  all_found f each (x ∷ xs) all =
      let both = and_parts (p x) (list_all p xs) all in
      put (f x) (each x both.0) (all_found f each xs both.1)
    where
      put : (o : Option B) → IfSome o (λ (y : B). q y ≡ true) → list_all q (filter_map f xs) ≡ true → list_all q (cons_option o (filter_map f xs)) ≡ true
      put None e rest = rest
      put (Some y) e rest = and_from (q y) (list_all q (filter_map f xs)) e rest

  -- so does all that they give
  pub all_given : (f : A → List B) → ((x : A) → p x ≡ true → list_all q (f x) ≡ true) → (xs : List A) → list_all p xs ≡ true → list_all q (flat_map f xs) ≡ true
  all_given f each [] all = refl
  all_given f each (x ∷ xs) all =
      let both = and_parts (p x) (list_all p xs) all in
      all_append q (f x) (flat_map f xs) (each x both.0) (all_given f each xs both.1)

-- ---- requests in their ranges

abbrev pub are_requests : List Recorded → Bool
are_requests rs = list_all (λ (r : Recorded). is_request r.request) rs

abbrev pub HasRequests : List Recorded → Type 0
HasRequests rs = are_requests (history rs).requests ≡ true

requests_of_none : HasRequests []
requests_of_none = rw history_of_none refl

requests_fit_more : (rs : List Recorded) (r : Recorded) → IsGoverned rs → Follows rs r → HasRequests rs → HasRequests (rs ++ r ∷ [])
requests_fit_more rs r all follows before =
    rw (requests_more rs r) (all_append (λ (q : Recorded). is_request q.request) (history rs).requests (r ∷ []) before (and_from (is_request r.request) true follows.fits refl))

-- requests that follow one another are all in their ranges
pub requests_fit : (rs : List Recorded) → IsGoverned rs → HasRequests rs
requests_fit = governed_induction HasRequests requests_of_none requests_fit_more

-- ---- members

named_fits : (c : Change) → is_change c ≡ true → IfSome (member_named c) (λ (m : NewMember). is_member m ≡ true)
named_fits (changes.Applied (actions.SetMember m)) e = e
named_fits other e = tt

-- where what was applied is in its range, so are the members
pub members_fit : (h : History) → are_changes h.changes ≡ true → list_all is_member (members h) ≡ true
unfolding members
members_fit h all = all_found (λ (c : Changed). is_change c.change) is_member (λ (c : Changed). member_named c.change) (λ c e. named_fits c.change e) h.changes all

-- ---- nodes

-- the identifier is a digest, the key and the endorsement are in their ranges
abbrev pub is_recorded_node : RecordedNode → Bool
is_recorded_node n = is_digest n.id && is_node n.node

recorded_fits : (seqno : ℕ) (first : Bool) (n : NewNode) → is_node n ≡ true → is_recorded_node (recorded_node seqno first n) ≡ true
recorded_fits seqno first n fits = and_from (is_digest (node_id n)) (is_node n) (sha256_digest n.key) fits

all_recorded : (seqno : ℕ) (ns : List NewNode) → list_all is_node ns ≡ true → list_all is_recorded_node (map (recorded_node seqno true) ns) ≡ true
all_recorded seqno [] all = refl
all_recorded seqno (n ∷ ns) all =
    let both = and_parts (is_node n) (list_all is_node ns) all in
    and_from (is_recorded_node (recorded_node seqno true n)) _ (recorded_fits seqno true n both.0) (all_recorded seqno ns both.1)

founding_nodes : (g : founding.Genesis) → is_request (requests.Genesis g) ≡ true → list_all is_node g.nodes ≡ true
founding_nodes g fits =
    let a = and_parts (is_first_state g.state && are_sized 60 g.identity && are_counted is_node g.nodes && are_counted is_member g.members) (is_dealing g.dealing) fits in
    let b = and_parts (is_first_state g.state && are_sized 60 g.identity && are_counted is_node g.nodes) (are_counted is_member g.members) a.0 in
    let c = and_parts (is_first_state g.state && are_sized 60 g.identity) (are_counted is_node g.nodes) b.0 in
    (and_parts (nat_lt (length g.nodes) 256) (list_all is_node g.nodes) c.1).1

pub nodes_of_request : (seqno : ℕ) (q : GovernanceRequest) → is_request q ≡ true → list_all is_recorded_node (nodes_recorded seqno q) ≡ true
nodes_of_request seqno (requests.Genesis g) fits = all_recorded seqno g.nodes (founding_nodes g fits)
nodes_of_request seqno (requests.Recover r) fits =
    let counted = (and_parts (are_sized 60 r.identity) (are_counted is_node r.nodes) fits).1 in
    all_recorded seqno r.nodes (and_parts (nat_lt (length r.nodes) 256) (list_all is_node r.nodes) counted).1
nodes_of_request seqno (requests.Join n) fits = and_from (is_recorded_node (recorded_node seqno false n)) true (recorded_fits seqno false n fits) refl
nodes_of_request seqno other fits = refl

-- where requests are in their ranges, so are the nodes
pub nodes_fit : (h : History) → h.carried ≡ nothing → are_requests h.requests ≡ true → list_all is_recorded_node (nodes h) ≡ true
nodes_fit h bare all =
    subst (λ (ns : List RecordedNode). list_all is_recorded_node ns ≡ true) (sym (nodes_asked h bare))
    (all_given (λ (r : Recorded). is_request r.request) is_recorded_node (λ (r : Recorded). nodes_recorded r.seqno r.request) (λ r e. nodes_of_request r.seqno r.request e) h.requests all)

-- ---- proposals

-- the identifier is a digest, the proposer a byte
abbrev pub is_made_proposal : Proposal → Bool
is_made_proposal p = is_digest p.id && is_byte p.proposer

member_of : (m : MemberRequest) → is_member_request m ≡ true → is_byte m.member ≡ true
member_of m fits =
    let a = and_parts (is_member_number m.member && is_act m.act) (is_signature_field m.signature) fits in
    number_byte m.member (and_parts (is_member_number m.member) (is_act m.act) a.0).0

made_fits : (seqno : ℕ) (m : MemberRequest) (act : MemberAct) → is_member_request m ≡ true → IfSome (proposal_in_act seqno m act) (λ (p : Proposal). is_made_proposal p ≡ true)
made_fits seqno m (acts.Propose list) fits = and_from (is_digest (proposal_id m)) (is_byte m.member) (sha256_digest (request_bytes (requests.Member m))) (member_of m fits)
made_fits seqno m other fits = tt

pub proposed_fits : (seqno : ℕ) (q : GovernanceRequest) → is_request q ≡ true → IfSome (proposal_in seqno q) (λ (p : Proposal). is_made_proposal p ≡ true)
proposed_fits seqno (requests.Member m) fits = made_fits seqno m m.act fits
proposed_fits seqno other fits = tt

-- where requests are in their ranges, so is who made a proposal, and its identifier
pub proposals_fit : (h : History) → h.carried ≡ nothing → are_requests h.requests ≡ true → list_all is_made_proposal (proposals h) ≡ true
proposals_fit h bare all =
    subst (λ (ps : List Proposal). list_all is_made_proposal ps ≡ true) (sym (proposals_asked h bare))
    (all_found (λ (r : Recorded). is_request r.request) is_made_proposal (λ (r : Recorded). proposal_in r.seqno r.request) (λ r e. proposed_fits r.seqno r.request e) h.requests all)

-- ---- shares

-- a member's share has 32 bytes
abbrev pub is_given_share : Share → Bool
is_given_share s = is_byte s.member && is_digest s.value

share_of_act : (m : MemberRequest) (act : MemberAct) → is_member_request m ≡ true → is_act act ≡ true → IfSome (share_in_act m.member act) (λ (s : Share). is_given_share s ≡ true)
share_of_act m (acts.Share value) fits act_fits = and_from (is_byte m.member) (is_digest value) (member_of m fits) act_fits
share_of_act m other fits act_fits = tt

pub share_of_request : (q : GovernanceRequest) → is_request q ≡ true → IfSome (share_in q) (λ (s : Share). is_given_share s ≡ true)
share_of_request (requests.Member m) fits = share_of_act m m.act fits (member_act m fits)
share_of_request other fits = tt

share_fits : (from : ℕ) (r : Recorded) → is_request r.request ≡ true → IfSome (share_after from r) (λ (s : Share). is_given_share s ≡ true)
share_fits from r fits = late (nat_lt from r.seqno)
  where
    late : (b : Bool) → IfSome (if b then share_in r.request else None) (λ (s : Share). is_given_share s ≡ true)
    late true = share_of_request r.request fits
    late false = tt

-- where requests are in their ranges, so are the shares that were given
pub shares_fit : (h : History) → h.carried ≡ nothing → are_requests h.requests ≡ true → list_all is_given_share (shares_given h) ≡ true
shares_fit h bare all =
    subst (λ (ss : List Share). list_all is_given_share ss ≡ true) (sym (shares_asked h bare))
    (all_found (λ (r : Recorded). is_request r.request) is_given_share (share_after (last_clearing h)) (share_fits (last_clearing h)) h.requests all)
