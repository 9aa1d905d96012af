-- What stands beside the requests and the changes of a history, so that no question about members,
-- nodes, proposals or shares goes through all requests.
use Rattle.std.specs.Prelude.{◌≡◌, ℕ, ◌+◌, ◌-◌, ◌≤◌, ◌++◌, List, Option, None, Some, true, length, find, map, filter_map, option_map, slice_get, nat_lt, nat_eq, Bool, ◌&&◌, vec_len, vec_capacity}
use Rattle.std.specs.List.{AllByRecursion, flat_map, list_any}
use Rattle.std.specs.declared.vec.Vec.{Vec}
use Rattle.std.specs.declared.alloc.Global.{Global}
use Rattle.gl_base.specs.Bytes.{same_bytes}
use Rattle.gl_requests.specs.declared.request.MemberAct.{MemberAct}
use Rattle.gl_requests.specs.declared.request.MemberAct.TheVariants as acts
use Rattle.gl_requests.specs.declared.request.GovernanceRequest.{GovernanceRequest}
use Rattle.gl_requests.specs.declared.request.GovernanceRequest.TheVariants as requests
use Rattle.gl_gov_rules.specs.declared.change.Recorded.{Recorded}
use Rattle.gl_gov_rules.specs.declared.change.Changed.{Changed}
use Rattle.gl_gov_rules.specs.declared.change.Ballot.{Ballot}
use Rattle.gl_gov_rules.specs.declared.change.Proposal.{Proposal}
use Rattle.gl_gov_rules.specs.declared.change.RecordedNode.{RecordedNode}
use Rattle.gl_gov_rules.specs.declared.change.Settling.{Settling}
use Rattle.gl_gov_rules.specs.declared.request_facts.Signed.{Signed}
use Rattle.gl_gov_rules.specs.declared.request_facts.Mark.{Mark}
use Rattle.gl_gov_rules.specs.declared.request_facts.GivenShare.{GivenShare}
use Rattle.gl_gov_rules.specs.declared.request_facts.Trust.{Trust}
use Rattle.gl_gov_rules.specs.declared.request_facts.Retirement.{Retirement}
use Rattle.gl_gov_rules.specs.History.{Carried, History, SignedBy}
use Rattle.gl_gov_rules.specs.declared.index.ByChange.{ByChange}
use Rattle.gl_gov_rules.specs.declared.index.ByRequest.{ByRequest}
use Rattle.gl_gov_rules.specs.declared.index.Added.{Added}
use Rattle.gl_index.specs.declared.keyed_lists.KeyedLists.{KeyedLists}
use Rattle.gl_index.specs.Lists.{lists_of, list_at, HasRoomAt}
use Rattle.gl_index.specs.KeyedLists.{list_on, HasRoomOn}
use Rattle.gl_gov_rules.specs.Members.{member_named, leaf_after}
use Rattle.gl_gov_rules.specs.Nodes.{nodes_recorded}
use Rattle.gl_gov_rules.specs.Service.{given_in}
use Rattle.gl_gov_rules.specs.Proposals.{proposal_in, ballot_carried, ballot_on, settling_in}
use Rattle.gl_gov_rules.specs.RequestFacts.{removed_in, trust_in, retirement_in, mark_in, signed_by}

-- There is room for what a request tells of its signer.
abbrev pub HasRoomForSigner : List (Vec Signed Global) → GovernanceRequest → Type 0
HasRoomForSigner vs (requests.Member m) = HasRoomAt vs m.member
HasRoomForSigner vs other = Unit {0}

-- There is room for the ballot that a request gives.
abbrev pub HasRoomForAct : KeyedLists Ballot → MemberAct → Type 0
HasRoomForAct b (acts.Ballot id agrees) = HasRoomOn b id
HasRoomForAct b other = Unit {0}

abbrev pub HasRoomForAnswer : KeyedLists Ballot → GovernanceRequest → Type 0
HasRoomForAnswer b (requests.Member m) = HasRoomForAct b m.act
HasRoomForAnswer b other = Unit {0}

-- The leaves that signed requests are those of trees of 1,024.
abbrev pub AreLeavesSmall : List Recorded → Type 0
AreLeavesSmall rs = AllByRecursion (λ (r : Recorded). leaf_after r.request ≤ 1024) rs

-- So are those that are carried, as of a history that begins with no rows.
abbrev pub HasSmallLeaves : Carried → Type 0
HasSmallLeaves k = AllByRecursion (λ (s : SignedBy). s.next_leaf ≤ 1024) k.signed

-- The members whom changes name, the numbers of those whom they remove, the nodes that they trust,
-- and what takes nodes out of service.
pub record IsOfChanges (cs : List Changed) (x : ByChange) : Type 0 where
  pub members : x.members.items ≡ filter_map (λ (c : Changed). member_named c.change) cs
  pub removed : x.removed.items ≡ filter_map (λ (c : Changed). removed_in c.change) cs
  pub trusts : x.trusts.items ≡ filter_map (λ (c : Changed). trust_in c.seqno c.change) cs
  pub retirements : x.retirements.items
      ≡ filter_map (λ (c : Changed). retirement_in c.seqno c.change) cs

-- The proposals that are carried and those that requests make.
abbrev pub made : Carried → List Recorded → List Proposal
made k rs = k.proposals ++ filter_map (λ (r : Recorded). proposal_in r.seqno r.request) rs

-- What is carried and what requests tell: the nodes, the marks, the shares and the proposals in
-- order, and the ballots on each proposal; and what requests alone tell of each signer.
pub record IsOfRequests (k : Carried) (rs : List Recorded) (x : ByRequest) : Type 0 where
  pub nodes : x.nodes.items
      ≡ k.nodes ++ flat_map (λ (r : Recorded). nodes_recorded r.seqno r.request) rs
  pub marks : x.marks.items
      ≡ k.marks ++ filter_map (λ (r : Recorded). mark_in r.seqno r.request) rs
  pub shares : x.shares.items
      ≡ k.shares ++ filter_map (λ (r : Recorded). given_in r.seqno r.request) rs
  pub proposals : x.proposals.items ≡ made k rs
  pub signed : (n : ℕ) → list_at (lists_of x.signed.items) n
      ≡ filter_map (λ (r : Recorded). signed_by n r.seqno r.request) rs
  pub ballots : (id : List ℕ) → list_on x.ballots id
      ≡ filter_map (ballot_carried id) k.ballots ++ filter_map (ballot_on id) rs
  pub known : vec_len x.ballots.lists ≤ vec_len x.ballots.ids
  pub leaves : AreLeavesSmall rs

-- What one request tells that needs memory of its own.
pub record IsOfRequest (seqno : ℕ) (g : GovernanceRequest) (x : Added) : Type 0 where
  pub nodes : x.nodes.items ≡ nodes_recorded seqno g
  pub proposal : x.proposal ≡ proposal_in seqno g

-- There is room for what more changes tell, and for what one more request tells.
pub record HasRoomForNamed (x more : ByChange) : Type 0 where
  pub members : vec_len x.members + vec_len more.members ≤ vec_capacity x.members
  pub removed : vec_len x.removed + vec_len more.removed ≤ vec_capacity x.removed
  pub trusts : vec_len x.trusts + vec_len more.trusts ≤ vec_capacity x.trusts
  pub retirements : vec_len x.retirements + vec_len more.retirements ≤ vec_capacity x.retirements

pub record HasRoomForAdded (x : ByRequest) (added : Added) (g : GovernanceRequest) : Type 0 where
  pub nodes : vec_len x.nodes + vec_len added.nodes ≤ vec_capacity x.nodes
  pub marks : vec_len x.marks + 1 ≤ vec_capacity x.marks
  pub shares : vec_len x.shares + 1 ≤ vec_capacity x.shares
  pub proposals : vec_len x.proposals + 1 ≤ vec_capacity x.proposals
  pub signer : HasRoomForSigner x.signed.items g
  pub answer : HasRoomForAnswer x.ballots g

-- All that is carried stands up to a seqno.
pub record IsCarriedTo (to : ℕ) (k : Carried) : Type 0 where
  pub nodes : AllByRecursion (λ (n : RecordedNode). n.seqno ≤ to) k.nodes
  pub marks : AllByRecursion (λ (m : Mark). m.seqno ≤ to) k.marks
  pub shares : AllByRecursion (λ (s : GivenShare). s.seqno ≤ to) k.shares
  pub proposals : AllByRecursion (λ (p : Proposal). p.seqno ≤ to) k.proposals

-- What stands beside a history.
pub record IsIndexed (k : Carried) (rs : List Recorded) (cs : List Changed) (x : ByChange)
    (y : ByRequest) (ss : List (Option Settling)) : Type 0 where
  pub changes : IsOfChanges cs x
  pub requests : IsOfRequests k rs y
  pub settlings : ss ≡ map (settling_in cs) (made k rs)

-- The numbers of the members who were removed, the trusts of nodes, what took nodes out of
-- service, the marks, and what requests tell of a signer.
unfoldable pub removed : History → List ℕ
removed h = filter_map (λ (c : Changed). removed_in c.change) h.changes

unfoldable pub trusts_of : History → List Trust
trusts_of h = filter_map (λ (c : Changed). trust_in c.seqno c.change) h.changes

unfoldable pub retirements_of : History → List Retirement
retirements_of h = filter_map (λ (c : Changed). retirement_in c.seqno c.change) h.changes

unfoldable pub marks_of : History → List Mark
marks_of h =
    h.carried.marks ++ filter_map (λ (r : Recorded). mark_in r.seqno r.request) h.requests

unfoldable pub signed : ℕ → History → List Signed
signed n h = filter_map (λ (r : Recorded). signed_by n r.seqno r.request) h.requests

-- After a seqno a node was marked.
unfoldable pub has_mark_after : History → ℕ → Bool
has_mark_after h seqno = list_any (λ (m : Mark). nat_lt seqno m.seqno) (marks_of h)

-- 1 plus the leaf of the last of these; what is carried where there is none.
abbrev pub leaf_or : ℕ → Option Signed → ℕ
leaf_or carried None = carried
leaf_or carried (Some s) = s.next_leaf

abbrev pub last_leaf : ℕ → List Signed → ℕ
last_leaf carried ss = leaf_or carried (slice_get ss (length ss - 1))

-- It takes this node out of service, after the node's own entry.
abbrev pub is_node_or_all : List ℕ → Option (List ℕ) → Bool
is_node_or_all id None = true
is_node_or_all id (Some other) = same_bytes id other

abbrev pub is_retirement_of : RecordedNode → Retirement → Bool
is_retirement_of n r = nat_lt n.seqno r.seqno && is_node_or_all n.id r.id

-- The seqno of the first that does.
abbrev pub first_retirement : RecordedNode → List Retirement → Option ℕ
first_retirement n rs =
    option_map (λ (r : Retirement). r.seqno) (find (is_retirement_of n) rs)

-- Two proposals have the same identifier and the same seqno.
abbrev pub is_same_proposal : Proposal → Proposal → Bool
is_same_proposal p q = nat_eq p.seqno q.seqno && same_bytes p.id q.id
