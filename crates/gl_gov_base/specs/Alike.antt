-- Two histories that nobody can tell apart from a base on: all that later requests, refusals and
-- rows read of them is the same.
use Rattle.std.specs.Prelude.{◌≡◌, ℕ, ◌-◌, ◌<◌, ◌≤◌, List, [], ◌∷◌, ◌++◌, Option, None, Some, Bool, true, false, ◌||◌, map, filter_map, option_map, is_some, nat_eq, nat_le}
use Rattle.std.specs.List.{AllByRecursion}
use Rattle.gl_base.specs.Bytes.{same_bytes}
use Rattle.gl_shares.specs.Joining.{joined}
use Rattle.gl_shares.specs.declared.share.Share.{Share}
use Rattle.gl_requests.specs.declared.genesis.NewNode.{NewNode}
use Rattle.gl_requests.specs.declared.action.Action.{Action}
use Rattle.gl_requests.specs.Ranges.{is_request}
use Rattle.gl_gov_rules.specs.declared.change.RecordedNode.{RecordedNode}
use Rattle.gl_gov_rules.specs.declared.change.Proposal.{Proposal}
use Rattle.gl_gov_rules.specs.declared.change.ProposalState.{ProposalState}
use Rattle.gl_gov_rules.specs.declared.change.Change.{Change}
use Rattle.gl_gov_rules.specs.declared.change.Changed.{Changed}
use Rattle.gl_gov_rules.specs.declared.change.Recorded.{Recorded}
use Rattle.gl_gov_rules.specs.declared.request_facts.GivenShare.{GivenShare}
use Rattle.gl_gov_rules.specs.Changes.{changed_at}
use Rattle.gl_gov_base.specs.SameBy.{SameBy}
use Rattle.gl_gov_rules.specs.History.{History}
use Rattle.gl_gov_rules.specs.Members.{members, has_number, is_removed, has_acked, next_leaf}
use Rattle.gl_gov_rules.specs.Nodes.{nodes, nodes_recorded, node, retirement, is_marked, mark, was_trusted}
use Rattle.gl_gov_rules.specs.Service.{constitution, dealing, identity, is_recovered, service_state, last_clearing, given_in, given_after, given, shares_given}
use Rattle.gl_gov_rules.specs.Proposals.{proposals, proposal_in, proposal, state_settled, answers_of, has_answered}

-- A node as it is read from a base on: how far above the base it was recorded, the seqno at which
-- it was taken out of service, whether it is marked, and whether it isn't pending.
pub record NodeView : Type 0 where
  pub id : List ℕ
  pub node : NewNode
  pub late : ℕ
  pub removal : Option ℕ
  pub marked : Bool
  pub told : Bool

abbrev pub removed_at : History → RecordedNode → Option ℕ
removed_at h n = option_map (λ (c : Changed). c.seqno) (retirement h n)

abbrev pub node_view : ℕ → History → RecordedNode → NodeView
node_view base h n = record {
  id = n.id;
  node = n.node;
  late = n.seqno - base;
  removal = removed_at h n;
  marked = is_marked h n.id;
  told = is_marked h n.id || (is_some (removed_at h n) || was_trusted h n);
}

-- A proposal as it is read from a base on.
pub record ProposalView : Type 0 where
  pub id : List ℕ
  pub late : ℕ
  pub proposer : ℕ
  pub actions : List Action
  pub settled : Option ProposalState

abbrev pub first_of_list : {A : Type 0} → List A → Option A
first_of_list [] = None
first_of_list (x ∷ xs) = Some x

abbrev pub settled_by : History → Proposal → Option ProposalState
settled_by h p =
    first_of_list (filter_map (λ (c : Changed). state_settled p c.seqno c.change) h.changes)

abbrev pub proposal_view : ℕ → History → Proposal → ProposalView
proposal_view base h p = record {
  id = p.id;
  late = p.seqno - base;
  proposer = p.proposer;
  actions = p.actions;
  settled = settled_by h p;
}

abbrev pub is_view_of : List ℕ → ProposalView → Bool
is_view_of id v = same_bytes v.id id

-- The share that a request gives, with its seqno; and all shares that were given after a seqno.
abbrev pub given_by : Recorded → Option GivenShare
given_by r = given_in r.seqno r.request

abbrev pub shares_since : History → ℕ → List Share
shares_since h seqno = filter_map (given_after seqno) (given h)

abbrev pub of_member : ℕ → Share → Bool
of_member member s = nat_eq s.member member

-- Members are numbered by bytes.
abbrev pub AreByteShares : List Share → Type 0
AreByteShares ss = AllByRecursion (λ (s : Share). s.member < 256) ss

-- Shares that are the same, maybe in another order, and join to the same.
pub record SameShares (xs ys : List Share) : Type 0 where
  pub same : SameBy of_member xs ys
  pub join : (more : List Share) → AreByteShares more → joined (xs ++ more) ≡ joined (ys ++ more)

-- The mark stands, and not above this seqno.
abbrev pub is_up_to : ℕ → Option ℕ → Bool
is_up_to seqno None = false
is_up_to seqno (Some m) = nat_le m seqno

pub record Alike (base : ℕ) (a b : History) : Type 0 where
  pub members : SameBy has_number (members a) (members b)
  pub removed : (n : ℕ) → is_removed a n ≡ is_removed b n
  pub acked : (n : ℕ) → (is_removed a n || has_acked a n) ≡ (is_removed b n || has_acked b n)
  pub leaves : (n : ℕ) → next_leaf a n ≡ next_leaf b n
  pub nodes : map (node_view base a) (nodes a) ≡ map (node_view base b) (nodes b)
  pub marked : (id : List ℕ) → is_marked a id ≡ is_marked b id
  pub marks : (id : List ℕ) (s : ℕ) → base ≤ s →
      is_up_to s (mark a id) ≡ is_up_to s (mark b id)
  pub new_nodes : (n : RecordedNode) → base < n.seqno → node a n.id ≡ None →
      node_view base a n ≡ node_view base b n
  pub proposals : SameBy is_view_of (map (proposal_view base a) (proposals a))
      (map (proposal_view base b) (proposals b))
  pub new_proposals : (p : Proposal) → base < p.seqno → proposal a p.id ≡ None →
      proposal_view base a p ≡ proposal_view base b p
  pub answers : (id : List ℕ) (agrees : Bool) (n : ℕ) →
      has_answered (answers_of a) id agrees n ≡ has_answered (answers_of b) id agrees n
  pub constitution : constitution a ≡ constitution b
  pub dealing : dealing a ≡ dealing b
  pub identity : identity a ≡ identity b
  pub recovered : is_recovered a ≡ is_recovered b
  pub state : service_state a ≡ service_state b
  pub clearing : last_clearing a - base ≡ last_clearing b - base
  pub shares : SameShares (shares_given a) (shares_given b)
  pub later_shares : (s : ℕ) → base ≤ s → SameShares (shares_since a s) (shares_since b s)

-- A history with more changes of one entry, or with one more request that brings about none.
abbrev pub with_changes : History → ℕ → List Change → History
with_changes h s cs = record h { changes = h.changes ++ map (changed_at s) cs }

abbrev pub with_asked : History → Recorded → History
with_asked h r = record h { requests = h.requests ++ r ∷ [] }

-- A request stands above the base, and what it records is new to the history.
pub record IsNew (base : ℕ) (h : History) (r : Recorded) : Type 0 where
  pub above : base < r.seqno
  pub fits : is_request r.request ≡ true
  pub nodes : AllByRecursion (λ (n : RecordedNode). (base < n.seqno) × (node h n.id ≡ None))
      (nodes_recorded r.seqno r.request)
  pub proposal : (p : Proposal) → proposal_in r.seqno r.request ≡ Some p →
      (base < p.seqno) × (proposal h p.id ≡ None)
