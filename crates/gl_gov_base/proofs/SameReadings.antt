-- What is read of histories that are alike is the same.
use Rattle.std.proofs.Common.{◌≡◌, ℕ, List, [], ◌∷◌, length, map, Option, Some, None, is_some, Bool, true, false, not, ◌&&◌, ◌||◌, cond, find, filter, filter_map, count_by, refl, sym, ◌∙◌, ap}
use Rattle.std.specs.Option.{option_map}
use Rattle.gl_base.specs.Bytes.{same_bytes}
use Rattle.gl_requests.specs.declared.genesis.NewMember.{NewMember}
use Rattle.gl_gov_rules.specs.declared.change.RecordedNode.{RecordedNode}
use Rattle.gl_gov_rules.specs.declared.change.Proposal.{Proposal}
use Rattle.gl_gov_rules.specs.declared.change.ProposalState.{ProposalState}
use Rattle.gl_gov_rules.specs.declared.change.ProposalState.TheVariants as states
use Rattle.gl_gov_rules.specs.declared.change.Changed.{Changed}
use Rattle.gl_gov_rules.specs.declared.refusal.NodeStatus.{NodeStatus}
use Rattle.gl_gov_rules.specs.declared.refusal.MemberStatus.TheVariants as members_of
use Rattle.gl_gov_rules.specs.declared.refusal.NodeStatus.TheVariants as statuses
use Rattle.gl_gov_rules.specs.History.{History}
use Rattle.gl_gov_rules.specs.Members.{members, member, is_removed, has_acked, member_status, is_present, is_active, present_count, active_count}
use Rattle.gl_gov_rules.specs.Nodes.{nodes, node, retirement, is_marked, was_trusted, node_status, is_trusted_status, is_pending_status, trusted_count, pending_count, trusted}
use Rattle.gl_gov_rules.specs.Proposals.{proposals, proposal, first_or_open, state_settled, proposal_state, is_open_state, open_count}
use Rattle.gl_gov_base.specs.Alike.{NodeView, removed_at, node_view, ProposalView, first_of_list, proposal_view, is_view_of, Alike}
use Rattle.gl_gov_base.proofs.SameLists.{count-map, find-map, filter-map, map_twice, length-map}

-- ---- nodes of one history, by their views

abbrev pub status_in : NodeView → NodeStatus
status_in v = cond v.marked statuses.Marked (cond (is_some v.removal) statuses.Retired (cond v.told statuses.Trusted statuses.Pending))

some_mapped : {A B : Type 0} (f : A → B) (o : Option A) → is_some o ≡ is_some (option_map f o)
some_mapped f None = refl
some_mapped f (Some x) = refl

pub status_viewed : (base : ℕ) (h : History) (n : RecordedNode) → node_status h n ≡ status_in (node_view base h n)
unfolding node_status
status_viewed base h n =
    (λ i. cond (is_marked h n.id) statuses.Marked (cond (some_mapped (λ (c : Changed). c.seqno) (retirement h n) i) statuses.Retired (cond (was_trusted h n) statuses.Trusted statuses.Pending)))
    ∙ by (is_marked h n.id) (is_some (removed_at h n)) (was_trusted h n)
  where
    by : (m r w : Bool) → cond m statuses.Marked (cond r statuses.Retired (cond w statuses.Trusted statuses.Pending)) ≡ cond m statuses.Marked (cond r statuses.Retired (cond (m || (r || w)) statuses.Trusted statuses.Pending))
    by true r w = refl
    by false true w = refl
    by false false w = refl

abbrev pub views : ℕ → History → List NodeView
views base h = map (node_view base h) (nodes h)

-- how many nodes have a status that passes
counted_viewed : (base : ℕ) (h : History) (p : NodeStatus → Bool) → count_by (λ (n : RecordedNode). p (node_status h n)) (nodes h) ≡ count_by (λ v. p (status_in v)) (views base h)
counted_viewed base h p = (λ i. count_by (λ (n : RecordedNode). p (status_viewed base h n i)) (nodes h)) ∙ count-map (λ v. p (status_in v)) (node_view base h) (nodes h)

abbrev pub view_with : List ℕ → NodeView → Bool
view_with id v = same_bytes v.id id

pub node_viewed : (base : ℕ) (h : History) (id : List ℕ) → option_map (node_view base h) (node h id) ≡ find (view_with id) (views base h)
unfolding node
node_viewed base h id = sym (find-map (view_with id) (node_view base h) (nodes h))

trusted_viewed : (base : ℕ) (h : History) → trusted h ≡ map (λ (v : NodeView). v.id) (filter (λ v. is_trusted_status (status_in v)) (views base h))
unfolding trusted
trusted_viewed base h =
    (λ i. map (λ (n : RecordedNode). n.id) (filter (λ (n : RecordedNode). is_trusted_status (status_viewed base h n i)) (nodes h)))
    ∙ map_twice (λ (v : NodeView). v.id) (node_view base h) (filter (λ (n : RecordedNode). is_trusted_status (status_in (node_view base h n))) (nodes h))
    ∙ ap (map (λ (v : NodeView). v.id)) (sym (filter-map (λ v. is_trusted_status (status_in v)) (node_view base h) (nodes h)))

-- ---- proposals of one history, by their views

abbrev pub state_in : ProposalView → ProposalState
state_in v = state_so v.settled
  where
    state_so : Option ProposalState → ProposalState
    state_so None = states.Open
    state_so (Some s) = s

pub state_viewed : (base : ℕ) (h : History) (p : Proposal) → proposal_state h p ≡ state_in (proposal_view base h p)
unfolding proposal_state
state_viewed base h p = by (filter_map (λ (c : Changed). state_settled p c.seqno c.change) h.changes)
  where
    by : (ss : List ProposalState) → first_or_open ss ≡ state_in (record (proposal_view base h p) { settled = first_of_list ss })
    by [] = refl
    by (s ∷ ss) = refl

abbrev pub proposal_views : ℕ → History → List ProposalView
proposal_views base h = map (proposal_view base h) (proposals h)

pub proposal_viewed : (base : ℕ) (h : History) (id : List ℕ) → option_map (proposal_view base h) (proposal h id) ≡ find (is_view_of id) (proposal_views base h)
unfolding proposal
proposal_viewed base h id = sym (find-map (is_view_of id) (proposal_view base h) (proposals h))

-- ---- members of one history

-- an Ack counts for who isn't removed
active_by : (s r k : Bool) → ((s && not r) && k) ≡ ((s && not r) && (r || k))
active_by true true k = refl
active_by true false k = refl
active_by false r k = refl

status_by : (r k : Bool) → cond r members_of.Removed (cond k members_of.Active members_of.Accepted) ≡ cond r members_of.Removed (cond (r || k) members_of.Active members_of.Accepted)
status_by true k = refl
status_by false k = refl

-- ---- of two that are alike

module _ (base : ℕ) (a b : History) (x : Alike base a b) where
  pub same_member : (n : ℕ) → member a n ≡ member b n
  unfolding member
  same_member n = x.members.first n

  pub same_present : (n : ℕ) → is_present a n ≡ is_present b n
  unfolding is_present
  same_present n = λ i. is_some (same_member n i) && not (x.removed n i)

  pub same_active : (n : ℕ) → is_active a n ≡ is_active b n
  unfolding is_active is_present
  same_active n =
      let one = λ (h : History). active_by (is_some (member h n)) (is_removed h n) (has_acked h n) in
      one a ∙ (λ i. same_present n i && x.acked n i) ∙ sym (one b)

  pub same_member_status : (n : ℕ) → member_status a n ≡ member_status b n
  unfolding member_status
  same_member_status n =
      let one = λ (h : History). status_by (is_removed h n) (has_acked h n) in
      one a ∙ (λ i. cond (x.removed n i) members_of.Removed (cond (x.acked n i) members_of.Active members_of.Accepted)) ∙ sym (one b)

  pub same_present_count : present_count a ≡ present_count b
  unfolding present_count
  same_present_count = x.members.counted (λ (m : NewMember). is_present a m.number) ∙ (λ i. count_by (λ (m : NewMember). same_present m.number i) (members b))

  pub same_active_count : active_count a ≡ active_count b
  unfolding active_count
  same_active_count = x.members.counted (λ (m : NewMember). is_active a m.number) ∙ (λ i. count_by (λ (m : NewMember). same_active m.number i) (members b))

  pub same_trusted_count : trusted_count a ≡ trusted_count b
  unfolding trusted_count
  same_trusted_count = counted_viewed base a is_trusted_status ∙ (λ i. count_by (λ v. is_trusted_status (status_in v)) (x.nodes i)) ∙ sym (counted_viewed base b is_trusted_status)

  pub same_pending_count : pending_count a ≡ pending_count b
  unfolding pending_count
  same_pending_count = counted_viewed base a is_pending_status ∙ (λ i. count_by (λ v. is_pending_status (status_in v)) (x.nodes i)) ∙ sym (counted_viewed base b is_pending_status)

  pub same_trusted : trusted a ≡ trusted b
  same_trusted = trusted_viewed base a ∙ (λ i. map (λ (v : NodeView). v.id) (filter (λ v. is_trusted_status (status_in v)) (x.nodes i))) ∙ sym (trusted_viewed base b)

  pub same_node_count : length (nodes a) ≡ length (nodes b)
  same_node_count = sym (length-map (node_view base a) (nodes a)) ∙ ap (λ vs. length vs) x.nodes ∙ length-map (node_view base b) (nodes b)

  pub same_node : (id : List ℕ) → option_map (node_view base a) (node a id) ≡ option_map (node_view base b) (node b id)
  same_node id = node_viewed base a id ∙ ap (find (view_with id)) x.nodes ∙ sym (node_viewed base b id)

  pub same_proposal : (id : List ℕ) → option_map (proposal_view base a) (proposal a id) ≡ option_map (proposal_view base b) (proposal b id)
  same_proposal id = proposal_viewed base a id ∙ x.proposals.first id ∙ sym (proposal_viewed base b id)

  pub same_open_count : open_count a ≡ open_count b
  unfolding open_count
  same_open_count =
      let one = λ (h : History). (λ i. count_by (λ (p : Proposal). is_open_state (state_viewed base h p i)) (proposals h)) ∙ count-map (λ v. is_open_state (state_in v)) (proposal_view base h) (proposals h) in
      one a ∙ x.proposals.counted (λ v. is_open_state (state_in v)) ∙ sym (one b)
