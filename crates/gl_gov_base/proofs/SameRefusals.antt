-- Histories that are alike refuse the same, and find the same actions bad.
use Rattle.std.proofs.Common.{◌≡◌, ℕ, ◌+◌, ◌-◌, ◌<◌, List, [], ◌∷◌, length, Option, Some, None, is_some, is_none, Bool, true, false, not, ◌&&◌, ◌||◌, cond, count_by, nat_lt, nat_eq, refl, sym, ◌∙◌, ap}
use Rattle.std.specs.Prelude.{nat_le, ◌==◌, suc}
use Rattle.std.specs.List.{list_any, list_all}
use Rattle.std.specs.Option.{option_map}
use Rattle.sha2.specs.Sha256.{sha256}
use Rattle.gl_requests.specs.Encoding.{node_id, proposal_id}
use Rattle.gl_requests.specs.declared.genesis.NewNode.{NewNode}
use Rattle.gl_requests.specs.declared.genesis.NewMember.{NewMember}
use Rattle.gl_requests.specs.declared.genesis.ShareDigest.{ShareDigest}
use Rattle.gl_requests.specs.declared.genesis.Dealing.{Dealing}
use Rattle.gl_requests.specs.declared.action.Action.{Action}
use Rattle.gl_requests.specs.declared.action.Action.TheVariants as actions
use Rattle.gl_requests.specs.Ranges.{is_request}
use Rattle.gl_requests.specs.declared.request.MemberAct.{MemberAct}
use Rattle.gl_requests.specs.declared.request.MemberAct.TheVariants as acts
use Rattle.gl_requests.specs.declared.request.MemberRequest.{MemberRequest}
use Rattle.gl_requests.specs.declared.request.GovernanceRequest.{GovernanceRequest}
use Rattle.gl_requests.specs.declared.request.GovernanceRequest.TheVariants as requests
use Rattle.gl_gov_rules.specs.Signatures.{is_signed, leaf_of, is_endorsed}
use Rattle.gl_gov_rules.specs.declared.change.Change.TheVariants as changes
use Rattle.gl_gov_rules.specs.declared.change.RecordedNode.{RecordedNode}
use Rattle.gl_gov_rules.specs.declared.change.Proposal.{Proposal}
use Rattle.gl_gov_rules.specs.declared.refusal.NodeStatus.{NodeStatus}
use Rattle.gl_gov_rules.specs.declared.refusal.Cause.TheVariants as causes
use Rattle.gl_gov_rules.specs.declared.refusal.GovernanceRefusal.{GovernanceRefusal}
use Rattle.gl_gov_rules.specs.declared.refusal.GovernanceRefusal.TheVariants as refusals
use Rattle.gl_gov_rules.specs.History.{History}
use Rattle.gl_gov_rules.specs.Members.{members, has_number, member, is_ack}
use Rattle.gl_gov_rules.specs.Nodes.{node, is_pending_status, is_trusted_status}
use Rattle.gl_gov_rules.specs.Service.{dealing, threshold_of, shares_given}
use Rattle.gl_gov_rules.specs.Proposals.{proposal, is_open_state, answers_of, has_ballot}
use Rattle.gl_gov_rules.specs.Actions.{◌orelse◌, where_is, is_number_used, has_key, is_key_used, is_dealing_in_order, are_present, is_dealing_among, holders_without, are_too_few_without, is_pending_node, is_trusted_node, is_opening, cause_against, with_applied, at_index, first_bad_action}
use Rattle.gl_gov_rules.specs.Changes.{is_complete}
use Rattle.gl_gov_rules.specs.Refusals.{are_ids_distinct, is_any_recorded, founding_fault, members_refusal, nodes_refusal, are_endorsed, genesis_refusal, recovery_refusal, key_in_force, status_found, is_retired, recorded_refusal, room_refusal, join_refusal, mark_refusal, signature_refusal, signed_refusal, bad_action_refusal, propose_refusal, open_refusal, ballot_refusal, proposer_refusal, withdraw_refusal, waiting_refusal, is_dealt, secret_refusal, has_given, share_refusal, act_refusal, refusal}
use Rattle.gl_gov_base.specs.Alike.{node_view, ProposalView, proposal_view, of_member, Alike}
use Rattle.gl_gov_base.proofs.SameLists.{same_any, same_length}
use Rattle.gl_gov_base.proofs.MoreRequests.{byte_member}
use Rattle.gl_gov_base.proofs.MoreChanges.{alike_changes}
use Rattle.gl_gov_base.proofs.SameReadings.{status_in, status_viewed, state_in, state_viewed, same_member, same_present, same_active, same_present_count, same_trusted_count, same_pending_count, same_node_count, same_node, same_proposal, same_open_count}

-- ---- what is found, by its view

found_viewed : (base : ℕ) (h : History) (o : Option RecordedNode) → status_found h o ≡ option_map status_in (option_map (node_view base h) o)
found_viewed base h None = refl
found_viewed base h (Some n) = ap Some (status_viewed base h n)

abbrev passes : (NodeStatus → Bool) → Option NodeStatus → Bool
passes p None = false
passes p (Some s) = p s

pending_found : (h : History) (o : Option RecordedNode) → is_pending_node h o ≡ passes is_pending_status (status_found h o)
pending_found h None = refl
pending_found h (Some n) = refl

trusted_found : (h : History) (o : Option RecordedNode) → is_trusted_node h o ≡ passes is_trusted_status (status_found h o)
trusted_found h None = refl
trusted_found h (Some n) = refl

some_found : (h : History) (o : Option RecordedNode) → is_some o ≡ is_some (status_found h o)
some_found h None = refl
some_found h (Some n) = refl

none_found : (h : History) (o : Option RecordedNode) → is_none o ≡ is_none (status_found h o)
none_found h None = refl
none_found h (Some n) = refl

some_view : (base : ℕ) (h : History) (o : Option Proposal) → is_some o ≡ is_some (option_map (proposal_view base h) o)
some_view base h None = refl
some_view base h (Some p) = refl

abbrev open_in : Option ProposalView → Option GovernanceRefusal
open_in None = Some refusals.NoProposal
open_in (Some v) = where_is (not (is_open_state (state_in v))) (refusals.NotOpen (state_in v))

open_viewed : (base : ℕ) (h : History) (o : Option Proposal) → open_refusal h o ≡ open_in (option_map (proposal_view base h) o)
unfolding open_refusal
open_viewed base h None = refl
open_viewed base h (Some p) = λ i. where_is (not (is_open_state (state_viewed base h p i))) (refusals.NotOpen (state_viewed base h p i))

abbrev proposer_in : ℕ → Option ProposalView → Option GovernanceRefusal
proposer_in member None = None
proposer_in member (Some v) = where_is (not (nat_eq v.proposer member)) refusals.NotProposer

proposer_viewed : (base : ℕ) (h : History) (member : ℕ) (o : Option Proposal) → proposer_refusal member o ≡ proposer_in member (option_map (proposal_view base h) o)
proposer_viewed base h member None = refl
proposer_viewed base h member (Some p) = refl

-- ---- actions

module _ (base : ℕ) (a b : History) (x : Alike base a b) where
  pub same_found : (id : List ℕ) → status_found a (node a id) ≡ status_found b (node b id)
  same_found id = found_viewed base a (node a id) ∙ ap (option_map status_in) (same_node base a b x id) ∙ sym (found_viewed base b (node b id))

  same_none : (id : List ℕ) → is_none (node a id) ≡ is_none (node b id)
  same_none id = none_found a (node a id) ∙ ap is_none (same_found id) ∙ sym (none_found b (node b id))

  pub same_some : (id : List ℕ) → is_some (node a id) ≡ is_some (node b id)
  same_some id = some_found a (node a id) ∙ ap is_some (same_found id) ∙ sym (some_found b (node b id))

  same_pending_node : (id : List ℕ) → is_pending_node a (node a id) ≡ is_pending_node b (node b id)
  same_pending_node id = pending_found a (node a id) ∙ ap (passes is_pending_status) (same_found id) ∙ sym (pending_found b (node b id))

  same_trusted_node : (id : List ℕ) → is_trusted_node a (node a id) ≡ is_trusted_node b (node b id)
  same_trusted_node id = trusted_found a (node a id) ∙ ap (passes is_trusted_status) (same_found id) ∙ sym (trusted_found b (node b id))

  same_number_used : (n : ℕ) → is_number_used a n ≡ is_number_used b n
  unfolding is_number_used
  same_number_used n = same_any has_number (members a) (members b) x.members (has_number n)

  same_key_used : (key : List ℕ) → is_key_used a key ≡ is_key_used b key
  unfolding is_key_used
  same_key_used key = same_any has_number (members a) (members b) x.members (has_key key)

  same_holders : (n : ℕ) (o : Option Dealing) → holders_without a n o ≡ holders_without b n o
  same_holders n None = refl
  same_holders n (Some d) = λ i. count_by (λ (s : ShareDigest). same_present base a b x s.member i && not (nat_eq s.member n)) d.shares

  same_too_few : (n : ℕ) → are_too_few_without a n ≡ are_too_few_without b n
  unfolding are_too_few_without
  same_too_few n = ap (λ o. nat_lt (holders_without a n o) (threshold_of o)) x.dealing ∙ ap (λ k. nat_lt k (threshold_of (dealing b))) (same_holders n (dealing b))

  same_dealing_among : (d : Dealing) → is_dealing_among a d ≡ is_dealing_among b d
  unfolding is_dealing_among are_present
  same_dealing_among d = λ i. is_dealing_in_order d && list_all (λ (s : ShareDigest). same_present base a b x s.member i) d.shares

  pub same_cause : (action : Action) → cause_against a action ≡ cause_against b action
  unfolding cause_against
  same_cause (actions.SetMember m) = λ i.
      where_is (same_number_used m.number i) causes.NumberUsed
      orelse where_is (same_key_used m.key i) causes.KeyUsed
      orelse where_is (nat_le 64 (same_present_count base a b x i)) causes.Full
  same_cause (actions.RemoveMember number) = λ i.
      where_is (not (same_present base a b x number i)) causes.NotPresent
      orelse where_is (same_too_few number i) causes.TooFewHolders
  same_cause (actions.SetRecoveryThreshold d) = λ i. where_is (not (same_dealing_among d i)) causes.Dealing
  same_cause (actions.TransitionNodeToTrusted id) = λ i.
      where_is (same_none id i) causes.NotRecorded
      orelse where_is (not (same_pending_node id i)) causes.NodeStatus
      orelse where_is (nat_le 32 (same_trusted_count base a b x i)) causes.Full
  same_cause (actions.RemoveNode id) = λ i.
      where_is (same_none id i) causes.NotRecorded
      orelse where_is (not (same_pending_node id i || same_trusted_node id i)) causes.NodeStatus
      orelse where_is (same_trusted_node id i && (same_trusted_count base a b x i == 1)) causes.LastTrusted
  same_cause actions.TransitionServiceToOpen = λ i. where_is (not (is_opening (x.state i))) causes.NotOpening
  same_cause (actions.SetConstitution rules) = refl

pub same_bad : (base s : ℕ) → base < s → (list : List Action) (index : ℕ) (a b : History) → Alike base a b → first_bad_action a s index list ≡ first_bad_action b s index list
same_bad base s low [] index a b x = refl
same_bad base s low (action ∷ list) index a b x =
    let rest = same_bad base s low list (index + 1) (with_applied a s action) (with_applied b s action) (alike_changes base a b s (changes.Applied action ∷ []) low x) in
    λ i. at_index index (same_cause base a b x action i) orelse rest i

-- ---- refusals

module _ (base : ℕ) (a b : History) (x : Alike base a b) where
  same_any_recorded : (ns : List NewNode) → is_any_recorded a ns ≡ is_any_recorded b ns
  unfolding is_any_recorded
  same_any_recorded ns = λ i. list_any (λ (n : NewNode). same_some base a b x (node_id n) i) ns

  same_nodes_refusal : (ns : List NewNode) → nodes_refusal a ns ≡ nodes_refusal b ns
  unfolding nodes_refusal
  same_nodes_refusal ns = λ i.
      where_is (not (are_ids_distinct ns) || same_any_recorded ns i) (founding_fault causes.NodeStatus)
      orelse where_is (nat_lt 32 (length ns) || nat_lt 65535 (same_node_count base a b x i + length ns)) (founding_fault causes.Full)
      orelse where_is (length ns == 0) (founding_fault causes.LastTrusted)

  same_room : (id : List ℕ) → room_refusal a id ≡ room_refusal b id
  same_room id = λ i.
      recorded_refusal (same_found base a b x id i)
      orelse where_is (nat_le 64 (same_pending_count base a b x i)) (refusals.TooMany 64)
      orelse where_is (nat_le 65535 (same_node_count base a b x i)) (refusals.TooMany 65535)

  same_signature : (m : MemberRequest) (o : Option NewMember) → signature_refusal a m o ≡ signature_refusal b m o
  same_signature m None = refl
  same_signature m (Some of) = λ i. where_is (not (is_signed of.key (key_in_force (x.identity i)) m)) refusals.Signature

  pub same_signed : (m : MemberRequest) → signed_refusal a m ≡ signed_refusal b m
  unfolding signed_refusal
  same_signed m =
      let signature = ap (signature_refusal a m) (same_member base a b x m.member) ∙ same_signature m (member b m.member) in
      λ i.
      where_is (not (same_present base a b x m.member i)) refusals.NotMember
      orelse where_is (not (is_ack m.act) && not (same_active base a b x m.member i)) refusals.NotActive
      orelse signature i
      orelse where_is (nat_lt (leaf_of m.signature) (x.leaves m.member i)) (refusals.LeafNotGreater (x.leaves m.member i - 1) (leaf_of m.signature))

  same_open : (id : List ℕ) → open_refusal a (proposal a id) ≡ open_refusal b (proposal b id)
  same_open id = open_viewed base a (proposal a id) ∙ ap open_in (same_proposal base a b x id) ∙ sym (open_viewed base b (proposal b id))

  same_proposer : (member : ℕ) (id : List ℕ) → proposer_refusal member (proposal a id) ≡ proposer_refusal member (proposal b id)
  same_proposer member id = proposer_viewed base a member (proposal a id) ∙ ap (proposer_in member) (same_proposal base a b x id) ∙ sym (proposer_viewed base b member (proposal b id))

  same_some_proposal : (id : List ℕ) → is_some (proposal a id) ≡ is_some (proposal b id)
  same_some_proposal id = some_view base a (proposal a id) ∙ ap is_some (same_proposal base a b x id) ∙ sym (some_view base b (proposal b id))

  same_has_ballot : (id : List ℕ) (member : ℕ) → has_ballot (answers_of a) id member ≡ has_ballot (answers_of b) id member
  unfolding has_ballot
  same_has_ballot id member = λ i. x.answers id true member i || x.answers id false member i

  pub same_complete : is_complete a ≡ is_complete b
  unfolding is_complete
  same_complete = λ i. nat_le (threshold_of (x.dealing i)) (suc (same_length of_member (shares_given a) (shares_given b) x.shares.same i))

  same_share : (member : ℕ) (value : List ℕ) → member < 256 → share_refusal a member value ≡ share_refusal b member value
  unfolding share_refusal
  same_share member value small =
      let given = same_any of_member (shares_given a) (shares_given b) x.shares.same (has_given member) in
      let join = x.shares.join (record { member = member; value = value } ∷ []) (small, tt) in
      λ i.
      waiting_refusal (x.state i)
      orelse where_is (given i) (refusals.KnownShare member)
      orelse where_is (not (is_dealt member (sha256 value) (x.dealing i))) (refusals.WrongShare (sha256 value))
      orelse cond (same_complete i) (secret_refusal (sha256 (join i)) (x.dealing i)) None

  same_act : (s : ℕ) → base < s → (m : MemberRequest) (act : MemberAct) → m.member < 256 → act_refusal a s m act ≡ act_refusal b s m act
  unfolding act_refusal propose_refusal ballot_refusal withdraw_refusal
  same_act s low m acts.Ack small = refl
  same_act s low m (acts.Propose list) small =
      let bad = same_bad base s low list 1 a b x in
      λ i.
      where_is (nat_le 256 (same_open_count base a b x i)) (refusals.TooMany 256)
      orelse bad_action_refusal (bad i)
      orelse where_is (same_some_proposal (proposal_id m) i) (refusals.KnownProposal (proposal_id m))
  same_act s low m (acts.Ballot id agrees) small = λ i. same_open id i orelse where_is (same_has_ballot id m.member i) refusals.HasBallot
  same_act s low m (acts.Withdraw id) small = λ i. same_open id i orelse same_proposer m.member id i
  same_act s low m (acts.Share share) small = same_share m.member share small

  -- every request above the base whose fields are in their ranges is refused alike
  pub same_refusal : (s : ℕ) → base < s → (g : GovernanceRequest) → is_request g ≡ true → refusal a s g ≡ refusal b s g
  unfolding refusal genesis_refusal recovery_refusal join_refusal mark_refusal
  same_refusal s low (requests.Genesis g) fits = λ i. members_refusal g orelse same_nodes_refusal g.nodes i orelse where_is (not (are_endorsed g.identity g.nodes)) refusals.Signature
  same_refusal s low (requests.Recover r) fits = λ i. same_nodes_refusal r.nodes i orelse where_is (not (are_endorsed r.identity r.nodes)) refusals.Signature
  same_refusal s low (requests.Join n) fits = λ i. where_is (not (is_endorsed (key_in_force (x.identity i)) n.key n.endorsement)) refusals.Signature orelse same_room (node_id n) i
  same_refusal s low (requests.Mark id) fits = λ i. where_is (not (is_retired (same_found base a b x id i))) (refusals.NodeState (same_found base a b x id i))
  same_refusal s low (requests.Member m) fits = let act = same_act s low m m.act (byte_member m fits) in λ i. same_signed m i orelse act i
