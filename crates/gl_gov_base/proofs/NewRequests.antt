-- What a request records that isn't refused is new.
use Rattle.std.proofs.Common.{◌≡◌, ℕ, ◌<◌, List, [], ◌∷◌, map, Option, Some, None, is_some, Bool, true, false, not, refl, sym, subst}
use Rattle.std.specs.List.{list_any, AllByRecursion}
use Rattle.std.proofs.lemmas.Bool.{or_parts}
use Rattle.gl_requests.specs.Ranges.{is_request}
use Rattle.gl_requests.specs.Encoding.{node_id, proposal_id}
use Rattle.gl_requests.specs.declared.genesis.NewNode.{NewNode}
use Rattle.gl_requests.specs.declared.request.MemberAct.{MemberAct}
use Rattle.gl_requests.specs.declared.request.MemberAct.TheVariants as acts
use Rattle.gl_requests.specs.declared.request.MemberRequest.{MemberRequest}
use Rattle.gl_requests.specs.declared.request.GovernanceRequest.{GovernanceRequest}
use Rattle.gl_requests.specs.declared.request.GovernanceRequest.TheVariants as requests
use Rattle.gl_gov_rules.specs.declared.change.Recorded.{Recorded}
use Rattle.gl_gov_rules.specs.declared.change.RecordedNode.{RecordedNode}
use Rattle.gl_gov_rules.specs.declared.change.Proposal.{Proposal}
use Rattle.gl_gov_rules.specs.History.{History}
use Rattle.gl_gov_rules.specs.Nodes.{nodes_recorded, recorded_node, node}
use Rattle.gl_gov_rules.specs.Proposals.{proposal_in, proposal_in_act, proposal}
use Rattle.gl_gov_rules.specs.Actions.{◌orelse◌, where_is}
use Rattle.gl_gov_rules.specs.Refusals.{are_ids_distinct, is_any_recorded, members_refusal, nodes_refusal, genesis_refusal, recovery_refusal, status_found, recorded_refusal, room_refusal, join_refusal, signed_refusal, propose_refusal, act_refusal, refusal}
use Rattle.gl_gov_base.specs.Alike.{IsNew}

pub first_none : {R : Type 0} (o p : Option R) → o orelse p ≡ None → o ≡ None
first_none None p e = refl
first_none (Some x) p e = absurd cc

pub second_none : {R : Type 0} (o p : Option R) → o orelse p ≡ None → p ≡ None
second_none None p e = e
second_none (Some x) p e = absurd cc

pub isnt : {R : Type 0} (bad : Bool) (r : R) → where_is bad r ≡ None → bad ≡ false
isnt true r e = absurd cc
isnt false r e = refl

none_of : {A : Type 0} (o : Option A) → is_some o ≡ false → o ≡ None
none_of None e = refl
none_of (Some x) e = absurd cc

-- a proposal that isn't refused has the request's seqno, and wasn't made before
fresh_act : (h : History) (s : ℕ) (m : MemberRequest) (act : MemberAct) (p : Proposal) → act_refusal h s m act ≡ None → proposal_in_act s m act ≡ Some p → (p.seqno ≡ s) × (proposal h p.id ≡ None)
unfolding act_refusal propose_refusal
fresh_act h s m acts.Ack p e is = absurd cc
fresh_act h s m (acts.Ballot id agrees) p e is = absurd cc
fresh_act h s m (acts.Withdraw id) p e is = absurd cc
fresh_act h s m (acts.Share share) p e is = absurd cc
fresh_act h s m (acts.Propose list) p e is =
    let q : Proposal = record { id = proposal_id m; seqno = s; proposer = m.member; actions = list } in
    let same : q ≡ p = cc in
    let fresh : (q.seqno ≡ s) × (proposal h q.id ≡ None) = (refl, none_of (proposal h (proposal_id m)) (isnt _ _ (second_none _ _ e))) in
    subst (λ (p : Proposal). (p.seqno ≡ s) × (proposal h p.id ≡ None)) same fresh

pub fresh_proposal : (h : History) (s : ℕ) (g : GovernanceRequest) (p : Proposal) → refusal h s g ≡ None → proposal_in s g ≡ Some p → (p.seqno ≡ s) × (proposal h p.id ≡ None)
unfolding refusal
fresh_proposal h s (requests.Genesis g) p e is = absurd cc
fresh_proposal h s (requests.Recover r) p e is = absurd cc
fresh_proposal h s (requests.Join n) p e is = absurd cc
fresh_proposal h s (requests.Mark id) p e is = absurd cc
fresh_proposal h s (requests.Member m) p e is = fresh_act h s m m.act p (second_none (signed_refusal h m) (act_refusal h s m m.act) e) is

module _ (base : ℕ) (h : History) (s : ℕ) (low : base < s) where
  abbrev AreNew : List RecordedNode → Type 0
  AreNew ns = AllByRecursion (λ (n : RecordedNode). (base < n.seqno) × (node h n.id ≡ None)) ns

  each_new : (founding : Bool) (ns : List NewNode) → list_any (λ (n : NewNode). is_some (node h (node_id n))) ns ≡ false → AreNew (map (recorded_node s founding) ns)
  each_new founding [] e = tt
  each_new founding (n ∷ ns) e =
      let both = or_parts (is_some (node h (node_id n))) (list_any (λ (n : NewNode). is_some (node h (node_id n))) ns) e in
      ((low, none_of (node h (node_id n)) both.0), each_new founding ns both.1)

  nodes_new : (ns : List NewNode) → nodes_refusal h ns ≡ None → AreNew (map (recorded_node s true) ns)
  unfolding nodes_refusal is_any_recorded
  nodes_new ns e =
      each_new true ns (or_parts (not (are_ids_distinct ns)) (list_any (λ (n : NewNode). is_some (node h (node_id n))) ns) (isnt _ _ (first_none _ _ (first_none _ _ e)))).1

  unrecorded : (o : Option RecordedNode) → recorded_refusal (status_found h o) ≡ None → o ≡ None
  unrecorded None e = refl
  unrecorded (Some n) e = absurd cc

  new_nodes : (g : GovernanceRequest) → refusal h s g ≡ None → AreNew (nodes_recorded s g)
  unfolding refusal genesis_refusal recovery_refusal join_refusal
  new_nodes (requests.Genesis g) e = nodes_new g.nodes (second_none (members_refusal g) (nodes_refusal h g.nodes) (first_none _ _ e))
  new_nodes (requests.Recover r) e = nodes_new r.nodes (first_none (nodes_refusal h r.nodes) _ e)
  new_nodes (requests.Join n) e = ((low, unrecorded (node h (node_id n)) (first_none _ _ (first_none _ _ (second_none _ (room_refusal h (node_id n)) e)))), tt)
  new_nodes (requests.Mark id) e = tt
  new_nodes (requests.Member m) e = tt

  new_proposal : (g : GovernanceRequest) (p : Proposal) → refusal h s g ≡ None → proposal_in s g ≡ Some p → (base < p.seqno) × (proposal h p.id ≡ None)
  new_proposal g p e is = let fresh = fresh_proposal h s g p e is in (subst (λ k. base < k) (sym fresh.0) low, fresh.1)

-- a request above the base that isn't refused records what is new
pub is_new : (base : ℕ) (h : History) (r : Recorded) → base < r.seqno → is_request r.request ≡ true → refusal h r.seqno r.request ≡ None → IsNew base h r
is_new base h r low fits e = record {
  above = low;
  fits = fits;
  nodes = new_nodes base h r.seqno low r.request e;
  proposal = λ p is. new_proposal base h r.seqno low r.request p e is;
}
