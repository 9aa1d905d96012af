-- What a request tells stands at its seqno.
use Rattle.std.proofs.Common.{ℕ, nat_eq, Bool, true, false, cond, Option, None, Some, option_map, List, [], ◌∷◌, map, refl, arith}
use Rattle.std.specs.List.{filter_map, cons_option}
use Rattle.std.specs.Option.{option_to_list}
use Rattle.gl_base.specs.Bytes.{same_bytes}
use Rattle.gl_shares.specs.declared.share.Share.{Share}
use Rattle.gl_requests.specs.declared.genesis.NewNode.{NewNode}
use Rattle.gl_requests.specs.declared.request.MemberRequest.{MemberRequest}
use Rattle.gl_requests.specs.declared.request.MemberAct.{MemberAct}
use Rattle.gl_requests.specs.declared.request.MemberAct.TheVariants as acts
use Rattle.gl_requests.specs.declared.request.GovernanceRequest.{GovernanceRequest}
use Rattle.gl_requests.specs.declared.request.GovernanceRequest.TheVariants as requests
use Rattle.gl_gov_rules.specs.declared.change.RecordedNode.{RecordedNode}
use Rattle.gl_gov_rules.specs.declared.change.Proposal.{Proposal}
use Rattle.gl_gov_rules.specs.declared.change.Ballot.{Ballot}
use Rattle.gl_gov_rules.specs.declared.request_facts.Mark.{Mark}
use Rattle.gl_gov_rules.specs.declared.request_facts.GivenShare.{GivenShare}
use Rattle.gl_gov_rules.specs.declared.request_facts.Signed.{Signed}
use Rattle.gl_gov_rules.specs.History.{Answered}
use Rattle.gl_gov_rules.specs.Nodes.{recorded_node, nodes_recorded}
use Rattle.gl_gov_rules.specs.Service.{share_in}
use Rattle.gl_gov_rules.specs.Proposals.{proposal_in, proposal_in_act, ballot_carried, ballot_in, ballot_in_act}
use Rattle.gl_gov_rules.specs.RequestFacts.{mark_in, signed_by, signed_in}
use Rattle.gl_gov_rules.specs.Service.{given_in, given_share}
use Rattle.gl_gov_rules.proofs.ByRequests.{StandAt, StandTo}

named_at : (q : ℕ) (b : Bool) (ns : List NewNode) → StandAt (λ (n : RecordedNode). n.seqno) q (map (recorded_node q b) ns)
named_at q b [] = tt
named_at q b (n ∷ ns) = (refl, named_at q b ns)

pub nodes_at : (q : ℕ) (g : GovernanceRequest) → StandAt (λ (n : RecordedNode). n.seqno) q (nodes_recorded q g)
nodes_at q (requests.Genesis g) = named_at q true g.nodes
nodes_at q (requests.Recover r) = named_at q true r.nodes
nodes_at q (requests.Join n) = (refl, tt)
nodes_at q (requests.Mark id) = tt
nodes_at q (requests.Member m) = tt

pub mark_at : (q : ℕ) (g : GovernanceRequest) → StandAt (λ (m : Mark). m.seqno) q (option_to_list (mark_in q g))
mark_at q (requests.Genesis g) = tt
mark_at q (requests.Recover r) = tt
mark_at q (requests.Join n) = tt
mark_at q (requests.Mark id) = (refl, tt)
mark_at q (requests.Member m) = tt

share_at : (q : ℕ) (o : Option Share) → StandAt (λ (s : GivenShare). s.seqno) q (option_to_list (option_map (given_share q) o))
share_at q None = tt
share_at q (Some share) = (refl, tt)

pub given_at : (q : ℕ) (g : GovernanceRequest) → StandAt (λ (s : GivenShare). s.seqno) q (option_to_list (given_in q g))
given_at q g = share_at q (share_in g)

made_at : (q : ℕ) (m : MemberRequest) (a : MemberAct) → StandAt (λ (p : Proposal). p.seqno) q (option_to_list (proposal_in_act q m a))
made_at q m acts.Ack = tt
made_at q m (acts.Propose list) = (refl, tt)
made_at q m (acts.Ballot id agrees) = tt
made_at q m (acts.Withdraw id) = tt
made_at q m (acts.Share share) = tt

pub proposal_at : (q : ℕ) (g : GovernanceRequest) → StandAt (λ (p : Proposal). p.seqno) q (option_to_list (proposal_in q g))
proposal_at q (requests.Genesis g) = tt
proposal_at q (requests.Recover r) = tt
proposal_at q (requests.Join n) = tt
proposal_at q (requests.Mark id) = tt
proposal_at q (requests.Member m) = made_at q m m.act

signed_if : (q : ℕ) (m : MemberRequest) (b : Bool) → StandAt (λ (s : Signed). s.seqno) q (option_to_list (cond b (Some (signed_in q m)) None))
signed_if q m true = (refl, tt)
signed_if q m false = tt

pub signed_at : (n q : ℕ) (g : GovernanceRequest) → StandAt (λ (s : Signed). s.seqno) q (option_to_list (signed_by n q g))
signed_at n q (requests.Genesis g) = tt
signed_at n q (requests.Recover r) = tt
signed_at n q (requests.Join x) = tt
signed_at n q (requests.Mark id) = tt
signed_at n q (requests.Member m) = signed_if q m (nat_eq m.member n)

answer_if : (q member : ℕ) (agrees b : Bool) → StandAt (λ (x : Ballot). x.seqno) q (option_to_list (cond b (Some (record { seqno = q; member = member; agrees = agrees })) None))
answer_if q member agrees true = (refl, tt)
answer_if q member agrees false = tt

answer_at : (id : List ℕ) (q member : ℕ) (a : MemberAct) → StandAt (λ (x : Ballot). x.seqno) q (option_to_list (ballot_in_act id q member a))
answer_at id q member acts.Ack = tt
answer_at id q member (acts.Propose list) = tt
answer_at id q member (acts.Ballot on agrees) = answer_if q member agrees (same_bytes on id)
answer_at id q member (acts.Withdraw on) = tt
answer_at id q member (acts.Share share) = tt

pub ballot_at : (id : List ℕ) (q : ℕ) (g : GovernanceRequest) → StandAt (λ (x : Ballot). x.seqno) q (option_to_list (ballot_in id q g))
ballot_at id q (requests.Genesis g) = tt
ballot_at id q (requests.Recover r) = tt
ballot_at id q (requests.Join x) = tt
ballot_at id q (requests.Mark other) = tt
ballot_at id q (requests.Member m) = answer_at id q m.member m.act

-- ballots that are carried stand at the seqno 0
pub ballots_low : (id : List ℕ) (to : ℕ) (xs : List Answered) → StandTo (λ (x : Ballot). x.seqno) to (filter_map (ballot_carried id) xs)
ballots_low id to [] = tt
ballots_low id to (a ∷ xs) = by (same_bytes a.id id) (ballots_low id to xs)
  where
    by : (b : Bool) → StandTo (λ (x : Ballot). x.seqno) to (filter_map (ballot_carried id) xs) →
        StandTo (λ (x : Ballot). x.seqno) to (cons_option (cond b (Some (record { seqno = 0; member = a.member; agrees = a.agrees })) None) (filter_map (ballot_carried id) xs))
    by true rest = (omega arith, rest)
    by false rest = rest
