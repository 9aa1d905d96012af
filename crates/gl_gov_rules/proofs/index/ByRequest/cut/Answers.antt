use Rattle.std.proofs.Common.{◌≡◌, ◌≤◌, nat_le, List, [], filter, subst, ◌∙◌, ap, arith}
use Rattle.std.specs.List.{filter_map}
use Rattle.std.specs.Vec.{with_items}
use Rattle.std.specs.List.Sorted.{IsPartitionedBy}
use Rattle.std.specs.declared.vec.Vec.{Vec}
use Rattle.std.specs.declared.alloc.Global.{Global}
use Rattle.std.proofs.lemmas.List.{with_items_is}
use Rattle.gl_index.specs.Lists.{lists_of, list_at}
use Rattle.gl_gov_rules.specs.declared.change.Recorded.{Recorded}
use Rattle.gl_gov_rules.specs.declared.change.RecordedNode.{RecordedNode}
use Rattle.gl_gov_rules.specs.declared.change.Proposal.{Proposal}
use Rattle.gl_gov_rules.specs.declared.change.Ballot.{Ballot}
use Rattle.gl_gov_rules.specs.declared.request_facts.Mark.{Mark}
use Rattle.gl_gov_rules.specs.declared.request_facts.GivenShare.{GivenShare}
use Rattle.gl_gov_rules.specs.declared.request_facts.Signed.{Signed}
use Rattle.gl_gov_rules.specs.Members.{leaf_after}
use Rattle.gl_gov_rules.specs.Nodes.{nodes_recorded}
use Rattle.gl_gov_rules.specs.Proposals.{proposal_in, ballot_carried, ballot_on}
use Rattle.gl_gov_rules.specs.RequestFacts.{mark_in, signed_by}
use Rattle.gl_gov_rules.specs.Service.{given_in}
use Rattle.gl_gov_rules.proofs.ByRequests.{cut_flat, cut_map, each_kept}
use Rattle.gl_gov_rules.proofs.FactsAtSeqno.{nodes_at, mark_at, given_at, proposal_at, signed_at, ballot_at, ballots_low}
use Rattle.gl_gov_rules.proofs.index.ByRequest.cut.Goals as goal

pub returns : goal.returns
returns c = λ k rs low rising before.
    let to = c.args.to in
    let same : (with_items c.args.self.now.signed c.cut_lists.new.lists).items ≡ c.cut_lists.new.lists = with_items_is c.args.self.now.signed c.cut_lists.new.lists (omega (arith, c.cut_lists.auto.lists, c.args.self.now.signed.ok.0)) in
    record {
      nodes = cut_flat (λ (n : RecordedNode). n.seqno) (λ (r : Recorded). nodes_recorded r.seqno r.request) (λ r. nodes_at r.seqno r.request) to k.nodes rs _ _ low.nodes rising before.nodes c.cut_list.ensures;
      marks = cut_map (λ (m : Mark). m.seqno) (λ (r : Recorded). mark_in r.seqno r.request) (λ r. mark_at r.seqno r.request) to k.marks rs _ _ low.marks rising before.marks c.cut_list-2.ensures;
      shares = cut_map (λ (s : GivenShare). s.seqno) (λ (r : Recorded). given_in r.seqno r.request) (λ r. given_at r.seqno r.request) to k.shares rs _ _ low.shares rising before.shares c.cut_list-3.ensures;
      proposals = cut_map (λ (p : Proposal). p.seqno) (λ (r : Recorded). proposal_in r.seqno r.request) (λ r. proposal_at r.seqno r.request) to k.proposals rs _ _ low.proposals rising before.proposals c.cut_list-4.ensures;
      signed = λ n. ap (λ vs. list_at (lists_of vs) n) same
          ∙ cut_map (λ (s : Signed). s.seqno) (λ (r : Recorded). signed_by n r.seqno r.request) (λ r. signed_at n r.seqno r.request) to [] rs _ _ tt rising (before.signed n)
          (subst (λ (us : List (Vec Signed Global)). IsPartitionedBy (λ (x : Signed). nat_le x.seqno to) (list_at (lists_of us) n) →
          list_at (lists_of c.cut_lists.new.lists) n ≡ filter (λ (x : Signed). nat_le x.seqno to) (list_at (lists_of us) n)) c.deref_mut.ensures.value (c.cut_lists.ensures n));
      ballots = λ id. cut_map (λ (b : Ballot). b.seqno) (ballot_on id) (λ r. ballot_at id r.seqno r.request) to (filter_map (ballot_carried id) k.ballots) rs _ _ (ballots_low id to k.ballots) rising (before.ballots id) (c.cut.ensures.cut id);
      known = rw (c.cut.ensures.known, c.cut.ensures.ids) before.known;
      leaves = each_kept (λ (r : Recorded). leaf_after r.request ≤ 1024) (λ (r : Recorded). nat_le r.seqno to) rs before.leaves;
    }
