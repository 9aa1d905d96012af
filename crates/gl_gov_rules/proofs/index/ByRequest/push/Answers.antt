use Rattle.std.proofs.Common.{List, [], ◌∷◌, ◌++◌, ◌≤◌, ◌≡◌, ◌∙◌, ap, arith}
use Rattle.std.specs.List.{filter_map}
use Rattle.std.specs.Option.{option_to_list}
use Rattle.std.specs.Vec.{with_items}
use Rattle.std.proofs.lemmas.List.{with_items_is}
use Rattle.gl_index.specs.Lists.{lists_of, list_at}
use Rattle.gl_gov_rules.specs.declared.change.Proposal.{Proposal}
use Rattle.gl_gov_rules.specs.declared.change.Recorded.{Recorded}
use Rattle.gl_gov_rules.specs.declared.request_facts.GivenShare.{GivenShare}
use Rattle.gl_gov_rules.specs.declared.request_facts.Mark.{Mark}
use Rattle.gl_gov_rules.specs.Members.{leaf_after}
use Rattle.gl_gov_rules.specs.Nodes.{nodes_recorded}
use Rattle.gl_gov_rules.specs.Proposals.{proposal_in, ballot_carried, ballot_on}
use Rattle.gl_gov_rules.specs.RequestFacts.{mark_in, signed_by}
use Rattle.gl_gov_rules.specs.Service.{given_in}
use Rattle.gl_gov_rules.proofs.Counting.{each_append}
use Rattle.gl_gov_rules.proofs.ByRequests.{one_more, one_more_after, one_more_flat_after}
use Rattle.gl_gov_rules.proofs.index.ByRequest.push.Goals as goal

pub returns : goal.returns
returns c = λ k rs before.
    let r = c.args.recorded.now in
    let old = c.args.self.now in
    let same : (with_items c.args.self.now.signed c.push_signer.new.signed).items ≡ c.push_signer.new.signed = with_items_is c.args.self.now.signed c.push_signer.new.signed (omega (arith, c.push_signer.auto.signed, c.args.self.now.signed.ok.0)) in
    record {
      nodes = one_more_flat_after k.nodes (λ (x : Recorded). nodes_recorded x.seqno x.request) rs r _ _ before.nodes
          (c.append_reserved.ensures ∙ ap (λ us. old.nodes.items ++ us) c.requires.reported.nodes);
      marks = one_more_after k.marks (λ (x : Recorded). mark_in x.seqno x.request) rs r _ _ before.marks
          (◌∙◌ {A = List Mark} c.push_some_reserved.ensures (ap (λ o. old.marks.items ++ option_to_list o) c.mark_in.ensures));
      shares = one_more_after k.shares (λ (x : Recorded). given_in x.seqno x.request) rs r _ _ before.shares
          (◌∙◌ {A = List GivenShare} c.push_some_reserved-2.ensures (ap (λ o. old.shares.items ++ option_to_list o) c.given_in.ensures));
      proposals = one_more_after k.proposals (λ (x : Recorded). proposal_in x.seqno x.request) rs r _ _ before.proposals
          (◌∙◌ {A = List Proposal} c.push_some_reserved-3.ensures (ap (λ o. old.proposals.items ++ option_to_list o) c.requires.reported.proposal));
      signed = λ n. ap (λ vs. list_at (lists_of vs) n) same
          ∙ one_more (λ (x : Recorded). signed_by n x.seqno x.request) rs r _ _ (before.signed n) (rw c.deref_mut.ensures.value at (c.push_signer.ensures.more n));
      ballots = λ id. one_more_after (filter_map (ballot_carried id) k.ballots) (ballot_on id) rs r _ _ (before.ballots id) (c.push_answer.ensures.more id);
      known = rw (c.push_answer.ensures.known, c.push_answer.ensures.ids) before.known;
      leaves = each_append (λ (x : Recorded). leaf_after x.request ≤ 1024) rs (r ∷ []) before.leaves (c.push_signer.ensures.range, tt);
    }
