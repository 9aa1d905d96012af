use Rattle.std.proofs.Common.{arith}
use Rattle.gl_gov_rules.specs.Proposals.{answers_of}
use Rattle.gl_gov_rules.specs.Rows.{vote_of, votes}
use Rattle.gl_gov.proofs.Numbers.{found_more, found_all}
use Rattle.gl_gov.proofs.rows.votes.Goals as goal

pub loop-i-preserved : goal.loop-i-preserved
loop-i-preserved c = record {
  found = found_more (vote_of (answers_of c.args.past.now) c.args.id.now) c.loop-i.i _ _ _ c.loop-i.invariant.found (c.vote_of.ensures c.args.past.now c.args.id.now c.ballots-ballots.ensures) c.in_ok-push_vote.ensures.votes;
  few = omega (arith, c.loop-i.invariant.few, c.in_ok-push_vote.ensures.size);
}

pub returns-clause-votes : goal.returns-clause-votes
unfolding votes
returns-clause-votes c = found_all (vote_of (answers_of c.args.past.now) c.args.id.now) c.loop-i.i _ (omega (arith, c.loop-i-test.false, c.loop-i.auto.i-end)) c.loop-i.invariant.found
