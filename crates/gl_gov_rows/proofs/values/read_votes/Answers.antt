use Rattle.std.proofs.lemmas.Result.{err_from_is_err_and}
use Rattle.gl_gov_rules.specs.GovernedRows.{votes_at}
use Rattle.gl_gov_rows.proofs.Ballots.{goes_on, ends, is_done}
use Rattle.gl_gov_rows.proofs.values.read_votes.Goals as goal

pub returns-in_err-vote : goal.returns-in_err-vote
returns-in_err-vote c =
    let p = err_from_is_err_and c.from_residual.result c.from_residual.ensures.1 in
    rw (p.1, p.2) (ends c.in_err-vote.field-0.0 c.loop.votes.items c.args.count c.loop.counter c.loop.last c.loop.cut (votes_at c.args.count 0 c.args.cut.now) c.loop-test.true c.in_err-vote.ensures c.loop.invariant)

pub loop-preserved : goal.loop-preserved
loop-preserved c =
    rw c.in_ok-push.ensures.items (goes_on c.loop.votes.items c.args.count c.loop.counter c.loop.last c.loop.cut c.read_vote.new.cut c.in_ok-vote.vote (votes_at c.args.count 0 c.args.cut.now) c.loop-test.true c.in_ok-vote.ensures c.loop.invariant)

pub returns : goal.returns
returns c = rw c.from.ensures (is_done c.loop.votes.items c.args.count c.loop.counter c.loop.last c.loop.cut (votes_at c.args.count 0 c.args.cut.now) c.loop-test.false c.loop.invariant)
