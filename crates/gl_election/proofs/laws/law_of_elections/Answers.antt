use Rattle.gl_election.proofs.Bridging.{timeout_is, request_vote_is, vote_reply_is, propose_vote_is, step_down_is}
use Rattle.gl_election.proofs.laws.law_of_elections.Goals as goal

pub returns-clause-timeout : goal.returns-clause-timeout
returns-clause-timeout g c = λ book x p n. timeout_is book x p n

pub returns-clause-request_vote : goal.returns-clause-request_vote
returns-clause-request_vote g c = λ book x y view theirs p n. request_vote_is book x y view theirs p n

pub returns-clause-vote_reply : goal.returns-clause-vote_reply
returns-clause-vote_reply g c = λ book x y view granted p n. vote_reply_is book x y view granted p n

pub returns-clause-propose_vote : goal.returns-clause-propose_vote
returns-clause-propose_vote g c = λ book x y view p n. propose_vote_is book x y view p n

pub returns-clause-step_down : goal.returns-clause-step_down
returns-clause-step_down g c = λ book x y p n. step_down_is book x y p n
