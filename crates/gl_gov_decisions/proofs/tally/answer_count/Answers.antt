use Rattle.gl_gov_decisions.proofs.Voting.{votes_counted}
use Rattle.std.proofs.Common.{◌∙◌, ◌&&◌, ◌||◌, List, ap}
use Rattle.std.specs.List.{count_by, list_any}
use Rattle.gl_requests.specs.declared.genesis.NewMember.{NewMember}
use Rattle.gl_gov_rules.specs.declared.change.Ballot.{Ballot}
use Rattle.gl_gov_rules.specs.Members.{is_active, members}
use Rattle.gl_gov_rules.specs.Proposals.{is_ballot, is_vote}
use Rattle.gl_gov_decisions.proofs.tally.answer_count.Goals as goal

pub returns : goal.returns
returns c =
    c.vote_count.ensures
    ∙ ap (λ (bs : List Ballot). count_by (λ (m : NewMember). is_active c.args.past.now m.number && (list_any (is_vote m.number c.args.agrees) bs
    || is_ballot c.args.id.now m.number c.args.agrees c.args.last.now.request)) (members c.args.past.now)) c.requires
    ∙ votes_counted c.args.past.now c.args.last.now c.args.id.now c.args.agrees
