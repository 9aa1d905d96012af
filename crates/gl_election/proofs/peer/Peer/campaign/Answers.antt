use Rattle.gl_config.specs.Active.{sets_of}
use Rattle.gl_election.proofs.Campaigning.{campaign_by}
use Rattle.gl_election.proofs.peer.Peer.campaign.Goals as goal

pub returns-clause-ok : goal.returns-clause-ok
returns-clause-ok c =
    campaign_by c.args.me c.args.last (sets_of c.args.active.now) c.args.others.now c.args.view _ _ _ _ _ c.in_ok-sent.ensures c.in_ok-votes.ensures c.quorum-won.ensures c.role_by.ensures c.campaign_outcome.ensures
