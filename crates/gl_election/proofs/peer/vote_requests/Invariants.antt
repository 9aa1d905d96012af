use Rattle.std.proofs.Common.{◌≡◌, map, take}
use Rattle.gl_election.specs.Elections.{vote_request}
use Rattle.gl_election.proofs.peer.vote_requests.Given as goal

-- the requests so far
abbrev pub invariant-loop-to : goal.invariant-loop-to
invariant-loop-to l = l.sent.items ≡ map (vote_request l.fn.me l.fn.view l.fn.last) (take l.to-index l.fn.others)
