use Rattle.std.proofs.Common.{◌≡◌, ◌++◌, ◌+◌, ◌*◌, drop, length}
use Rattle.std.specs.List.{flat_map}
use Rattle.gl_gov_rules.specs.Rows.{vote_bytes}
use Rattle.gl_gov.proofs.rows.put_votes.Given as goal

abbrev pub invariant-loop-vote : goal.invariant-loop-vote
invariant-loop-vote l = record {
  bytes : l.out.items ++ flat_map vote_bytes (drop l.vote-index l.ballots) ≡ l.fn.out.items ++ flat_map vote_bytes l.ballots;
  size : length l.out.items ≡ length l.fn.out.items + 2 * l.vote-index;
}
