use Rattle.std.proofs.Common.{◌≡◌, ◌≤◌, length, filter_map}
use Rattle.std.specs.List.{range_with_len}
use Rattle.gl_gov_rules.specs.Proposals.{answers_of}
use Rattle.gl_gov_rules.specs.Rows.{vote_of}
use Rattle.gl_gov.proofs.rows.votes.Given as goal

abbrev pub invariant-loop-i : goal.invariant-loop-i
invariant-loop-i l = record {
  found : l.votes.items ≡ filter_map (vote_of (answers_of l.past) l.id) (range_with_len 1 l.i);
  few : length l.votes.items ≤ l.i;
}
