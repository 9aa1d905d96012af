use Rattle.std.proofs.Common.{◌≡◌, ◌-◌}
use Rattle.gl_base.proofs.Repeated.{with_prefix}
use Rattle.gl_gov_rules.specs.GovernedRows.{votes_at}
use Rattle.gl_gov_rows.proofs.values.read_votes.Given as goal

-- what was read and what is still to be read make the whole
abbrev pub invariant-loop : goal.invariant-loop
invariant-loop l = with_prefix l.votes.items (votes_at (l.count - l.counter) l.last l.cut) ≡ votes_at l.count 0 l.fn.cut
