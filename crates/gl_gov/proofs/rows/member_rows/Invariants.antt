use Rattle.std.proofs.Common.{◌≡◌, ◌++◌, drop, map}
use Rattle.gl_gov_rules.specs.Rows.{member_row}
use Rattle.gl_gov.proofs.rows.member_rows.Given as goal

abbrev pub invariant-loop-member : goal.invariant-loop-member
invariant-loop-member l = l.rows.items ++ map (member_row l.past) (drop l.member-index l.members) ≡ map (member_row l.past) l.members
