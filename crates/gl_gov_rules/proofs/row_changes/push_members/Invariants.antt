use Rattle.std.proofs.Common.{◌≡◌, ◌++◌, drop, map}
use Rattle.gl_gov_rules.specs.declared.row.MemberRow.{MemberRow}
use Rattle.gl_gov_rules.specs.Changes.{set_member}
use Rattle.gl_gov_rules.specs.GovernedRows.{member_of_row}
use Rattle.gl_gov_rules.proofs.row_changes.push_members.Given as goal

abbrev pub invariant-loop-row : goal.invariant-loop-row
invariant-loop-row l =
    l.changes.items ++ map (λ (m : MemberRow). set_member (member_of_row m)) (drop l.row-index l.rows)
    ≡ l.fn.changes.items ++ map (λ (m : MemberRow). set_member (member_of_row m)) l.rows
