use Rattle.std.proofs.Common.{◌≡◌, drop, filter, map}
use Rattle.gl_vmaps.specs.Changes.{set_from}
use Rattle.gl_gov_rules.specs.Members.{members}
use Rattle.gl_gov_rules.specs.Rows.{member_row, member_write}
use Rattle.gl_gov.specs.Touched.{is_selected}
use Rattle.gl_gov.proofs.put.put_members.Given as goal

-- what is put and what is left to put make the whole
abbrev pub invariant-loop-member : goal.invariant-loop-member
invariant-loop-member l =
    set_from l.writes (filter (is_selected l.selection) (map member_write (map (member_row l.past) (drop l.member-index (members l.past)))))
    ≡ set_from l.fn.writes (filter (is_selected l.selection) (map member_write (map (member_row l.past) (members l.past))))
