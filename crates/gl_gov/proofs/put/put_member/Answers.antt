use Rattle.std.proofs.Common.{sym, ◌∙◌, ap}
use Rattle.gl_gov_rules.specs.declared.row.MemberRow.{MemberRow}
use Rattle.gl_gov_rules.specs.Rows.{member_row, member_write}
use Rattle.gl_gov.proofs.Selected.{selected_member, none_put, one_put}
use Rattle.gl_gov.proofs.put.put_member.Goals as goal

pub returns-then-not-has_member : goal.returns-then-not-has_member
returns-then-not-has_member c =
    none_put c.args.selection.now c.args.writes.now (member_write (member_row c.args.past.now c.args.member.now))
    (selected_member c.args.selection.now c.args.past.now c.args.member.now ∙ sym c.has_member.ensures ∙ c.if-not-has_member.true)

pub returns : goal.returns
returns c =
    one_put c.args.selection.now c.args.writes.now _ _ (member_write (member_row c.args.past.now c.args.member.now))
    c.in_ok-put.ensures.ok (c.in_ok-member_write.ensures ∙ ap (λ (row : MemberRow). member_write row) c.member_row-row.ensures)
    (selected_member c.args.selection.now c.args.past.now c.args.member.now ∙ sym c.has_member.ensures ∙ c.if-not-has_member.false)
