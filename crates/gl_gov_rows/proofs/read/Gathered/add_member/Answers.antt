use Rattle.std.proofs.Common.{◌∷◌, ◌++◌, [], Ok, sym, ap, ◌∙◌}
use Rattle.std.proofs.lemmas.Result.{err_from_is_err_and}
use Rattle.gl_base.specs.Code.{whole}
use Rattle.gl_gov_rules.specs.declared.row.MemberRow.{MemberRow}
use Rattle.gl_gov_rules.specs.declared.row.GovernedRows.{GovernedRows}
use Rattle.gl_gov_rules.specs.GovernedRows.{member_row_at, is_one_byte, has_room, with_row}
use Rattle.gl_gov_rows.proofs.Spelled.{unread, refused, adds}
use Rattle.gl_gov_rows.proofs.RowKinds.{member-added}
use Rattle.gl_gov_rows.proofs.read.Gathered.add_member.Goals as goal

pub returns-in_err-member : goal.returns-in_err-member
returns-in_err-member c =
    let g = c.args.self.now in
    let p = err_from_is_err_and c.from_residual.result c.from_residual.ensures.1 in
    rw (p.1, p.2)
    (unread (λ x. x) c.args.index (whole (member_row_at c.first_byte.result) c.as_slice.result.now) c.spelled.result (is_one_byte c.as_slice-key.result.now) (has_room g) (λ (x : MemberRow). record g { members = g.members ++ x ∷ [] }) (with_row g c.args.row.now) c.in_err-member.field-0.0
    (record { read = c.read_member.result; answers = c.read_member.ensures; is = c.spelled.ensures })
    (member-added g c.args.row.now c.as_slice-key.result.now c.as_slice.result.now c.first_byte.result c.requires c.as_slice-key.ensures.value c.as_slice.ensures.value c.first_byte.ensures) c.in_err-member.was)

pub returns-in_err-required : goal.returns-in_err-required
returns-in_err-required c =
    let g = c.args.self.now in
    let p = err_from_is_err_and c.from_residual-in_err-required.result c.from_residual-in_err-required.ensures.1 in
    rw (p.1, p.2)
    (refused (λ x. x) c.args.index (whole (member_row_at c.first_byte.result) c.as_slice.result.now) c.spelled.result (is_one_byte c.as_slice-key.result.now) (has_room g) (λ (x : MemberRow). record g { members = g.members ++ x ∷ [] }) (with_row g c.args.row.now) c.in_ok-member.member c.in_err-required.field-0.0 c.takes_member.result
    (record { read = c.read_member.result; answers = c.read_member.ensures; is = c.spelled.ensures })
    (member-added g c.args.row.now c.as_slice-key.result.now c.as_slice.result.now c.first_byte.result c.requires c.as_slice-key.ensures.value c.as_slice.ensures.value c.first_byte.ensures)
    c.in_ok-member.was (c.takes_member.ensures) (sym c.required.ensures ∙ c.in_err-required.was))

pub returns : goal.returns
returns c =
    let g = c.args.self.now in
    let x = c.in_ok-member.member in
    rw c.in_ok-push.ensures.items
    (adds (λ x. x) c.args.index (whole (member_row_at c.first_byte.result) c.as_slice.result.now) c.spelled.result (is_one_byte c.as_slice-key.result.now) (has_room g) (λ (x : MemberRow). record g { members = g.members ++ x ∷ [] }) (with_row g c.args.row.now) x c.takes_member.result
    (record { read = c.read_member.result; answers = c.read_member.ensures; is = c.spelled.ensures })
    (member-added g c.args.row.now c.as_slice-key.result.now c.as_slice.result.now c.first_byte.result c.requires c.as_slice-key.ensures.value c.as_slice.ensures.value c.first_byte.ensures)
    c.in_ok-member.was (c.takes_member.ensures) (sym c.required.ensures ∙ c.in_ok-required.was)
    ∙ ap (λ (g : GovernedRows). Ok (record g { members = g.members ++ x ∷ [] })) (sym c.self.view_is))
