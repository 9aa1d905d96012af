use Rattle.std.proofs.Common.{◌&&◌, ◌∷◌, ◌++◌, [], Ok, nat_le, refl, sym, ap, ◌∙◌}
use Rattle.std.proofs.lemmas.Result.{err_from_is_err_and}
use Rattle.gl_base.specs.Code.{whole}
use Rattle.gl_requests.specs.Parsing.{rule_at}
use Rattle.gl_requests.specs.declared.action.Rule.{Rule}
use Rattle.gl_gov_rules.specs.declared.row.GovernedRows.{GovernedRows}
use Rattle.gl_gov_rules.specs.GovernedRows.{any_value, first_byte, is_one_byte, with_row}
use Rattle.gl_gov_rows.proofs.Spelled.{unread, refused, adds, and_any}
use Rattle.gl_gov_rows.proofs.RowKinds.{rule-added}
use Rattle.gl_gov_rows.proofs.read.Gathered.add_rule.Goals as goal

pub returns-in_err-rule : goal.returns-in_err-rule
returns-in_err-rule c =
    let g = c.args.self.now in
    let p = err_from_is_err_and c.from_residual.result c.from_residual.ensures.1 in
    rw (p.1, p.2)
    (unread (λ x. x) c.args.index (whole rule_at c.as_slice.result.now) c.spelled.result (is_one_byte c.as_slice-key.result.now && nat_le (first_byte c.as_slice-key.result.now) 7) (any_value) (λ (x : Rule). record g { rules = g.rules ++ record { number = first_byte c.as_slice-key.result.now; rule = x } ∷ [] }) (with_row g c.args.row.now) c.in_err-rule.field-0.0
    (record { read = c.read_rule_value.result; answers = c.read_rule_value.ensures; is = c.spelled.ensures })
    (rule-added g c.args.row.now c.as_slice-key.result.now c.as_slice.result.now (first_byte c.as_slice-key.result.now) c.requires c.as_slice-key.ensures.value c.as_slice.ensures.value refl) c.in_err-rule.was)

pub returns-in_err-required : goal.returns-in_err-required
returns-in_err-required c =
    let g = c.args.self.now in
    let p = err_from_is_err_and c.from_residual-in_err-required.result c.from_residual-in_err-required.ensures.1 in
    rw (p.1, p.2)
    (refused (λ x. x) c.args.index (whole rule_at c.as_slice.result.now) c.spelled.result (is_one_byte c.as_slice-key.result.now && nat_le (first_byte c.as_slice-key.result.now) 7) (any_value) (λ (x : Rule). record g { rules = g.rules ++ record { number = first_byte c.as_slice-key.result.now; rule = x } ∷ [] }) (with_row g c.args.row.now) c.in_ok-rule.rule c.in_err-required.field-0.0 c.is_rule_key.result
    (record { read = c.read_rule_value.result; answers = c.read_rule_value.ensures; is = c.spelled.ensures })
    (rule-added g c.args.row.now c.as_slice-key.result.now c.as_slice.result.now (first_byte c.as_slice-key.result.now) c.requires c.as_slice-key.ensures.value c.as_slice.ensures.value refl)
    c.in_ok-rule.was (c.is_rule_key.ensures ∙ and_any _) (sym c.required.ensures ∙ c.in_err-required.was))

pub returns : goal.returns
returns c =
    let g = c.args.self.now in
    let x = c.in_ok-rule.rule in
    rw c.in_ok-push.ensures.items
    (adds (λ x. x) c.args.index (whole rule_at c.as_slice.result.now) c.spelled.result (is_one_byte c.as_slice-key.result.now && nat_le (first_byte c.as_slice-key.result.now) 7) (any_value) (λ (x : Rule). record g { rules = g.rules ++ record { number = c.first_byte.result; rule = x } ∷ [] }) (with_row g c.args.row.now) x c.is_rule_key.result
    (record { read = c.read_rule_value.result; answers = c.read_rule_value.ensures; is = c.spelled.ensures })
    (rule-added g c.args.row.now c.as_slice-key.result.now c.as_slice.result.now c.first_byte.result c.requires c.as_slice-key.ensures.value c.as_slice.ensures.value c.first_byte.ensures)
    c.in_ok-rule.was (c.is_rule_key.ensures ∙ and_any _) (sym c.required.ensures ∙ c.in_ok-required.was)
    ∙ ap (λ (g : GovernedRows). Ok (record g { rules = g.rules ++ record { number = c.first_byte.result; rule = x } ∷ [] })) (sym c.self.view_is))
