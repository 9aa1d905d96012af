use Rattle.std.proofs.Common.{Some, Ok, refl, sym, ap, ◌∙◌}
use Rattle.std.proofs.lemmas.Result.{err_from_is_err_and}
use Rattle.gl_base.specs.Bytes.{same_bytes}
use Rattle.gl_base.specs.Code.{whole}
use Rattle.gl_requests.specs.Parsing.{dealing_at}
use Rattle.gl_requests.specs.declared.genesis.Dealing.{Dealing}
use Rattle.gl_gov_rules.specs.Rows.{dealing_key}
use Rattle.gl_gov_rules.specs.declared.row.GovernedRows.{GovernedRows}
use Rattle.gl_gov_rules.specs.GovernedRows.{any_value, with_row}
use Rattle.gl_gov_rows.proofs.Spelled.{unread, refused, adds, and_any}
use Rattle.gl_gov_rows.proofs.RowKinds.{dealing-added}
use Rattle.gl_gov_rows.proofs.read.Gathered.add_dealing.Goals as goal

pub returns-in_err-dealing : goal.returns-in_err-dealing
returns-in_err-dealing c =
    let g = c.args.self.now in
    let p = err_from_is_err_and c.from_residual.result c.from_residual.ensures.1 in
    rw (p.1, p.2)
    (unread (λ x. x) c.args.index (whole dealing_at c.as_slice.result.now) c.spelled.result (same_bytes c.args.row.now.key dealing_key) (any_value) (λ (x : Dealing). record g { dealing = Some x }) (with_row g c.args.row.now) c.in_err-dealing.field-0.0
    (record { read = c.read_dealing_value.result; answers = c.read_dealing_value.ensures; is = c.spelled.ensures })
    (dealing-added g c.args.row.now c.args.row.now.key c.as_slice.result.now c.requires refl c.as_slice.ensures.value) c.in_err-dealing.was)

pub returns-in_err-required : goal.returns-in_err-required
returns-in_err-required c =
    let g = c.args.self.now in
    let p = err_from_is_err_and c.from_residual-in_err-required.result c.from_residual-in_err-required.ensures.1 in
    rw (p.1, p.2)
    (refused (λ x. x) c.args.index (whole dealing_at c.as_slice.result.now) c.spelled.result (same_bytes c.as_slice-2.result.now dealing_key) (any_value) (λ (x : Dealing). record g { dealing = Some x }) (with_row g c.args.row.now) c.in_ok-dealing.dealing c.in_err-required.field-0.0 c.same_bytes.result
    (record { read = c.read_dealing_value.result; answers = c.read_dealing_value.ensures; is = c.spelled.ensures })
    (dealing-added g c.args.row.now c.as_slice-2.result.now c.as_slice.result.now c.requires c.as_slice-2.ensures.value c.as_slice.ensures.value)
    c.in_ok-dealing.was (c.same_bytes.ensures.value ∙ and_any _) (sym c.required.ensures ∙ c.in_err-required.was))

pub returns : goal.returns
returns c =
    let g = c.args.self.now in
    let x = c.in_ok-dealing.dealing in
    (adds (λ x. x) c.args.index (whole dealing_at c.as_slice.result.now) c.spelled.result (same_bytes c.as_slice-2.result.now dealing_key) (any_value) (λ (x : Dealing). record g { dealing = Some x }) (with_row g c.args.row.now) x c.same_bytes.result
    (record { read = c.read_dealing_value.result; answers = c.read_dealing_value.ensures; is = c.spelled.ensures })
    (dealing-added g c.args.row.now c.as_slice-2.result.now c.as_slice.result.now c.requires c.as_slice-2.ensures.value c.as_slice.ensures.value)
    c.in_ok-dealing.was (c.same_bytes.ensures.value ∙ and_any _) (sym c.required.ensures ∙ c.in_ok-required.was)
    ∙ ap (λ (g : GovernedRows). Ok (record g { dealing = Some x })) (sym c.self.view_is))
