use Rattle.std.proofs.Common.{Some, Ok, refl, sym, ap, ◌∙◌}
use Rattle.std.proofs.lemmas.Result.{err_from_is_err_and}
use Rattle.gl_base.specs.Bytes.{same_bytes}
use Rattle.gl_base.specs.Code.{whole}
use Rattle.gl_gov_rules.specs.declared.row.ServiceRow.{ServiceRow}
use Rattle.gl_gov_rules.specs.Rows.{service_key}
use Rattle.gl_gov_rules.specs.declared.row.GovernedRows.{GovernedRows}
use Rattle.gl_gov_rules.specs.GovernedRows.{service_row_at, any_value, with_row}
use Rattle.gl_gov_rows.proofs.Spelled.{unread, refused, adds, and_any}
use Rattle.gl_gov_rows.proofs.RowKinds.{service-added}
use Rattle.gl_gov_rows.proofs.read.Gathered.add_service.Goals as goal

pub returns-in_err-service : goal.returns-in_err-service
returns-in_err-service c =
    let g = c.args.self.now in
    let p = err_from_is_err_and c.from_residual.result c.from_residual.ensures.1 in
    rw (p.1, p.2)
    (unread (λ x. x) c.args.index (whole service_row_at c.as_slice.result.now) c.spelled.result (same_bytes c.args.row.now.key service_key) (any_value) (λ (x : ServiceRow). record g { service = Some x }) (with_row g c.args.row.now) c.in_err-service.field-0.0
    (record { read = c.read_service.result; answers = c.read_service.ensures; is = c.spelled.ensures })
    (service-added g c.args.row.now c.args.row.now.key c.as_slice.result.now c.requires refl c.as_slice.ensures.value) c.in_err-service.was)

pub returns-in_err-required : goal.returns-in_err-required
returns-in_err-required c =
    let g = c.args.self.now in
    let p = err_from_is_err_and c.from_residual-in_err-required.result c.from_residual-in_err-required.ensures.1 in
    rw (p.1, p.2)
    (refused (λ x. x) c.args.index (whole service_row_at c.as_slice.result.now) c.spelled.result (same_bytes c.as_slice-2.result.now service_key) (any_value) (λ (x : ServiceRow). record g { service = Some x }) (with_row g c.args.row.now) c.in_ok-service.service c.in_err-required.field-0.0 c.same_bytes.result
    (record { read = c.read_service.result; answers = c.read_service.ensures; is = c.spelled.ensures })
    (service-added g c.args.row.now c.as_slice-2.result.now c.as_slice.result.now c.requires c.as_slice-2.ensures.value c.as_slice.ensures.value)
    c.in_ok-service.was (c.same_bytes.ensures.value ∙ and_any _) (sym c.required.ensures ∙ c.in_err-required.was))

pub returns : goal.returns
returns c =
    let g = c.args.self.now in
    let x = c.in_ok-service.service in
    (adds (λ x. x) c.args.index (whole service_row_at c.as_slice.result.now) c.spelled.result (same_bytes c.as_slice-2.result.now service_key) (any_value) (λ (x : ServiceRow). record g { service = Some x }) (with_row g c.args.row.now) x c.same_bytes.result
    (record { read = c.read_service.result; answers = c.read_service.ensures; is = c.spelled.ensures })
    (service-added g c.args.row.now c.as_slice-2.result.now c.as_slice.result.now c.requires c.as_slice-2.ensures.value c.as_slice.ensures.value)
    c.in_ok-service.was (c.same_bytes.ensures.value ∙ and_any _) (sym c.required.ensures ∙ c.in_ok-required.was)
    ∙ ap (λ (g : GovernedRows). Ok (record g { service = Some x })) (sym c.self.view_is))
