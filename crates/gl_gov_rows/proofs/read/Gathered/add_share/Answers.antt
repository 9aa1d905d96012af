use Rattle.std.proofs.Common.{ℕ, ◌∷◌, ◌++◌, [], List, Ok, refl, sym, ap, ◌∙◌}
use Rattle.std.proofs.lemmas.Result.{err_from_is_err_and}
use Rattle.gl_base.specs.Code.{whole}
use Rattle.gl_requests.specs.Parsing.{digest_at}
use Rattle.gl_gov_rules.specs.declared.row.GovernedRows.{GovernedRows}
use Rattle.gl_gov_rules.specs.GovernedRows.{any_value, first_byte, is_one_byte, with_row}
use Rattle.gl_gov_rows.proofs.Spelled.{unread, refused, adds, and_any}
use Rattle.gl_gov_rows.proofs.RowKinds.{share-added}
use Rattle.gl_gov_rows.proofs.read.Gathered.add_share.Goals as goal

pub returns-in_err-value : goal.returns-in_err-value
returns-in_err-value c =
    let g = c.args.self.now in
    let p = err_from_is_err_and c.from_residual.result c.from_residual.ensures.1 in
    rw (p.1, p.2)
    (unread (λ x. x) c.args.index (whole digest_at c.as_slice.result.now) c.spelled.result (is_one_byte c.as_slice-key.result.now) (any_value) (λ (x : List ℕ). record g { shares = g.shares ++ record { member = first_byte c.as_slice-key.result.now; value = x } ∷ [] }) (with_row g c.args.row.now) c.in_err-value.field-0.0
    (record { read = c.read_share.result; answers = c.read_share.ensures; is = c.spelled.ensures })
    (share-added g c.args.row.now c.as_slice-key.result.now c.as_slice.result.now (first_byte c.as_slice-key.result.now) c.requires c.as_slice-key.ensures.value c.as_slice.ensures.value refl) c.in_err-value.was)

pub returns-in_err-required : goal.returns-in_err-required
returns-in_err-required c =
    let g = c.args.self.now in
    let p = err_from_is_err_and c.from_residual-in_err-required.result c.from_residual-in_err-required.ensures.1 in
    rw (p.1, p.2)
    (refused (λ x. x) c.args.index (whole digest_at c.as_slice.result.now) c.spelled.result (is_one_byte c.as_slice-key.result.now) (any_value) (λ (x : List ℕ). record g { shares = g.shares ++ record { member = first_byte c.as_slice-key.result.now; value = x } ∷ [] }) (with_row g c.args.row.now) c.in_ok-value.value c.in_err-required.field-0.0 c.is_one_byte.result
    (record { read = c.read_share.result; answers = c.read_share.ensures; is = c.spelled.ensures })
    (share-added g c.args.row.now c.as_slice-key.result.now c.as_slice.result.now (first_byte c.as_slice-key.result.now) c.requires c.as_slice-key.ensures.value c.as_slice.ensures.value refl)
    c.in_ok-value.was (c.is_one_byte.ensures ∙ and_any _) (sym c.required.ensures ∙ c.in_err-required.was))

pub returns : goal.returns
returns c =
    let g = c.args.self.now in
    let x = c.in_ok-value.value in
    rw c.in_ok-push.ensures.items
    (adds (λ x. x) c.args.index (whole digest_at c.as_slice.result.now) c.spelled.result (is_one_byte c.as_slice-key.result.now) (any_value) (λ (x : List ℕ). record g { shares = g.shares ++ record { member = c.first_byte.result; value = x } ∷ [] }) (with_row g c.args.row.now) x c.is_one_byte.result
    (record { read = c.read_share.result; answers = c.read_share.ensures; is = c.spelled.ensures })
    (share-added g c.args.row.now c.as_slice-key.result.now c.as_slice.result.now c.first_byte.result c.requires c.as_slice-key.ensures.value c.as_slice.ensures.value c.first_byte.ensures)
    c.in_ok-value.was (c.is_one_byte.ensures ∙ and_any _) (sym c.required.ensures ∙ c.in_ok-required.was)
    ∙ ap (λ (g : GovernedRows). Ok (record g { shares = g.shares ++ record { member = c.first_byte.result; value = x } ∷ [] })) (sym c.self.view_is))
