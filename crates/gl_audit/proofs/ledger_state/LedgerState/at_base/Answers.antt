use Rattle.std.proofs.Common.{rules, ◌≡◌, [], ◌∷◌, refl}
use Rattle.std.specs.Arc.{arc_value}
use Rattle.gl_vmaps.specs.Rows.{row_writes}
use Rattle.gl_vmaps.specs.Standing.{StandsFor}
use Rattle.gl_vmaps.specs.Versions.{placed_at}
use Rattle.gl_audit.proofs.KeptLedgers.{rows_begun, state_begun}
use Rattle.gl_audit.proofs.ledger_state.LedgerState.at_base.Goals as goal

pub of_rows-requires : goal.of_rows-requires
of_rows-requires c = record { read = rows_begun c.args.body (arc_value c.args.governed) c.requires.fits c.requires.some c.requires.read }

pub returns-clause-state : goal.returns-clause-state
returns-clause-state c =
    let body = c.args.body in
    let signed : c.push.new.self.items ≡ body.base ∷ [] = search rules in
    let views : c.into_vec.result.items ≡ body.views = search rules in
    let rows : StandsFor c.in_ok-tables.tables (placed_at 0 (row_writes body.rows)) = search rules in
    let peaks : c.in_ok-at_base.field-0.peaks ≡ body.peaks = search rules in
    state_begun body (arc_value c.args.governed) c.requires.fits c.requires.some c.requires.read _ refl refl refl c.at_base-end.ensures signed views c.in_ok-of_rows.ensures
    (record { state_reported = search rules; identity_reported = search rules }) (search (rules, rows)) (search rules) (search rules) c.in_ok-at_base.ensures.base peaks c.in_ok-at_base.ensures.leaves
