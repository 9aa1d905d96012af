use Rattle.std.proofs.Common.{◌≡◌, Ok, Err, sym, ap, ◌∙◌}
use Rattle.gl_forms.specs.Settings.{recovery_in}
use Rattle.gl_forms.specs.Text.{from_text}
use Rattle.gl_recovery.proofs.Recovered.{form_refused, no_settings, read_on, reported_on, same_error}
use Rattle.gl_recovery.proofs.recovery.start_from_source.Goals as goal

pub returns-in_err-text-clause-refused : goal.returns-in_err-text-clause-refused
returns-in_err-text-clause-refused g c fault is inside =
    let met = same_error c.from_residual.result c.in_err-text.field-0.0 fault c.from_residual.ensures.0 c.from_residual.ensures.1 is in
    no_settings c.args.key.now c.args.leaf (g.S.Source.left c.args.source.now) fault (c.in_err-text.ensures.refused fault (ap Err met) inside)

pub returns-in-Ok-clause-reported : goal.returns-in-Ok-clause-reported
returns-in-Ok-clause-reported g c =
    let read : from_text recovery_in c.in_ok-text.text.items ≡ Ok c.in-Ok.recovery = ap (from_text recovery_in) (sym c.deref.ensures.value) ∙ c.in-Ok.ensures.exact in
    reported_on c.args.key.now c.args.leaf (g.S.Source.left c.args.source.now) _ c.in_ok-text.text.items c.in-Ok.recovery c.start_with_key.result c.in_ok-text.ensures.read read c.start_with_key.ensures.reported

pub returns-in-Ok-clause-refused : goal.returns-in-Ok-clause-refused
returns-in-Ok-clause-refused g c fault is inside =
    let read : from_text recovery_in c.in_ok-text.text.items ≡ Ok c.in-Ok.recovery = ap (from_text recovery_in) (sym c.deref.ensures.value) ∙ c.in-Ok.ensures.exact in
    read_on c.args.key.now c.args.leaf (g.S.Source.left c.args.source.now) _ c.in_ok-text.text.items c.in-Ok.recovery (Err fault) c.in_ok-text.ensures.read read (c.start_with_key.ensures.refused fault is inside)

pub returns-clause-refused : goal.returns-clause-refused
returns-clause-refused g c fault is inside =
    form_refused c.args.key.now c.args.leaf (g.S.Source.left c.args.source.now) _ c.in_ok-text.text.items c.deref.result.now c.in-Err.error c.widen.result fault c.in_ok-text.ensures.read c.deref.ensures.value c.in-Err.ensures.exact c.widen.ensures (cc)
