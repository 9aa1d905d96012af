use Rattle.std.proofs.Common.{Ok, sym, ap, ◌∙◌}
use Rattle.std.proofs.lemmas.Result.{err_from_is_err_and}
use Rattle.gl_forms.specs.Actions.{rules_in}
use Rattle.gl_forms.proofs.action.rules_in.Goals as goal

pub returns-in_err-rules_of : goal.returns-in_err-rules_of
unfolding rules_in
returns-in_err-rules_of c =
    let p = err_from_is_err_and c.from_residual-in_err-rules_of.result c.from_residual-in_err-rules_of.ensures.1 in
    rw (p.1, p.2, c.in_ok-object_at.ensures) c.in_err-rules_of.ensures

pub returns : goal.returns
unfolding rules_in
returns c = rw c.in_ok-object_at.ensures (c.in_ok-rules_of.ensures ∙ ap Ok (sym c.from.ensures))
