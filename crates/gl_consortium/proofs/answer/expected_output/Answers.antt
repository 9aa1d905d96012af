use Rattle.std.proofs.Common.{List, ℕ, Result, sym, subst}
use Rattle.gl_base.specs.Answers.{Answers}
use Rattle.gl_consortium.specs.declared.fault.SigningFault.{SigningFault}
use Rattle.gl_consortium.proofs.ExpectedOutputLaws.{expected_read, expected_unread}
use Rattle.gl_consortium.proofs.answer.expected_output.Goals as goal

pub returns-in-Ok : goal.returns-in-Ok
returns-in-Ok c state same_key same_leaf =
    subst (λ (r : Result (List ℕ) SigningFault). Answers (λ reported. reported.items) c.expected_for.result r)
    (sym (expected_read c.args.signing.now state c.args.key.now c.args.leaf c.args.text.now c.in-Ok.document c.in-Ok.ensures.exact same_key same_leaf)) c.expected_for.ensures

pub returns-in-Err : goal.returns-in-Err
returns-in-Err c state same_key same_leaf =
    expected_unread c.args.signing.now state c.args.text.now c.in-Err.error c.widen.result c.in-Err.ensures.exact c.widen.ensures
