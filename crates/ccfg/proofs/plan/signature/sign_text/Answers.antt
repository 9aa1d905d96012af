use Rattle.std.proofs.Common.{Ok, Err, ap, ◌∙◌}
use Rattle.ccfg.specs.KeyFiles.{held}
use Rattle.ccfg.proofs.SigningLemmas.{short_text, unsigned_text}
use Rattle.ccfg.proofs.plan.signature.sign_text.Goals as goal

pub returns-in-Ok-clause-output : goal.returns-in-Ok-clause-output
returns-in-Ok-clause-output g c =
    short_text c.args.signing.now (held c.args.file) c.args.text.now (Ok c.in-Ok.reported.items) c.requires.within (rw c.in-Ok.is at c.sign-signed.ensures.reported)

pub returns-in-Err-Fault-clause-output : goal.returns-in-Err-Fault-clause-output
returns-in-Err-Fault-clause-output g c =
    let fault = c.in-Err-Fault.fault in
    unsigned_text c.args.signing.now (held c.args.file) c.args.text.now fault c.unsigned_plan.result c.requires.within
    (c.sign-signed.ensures.refused fault (c.in-Err-Fault.is ∙ ap Err c.in-Err-Fault.field-0-is)) c.unsigned_plan.ensures.output c.unsigned_plan.ensures.reported
