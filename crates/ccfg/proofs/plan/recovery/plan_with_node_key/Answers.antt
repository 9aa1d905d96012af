use Rattle.std.proofs.Common.{◌≡◌, Err, ap, rules, ◌∙◌}
use Rattle.gl_keyfile.specs.KeyFile.{disk_of}
use Rattle.gl_recovery.specs.declared.recovering_fault.RecoveringFault.TheVariants.{SourceFailed}
use Rattle.ccfg.specs.KeyFiles.{held}
use Rattle.ccfg.proofs.RecoveringLemmas.{old_ended, old_printed, old_refused, old_untouched}
use Rattle.ccfg.proofs.plan.recovery.plan_with_node_key.Goals as goal

pub returns-in-Ok-clause-output : goal.returns-in-Ok-clause-output
returns-in-Ok-clause-output g c =
    old_printed (held c.args.file) c.in-Ok.reported.items (g.S.Source.left c.args.source.now) (rw c.in-Ok.is at c.recover-reported.ensures.reported)

pub returns-in-Err-Fault-clause-output : goal.returns-in-Err-Fault-clause-output
returns-in-Err-Fault-clause-output g c =
    let fault = c.in-Err-Fault.fault in
    old_refused (held c.args.file) fault (g.S.Source.left c.args.source.now) c.unfounded_plan.result
    (c.recover-reported.ensures.refused fault (c.in-Err-Fault.is ∙ ap Err c.in-Err-Fault.field-0-is)) c.unfounded_plan.ensures.output c.unfounded_plan.ensures.reported

pub returns-in-Err-Fault-clause-refused : goal.returns-in-Err-Fault-clause-refused
returns-in-Err-Fault-clause-refused g c =
    let fault = c.in-Err-Fault.fault in
    old_untouched fault c.unfounded_plan.result (disk_of c.args.file) c.recover-reported.result.1
    (c.recover-reported.ensures.untouched fault (c.in-Err-Fault.is ∙ ap Err c.in-Err-Fault.field-0-is)) c.unfounded_plan.ensures.reported

pub returns-in-Err-Fault-clause-ended : goal.returns-in-Err-Fault-clause-ended
returns-in-Err-Fault-clause-ended g c =
    let fault = c.in-Err-Fault.fault in
    old_ended fault c.unfounded_plan.result _
    (c.recover-reported.ensures.read fault (c.in-Err-Fault.is ∙ ap Err c.in-Err-Fault.field-0-is)) c.unfounded_plan.ensures.read

pub returns-in-Err-Fault-clause-quiet : goal.returns-in-Err-Fault-clause-quiet
returns-in-Err-Fault-clause-quiet g c other =
    c.recover-reported.ensures.quiet (λ is. let same : c.in-Err-Fault.fault ≡ SourceFailed = search (rules, is) in other (c.unfounded_plan.ensures.source same))
