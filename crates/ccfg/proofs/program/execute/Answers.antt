use Rattle.std.proofs.Common.{Err, ap, ◌∙◌, inr, rules}
use Rattle.ccfg.specs.Commands.{output_of}
use Rattle.ccfg.specs.Run.{disk_run, sink_run, source_run}
use Rattle.ccfg.specs.declared.fault.Fault.TheVariants.{TooMuchJson}
use Rattle.ccfg.proofs.ExpectedOutputLaws.{kept, kept_or_refused, output_runs, spent, spent_or_refused, stop_runs}
use Rattle.ccfg.proofs.program.execute.Goals as goal

pub returns-in-Ok-clause-runs : goal.returns-in-Ok-clause-runs
returns-in-Ok-clause-runs g c =
    let h = c.read_plan-plan.ensures in
    output_runs (record {
      source = source_run g.S.Source.left g.S.Source.ended g.S.Source.faults c.args.source.now c.read_plan-plan.new.source;
      sink = sink_run g.K.Sink.holds g.K.Sink.faults c.args.sink.now c.carry_out.new.sink;
      disk = disk_run g.D.Disk.honest g.D.Disk.bytes g.D.Disk.past g.D.Disk.faults c.args.disk c.read_plan-plan.result.1;
    }) (output_of c.args.task.now) c.carry_out.result c.in-Ok.plan
    (rw c.in-Ok.is at h.output) (rw c.in-Ok.is at h.ended) c.carry_out.ensures

pub returns-in-Ok-clause-kept : goal.returns-in-Ok-clause-kept
returns-in-Ok-clause-kept g c = λ done honest kind types asks.
    kept kind types _ c.in-Ok.plan _ _ _ (rw c.in-Ok.is at (c.read_plan-plan.ensures.kept honest kind types asks)) done c.carry_out.ensures

pub returns-in-Ok-clause-signed : goal.returns-in-Ok-clause-signed
returns-in-Ok-clause-signed g c = λ done honest leaf asks.
    spent leaf _ _ c.in-Ok.plan _ _ (rw c.in-Ok.is at (c.read_plan-plan.ensures.spent honest leaf asks)) done c.carry_out.ensures

pub returns-in-Err-clause-runs : goal.returns-in-Err-clause-runs
returns-in-Err-clause-runs g c =
    let h = c.read_plan-plan.ensures in
    rw c.ending.ensures (stop_runs (record {
      source = source_run g.S.Source.left g.S.Source.ended g.S.Source.faults c.args.source.now c.read_plan-plan.new.source;
      sink = sink_run g.K.Sink.holds g.K.Sink.faults c.args.sink.now c.args.sink.now;
      disk = disk_run g.D.Disk.honest g.D.Disk.bytes g.D.Disk.past g.D.Disk.faults c.args.disk c.read_plan-plan.result.1;
    }) (output_of c.args.task.now) c.in-Err.stop (λ is. h.failed (c.in-Err.is ∙ ap Err is)) (λ is. h.disk_failed (c.in-Err.is ∙ ap Err is)) (search rules) (λ text. search rules))

pub returns-in-Ok-clause-spent : goal.returns-in-Ok-clause-spent
returns-in-Ok-clause-spent g c = λ honest is leaf asks.
    spent_or_refused leaf _ _ c.in-Ok.plan _ _ (rw c.in-Ok.is at (c.read_plan-plan.ensures.spent honest leaf asks)) c.carry_out.ensures is

pub returns-in-Err-clause-spent : goal.returns-in-Err-clause-spent
returns-in-Err-clause-spent g c = λ honest is leaf asks. inr (TooMuchJson, search rules)

pub returns-in-Ok-clause-shown : goal.returns-in-Ok-clause-shown
returns-in-Ok-clause-shown g c = λ honest is kind types asks.
    kept_or_refused kind types _ c.in-Ok.plan _ _ _ (rw c.in-Ok.is at (c.read_plan-plan.ensures.kept honest kind types asks)) c.carry_out.ensures is

pub returns-in-Err-clause-shown : goal.returns-in-Err-clause-shown
returns-in-Err-clause-shown g c = λ honest is kind types asks. inr (TooMuchJson, search rules)
