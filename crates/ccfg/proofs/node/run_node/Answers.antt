use Rattle.std.proofs.Common.{refl, rules, ap}
use Rattle.gl_store_book.specs.NodeFile.{opened}
use Rattle.ccfg.proofs.Beginnings.{not_foreign}
use Rattle.ccfg.proofs.NodeMoments.{later_moments, unserved_moments}
use Rattle.ccfg.specs.Run.{disk_run, link_run, sink_run, source_run}
use Rattle.ccfg.proofs.NodeRuns.{keeps_same, serves_so, stops_so}
use Rattle.ccfg.proofs.NodeStarts.{serves_ledger}
use Rattle.ccfg.proofs.node.run_node.Goals as goal

pub returns-in-Ok-clause-runs : goal.returns-in-Ok-clause-runs
returns-in-Ok-clause-runs g c =
    let h = c.serve_replica-end.ensures in
    let printed = c.print_end.ensures in
    serves_so c.args.task.now (record {
      source = source_run g.S.Source.left g.S.Source.ended g.S.Source.faults c.args.source.now c.open.new.source;
      sink = sink_run g.K.Sink.holds g.K.Sink.faults c.args.sink.now c.print_end.new.sink;
      disk = disk_run g.D.Disk.honest g.D.Disk.bytes g.D.Disk.past g.D.Disk.faults c.args.disk c.serve_replica-end.result.1;
    }) (link_run g.L.Link.honest g.L.Link.past g.L.Link.inward c.args.link.now c.serve_replica-end.new.link)
    c.serve_replica-end.result.0 c.print_end.result
    (record { settings = _; asked = (c.as_slice.ensures, refl, refl); first = c.in-Ok.replica; begins = c.in-Ok.ensures.begins; last = h.serves.0; course = h.serves.2; disk = h.serves.1 })
    h.ended
    h.turns
    h.failed
    (λ is. rw c.in-Ok.ensures.quiet at (h.disk_failed is))
    printed.counts
    printed.turns
    (λ is. let t = printed.link_failed is in (t.0, keeps_same _ _ (ap g.K.Sink.holds t.1)))
    (λ is. let t = printed.stopped is in (t.0, keeps_same _ _ (ap g.K.Sink.holds t.1)))
    (λ is. let t = printed.memory is in (t.0, keeps_same _ _ (ap g.K.Sink.holds t.1)))

pub returns-in-Err-clause-runs : goal.returns-in-Err-clause-runs
returns-in-Err-clause-runs g c =
    let h = c.in-Err.ensures in
    let printed = c.print_stop.ensures in
    stops_so c.args.task.now (record {
      source = source_run g.S.Source.left g.S.Source.ended g.S.Source.faults c.args.source.now c.open.new.source;
      sink = sink_run g.K.Sink.holds g.K.Sink.faults c.args.sink.now c.print_stop.new.sink;
      disk = disk_run g.D.Disk.honest g.D.Disk.bytes g.D.Disk.past g.D.Disk.faults c.args.disk c.in-Err.disk;
    }) (link_run g.L.Link.honest g.L.Link.past g.L.Link.inward c.args.link.now c.args.link.now)
    c.in-Err.stop c.print_stop.result (record { link_same = refl; any_moment = h.any_moment })
    (λ disk memory honest. h.unbegun honest c.in-Err.stop c.in-Err.disk refl disk memory)
    (λ fault is. h.refused fault c.in-Err.disk (search (rules, is)))
    (λ is. h.source_failed c.in-Err.disk (search (rules, is)))
    (λ is. h.disk_failed c.in-Err.disk (search (rules, is)))
    printed.refused
    (λ is. let t = printed.source_failed is in (t.0, keeps_same _ _ (ap g.K.Sink.holds t.1)))
    (λ is. let t = printed.disk_failed is in (t.0, keeps_same _ _ (ap g.K.Sink.holds t.1)))
    (λ is. let t = printed.memory is in (t.0, keeps_same _ _ (ap g.K.Sink.holds t.1)))

pub returns-in-Ok-clause-any_moment : goal.returns-in-Ok-clause-any_moment
returns-in-Ok-clause-any_moment g c honest gate of =
    let spent = c.in-Ok.ensures.spent honest in
    let keeps = spent.2 in
    let ledger = serves_ledger g.D.Disk.honest g.D.Disk.bytes g.D.Disk.past g.D.Disk.faults c.in-Ok.replica g.D.Disk.honest (g.D.Disk.bytes c.args.disk) (g.S.Source.left c.args.source.now) (g.S.Source.ended c.open.new.source) honest of c.in-Ok.ensures.begins in
    later_moments (g.D.Disk.bytes c.args.disk) _ _ _ spent.0 keeps.1 spent.1 keeps.3 keeps.4
    (unserved_moments (g.D.Disk.bytes c.args.disk) _ _ (c.in-Ok.ensures.any_moment honest gate)) (c.serve_replica-end.ensures.any_moment honest ledger keeps.1 keeps.2)

pub returns-in-Err-clause-any_moment : goal.returns-in-Err-clause-any_moment
returns-in-Err-clause-any_moment g c honest gate of = unserved_moments (g.D.Disk.bytes c.args.disk) _ _ (c.in-Err.ensures.any_moment honest gate)

pub returns-in-Ok-clause-quiet : goal.returns-in-Ok-clause-quiet
returns-in-Ok-clause-quiet g c other = c.in-Ok.ensures.source_quiet (λ back is. cc)

pub returns-in-Err-clause-quiet : goal.returns-in-Err-clause-quiet
returns-in-Err-clause-quiet g c other = c.in-Err.ensures.source_quiet (λ back is. other (c.print_stop.ensures.source_failed (search (rules, is))).0)

pub returns-in-Ok-clause-link_quiet : goal.returns-in-Ok-clause-link_quiet
returns-in-Ok-clause-link_quiet g c other = c.serve_replica-end.ensures.quiet (λ is. other (c.print_end.ensures.link_failed is).0)

pub returns-in-Ok-clause-foreign : goal.returns-in-Ok-clause-foreign
returns-in-Ok-clause-foreign g c honest none =
    let spent = c.in-Ok.ensures.spent honest in
    not_foreign (opened (g.D.Disk.bytes c.args.disk)) spent.0 spent.1 none

pub returns-in-Ok-clause-foreign_bytes : goal.returns-in-Ok-clause-foreign_bytes
returns-in-Ok-clause-foreign_bytes g c honest none other =
    let spent = c.in-Ok.ensures.spent honest in
    not_foreign (opened (g.D.Disk.bytes c.args.disk)) spent.0 spent.1 none

pub returns-in-Err-clause-foreign_bytes : goal.returns-in-Err-clause-foreign_bytes
returns-in-Err-clause-foreign_bytes g c honest none other =
    c.in-Err.ensures.foreign_bytes honest none c.in-Err.stop c.in-Err.disk refl (λ is. other (c.print_stop.ensures.disk_failed is).0)
