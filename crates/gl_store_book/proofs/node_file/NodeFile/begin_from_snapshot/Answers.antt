use Rattle.std.proofs.Common.{◌≡◌, Err, false, refl, sym, ap, subst, ◌∙◌}
use Rattle.std.proofs.lemmas.Result.{IfErr-at_err}
use Rattle.gl_base.specs.declared.or_no_memory.OrNoMemory.{OrNoMemory}
use Rattle.gl_base.specs.declared.or_no_memory.OrNoMemory.TheVariants.{Fault}
use Rattle.gl_outside.specs.Fault.{Rose}
use Rattle.gl_journal.specs.Durable.{Durable}
use Rattle.gl_journal.specs.Kept.{IsAtRest}
use Rattle.gl_journal.proofs.UnwrittenFiles.{at_rest}
use Rattle.gl_store_book.specs.AtOpening.{restarted_node}
use Rattle.gl_store_book.specs.NodeFile.{OpenFile, has_ledger, seen_state}
use Rattle.gl_store_book.specs.Replicas.{StandsForFile}
use Rattle.gl_store_book.specs.declared.node_file.fault.SnapshotOpening.{SnapshotOpening}
use Rattle.gl_store_book.specs.declared.node_file.fault.SnapshotOpening.TheVariants.{DiskFault}
use Rattle.gl_store_book.proofs.FromSnapshots.{IsMadeOf, holds, made_file, not_without}
use Rattle.gl_store_book.proofs.node_file.NodeFile.begin_from_snapshot.Goals as goal

pub invariant_of-file : goal.invariant_of-file
invariant_of-file g c =
    let f = c.self.inside in
    let d = seen_state f.state in
    let made : IsMadeOf c.args.bytes.now c.in-Ok.behind d c.installed.result = record {
      none = ap (λ (o : OpenFile g.row.D.Denot). has_ledger o.state) c.self.view_is ∙ c.requires;
      read = c.in-Ok.ensures.behind;
      state = c.installed.ensures.state;
      stands = c.installed.ensures.stands;
    } in
    made_file c.args.bytes.now c.in-Ok.behind d c.installed.result made g.D.Disk.honest g.D.Disk.bytes g.D.Disk.past f.journal c.keep_snapshot.new.journal f.key f.me c.self.invariant.file c.in-Ok.ensures.open

pub unreachable-requires : goal.unreachable-requires
unreachable-requires g c =
    let f = c.self.inside in
    let d = seen_state f.state in
    let made : IsMadeOf c.args.bytes.now c.in-Ok.behind d c.installed.result = record {
      none = ap (λ (o : OpenFile g.row.D.Denot). has_ledger o.state) c.self.view_is ∙ c.requires;
      read = c.in-Ok.ensures.behind;
      state = c.installed.ensures.state;
      stands = c.installed.ensures.stands;
    } in
    not_without c.args.bytes.now c.in-Ok.behind d c.installed.result made c.in-Err-reopen.ensures.no_snapshot

pub returns-clause-stands : goal.returns-clause-stands
returns-clause-stands g c s verified =
    let f = c.self.inside in
    let d = seen_state f.state in
    let made : IsMadeOf c.args.bytes.now c.in-Ok.behind d c.installed.result = record {
      none = ap (λ (o : OpenFile g.row.D.Denot). has_ledger o.state) c.self.view_is ∙ c.requires;
      read = c.in-Ok.ensures.behind;
      state = c.installed.ensures.state;
      stands = c.installed.ensures.stands;
    } in
    let is = holds c.args.bytes.now c.in-Ok.behind d c.installed.result made c.args.self.state s (ap (λ (o : OpenFile g.row.D.Denot). o.state) c.self.view_is) verified in
    subst (λ (x : Durable). StandsForFile x c.in-Ok-reopen.replica.core (λ b below. restarted_node b below x)) is c.in-Ok-reopen.ensures.stands

pub returns-clause-snapshot : goal.returns-clause-snapshot
returns-clause-snapshot g c s verified =
    let f = c.self.inside in
    let d = seen_state f.state in
    let made : IsMadeOf c.args.bytes.now c.in-Ok.behind d c.installed.result = record {
      none = ap (λ (o : OpenFile g.row.D.Denot). has_ledger o.state) c.self.view_is ∙ c.requires;
      read = c.in-Ok.ensures.behind;
      state = c.installed.ensures.state;
      stands = c.installed.ensures.stands;
    } in
    c.in-Ok-reopen.ensures.snapshot
    ∙ ap (λ (x : Durable). x.snapshot) (holds c.args.bytes.now c.in-Ok.behind d c.installed.result made c.args.self.state s (ap (λ (o : OpenFile g.row.D.Denot). o.state) c.self.view_is) verified)

pub returns-clause-at_rest : goal.returns-clause-at_rest
returns-clause-at_rest g c honest =
    let read = c.in-Ok.ensures.behind in
    subst (λ (v : g.row.D.Denot). IsAtRest (g.D.Disk.bytes v) (g.D.Disk.past v)) (sym c.in-Ok-reopen.ensures.same)
    (at_rest g.D.Disk.bytes g.D.Disk.past c.keep_snapshot.new.journal ((c.in-Ok.ensures.open read.snapshot read.verified).kept honest))

pub returns-in-Err-clause-disk_fault : goal.returns-in-Err-clause-disk_fault
returns-in-Err-clause-disk_fault g c back is =
    let after = c.keep_snapshot.new.journal.gated.disk in
    let pair = IfErr-at_err (λ e. ◌≡◌ {A = OrNoMemory SnapshotOpening × g.row.D.Denot} (c.in-Err.error, after) e) is refl in
    let fault : c.in-Err.error ≡ Fault DiskFault = ap (λ (p : OrNoMemory SnapshotOpening × g.row.D.Denot). p.0) pair in
    let there : after ≡ back = ap (λ (p : OrNoMemory SnapshotOpening × g.row.D.Denot). p.1) pair in
    let rose = c.keep_snapshot.ensures.disk_fault (c.in-Err.is ∙ ap (λ (e : OrNoMemory SnapshotOpening). Err e) fault) in
    subst (λ (v : g.row.D.Denot). Rose (g.D.Disk.faults c.args.self.disk) (g.D.Disk.faults v)) there
    (subst (λ (o : OpenFile g.row.D.Denot). Rose (g.D.Disk.faults o.disk) (g.D.Disk.faults after)) c.self.view_is rose)
