use Rattle.std.proofs.Common.{◌≡◌, Err, false, refl, sym, ap, subst, ◌∙◌}
use Rattle.std.proofs.lemmas.Result.{IfErr-at_err}
use Rattle.gl_base.specs.declared.or_no_memory.OrNoMemory.{OrNoMemory}
use Rattle.gl_base.specs.declared.or_no_memory.OrNoMemory.TheVariants.{Fault}
use Rattle.gl_outside.specs.Disk.{Leaves}
use Rattle.gl_outside.specs.Fault.{Rose}
use Rattle.gl_journal.specs.Durable.{OpensToOneOf}
use Rattle.gl_journal.specs.declared.fault.JournalFault.TheVariants.{DiskFault}
use Rattle.gl_journal.specs.Kept.{IsAtRest}
use Rattle.gl_journal.proofs.UnwrittenFiles.{at_rest}
use Rattle.gl_node.specs.Seen.{Seen}
use Rattle.gl_store_book.specs.AtOpening.{opened_state, node_at_opening}
use Rattle.gl_store_book.specs.Frames.{goes_on_ledger}
use Rattle.gl_store_book.specs.NodeFile.{OpenFile, has_ledger, seen_state}
use Rattle.gl_store_book.specs.Replicas.{StandsForFile}
use Rattle.gl_store_book.specs.ServiceStart.{service_start}
use Rattle.gl_store_book.specs.declared.node_file.fault.OpeningFault.{OpeningFault}
use Rattle.gl_store_book.specs.declared.node_file.fault.OpeningFault.TheVariants.{Journal}
use Rattle.gl_store_book.proofs.NodeFiles.{without_snapshot}
use Rattle.gl_store_book.proofs.ServiceStarts.{start_fits}
use Rattle.gl_store_book.proofs.ServedNodes.{serving, keeps_opened, stands_as}
use Rattle.gl_store_book.proofs.node_file.NodeFile.begin.Goals as goal

pub new-requires-clause-settled : goal.new-requires-clause-settled
new-requires-clause-settled g c h =
    let s = service_start c.in-Ok.opening.ledger c.in-Ok.opening.first in
    (c.in-Ok.ensures.open s c.in-Ok.ensures.start).kept h

pub new-requires-clause-serving : goal.new-requires-clause-serving
new-requires-clause-serving g c has =
    let f = c.self.inside in
    let d = seen_state f.state in
    let s = service_start c.in-Ok.opening.ledger c.in-Ok.opening.first in
    let none : has_ledger d ≡ false = ap (λ (o : OpenFile g.row.D.Denot). has_ledger o.state) c.self.view_is ∙ c.requires in
    serving g.D.Disk.honest g.D.Disk.bytes g.D.Disk.past c.keep_start.new.journal (opened_state s d) c.opened_core.result (λ b. node_at_opening b s d)
    (c.in-Ok.ensures.open s c.in-Ok.ensures.start) c.opened_core.ensures.stands (keeps_opened s d (start_fits c.args.bytes.now s c.in-Ok.ensures.start))
    (λ h. c.opened_core.ensures.snapshot ∙ sym (without_snapshot (g.D.Disk.bytes f.journal.gated.disk) d none (c.self.invariant.file.file.opens h)).0)

pub returns-clause-stands : goal.returns-clause-stands
returns-clause-stands g c s starts =
    let d = seen_state c.self.inside.state in
    let first = service_start c.in-Ok.opening.ledger c.in-Ok.opening.first in
    let here = stands_as c.args.bytes.now first s d c.opened_core.result c.new.result.core c.in-Ok.ensures.start starts (sym (ap (λ (v : Seen _ _ _ _ _ _ _). v.core) c.new.ensures)) c.opened_core.ensures.stands in
    subst (λ (o : OpenFile g.row.D.Denot). StandsForFile o.state c.new.result.core (λ b below. node_at_opening b s o.state)) c.self.view_is (λ keys has below base. here keys has)

pub returns-clause-at_rest : goal.returns-clause-at_rest
returns-clause-at_rest g c honest s starts =
    subst (λ (v : g.row.D.Denot). IsAtRest (g.D.Disk.bytes v) (g.D.Disk.past v)) (sym (ap (λ (v : Seen _ _ _ _ _ _ _). v.disk) c.new.ensures))
    (at_rest g.D.Disk.bytes g.D.Disk.past c.keep_start.new.journal ((c.in-Ok.ensures.open s starts).kept honest))

pub returns-clause-any_moment : goal.returns-clause-any_moment
returns-clause-any_moment g c honest s starts =
    let f = c.self.inside in
    let d = seen_state f.state in
    let here = subst (λ (v : g.row.D.Denot). Leaves (OpensToOneOf goes_on_ledger d (opened_state s d)) (g.D.Disk.past f.journal.gated.disk) (g.D.Disk.past v)) (sym (ap (λ (v : Seen _ _ _ _ _ _ _). v.disk) c.new.ensures))
    (c.keep_start.ensures.any_moment honest s starts) in
    subst (λ (o : OpenFile g.row.D.Denot). Leaves (OpensToOneOf goes_on_ledger o.state (opened_state s o.state)) (g.D.Disk.past o.disk) (g.D.Disk.past c.new.result.disk)) c.self.view_is here

pub returns-in-Err-clause-disk_fault : goal.returns-in-Err-clause-disk_fault
returns-in-Err-clause-disk_fault g c back is =
    let after = c.keep_start.new.journal.gated.disk in
    let pair = IfErr-at_err (λ e. ◌≡◌ {A = OrNoMemory OpeningFault × g.row.D.Denot} (c.in-Err.error, after) e) is refl in
    let fault : c.in-Err.error ≡ Fault (Journal DiskFault) = ap (λ (p : OrNoMemory OpeningFault × g.row.D.Denot). p.0) pair in
    let there : after ≡ back = ap (λ (p : OrNoMemory OpeningFault × g.row.D.Denot). p.1) pair in
    let rose = c.keep_start.ensures.disk_fault (c.in-Err.is ∙ ap (λ (e : OrNoMemory OpeningFault). Err e) fault) in
    subst (λ (v : g.row.D.Denot). Rose (g.D.Disk.faults c.args.self.disk) (g.D.Disk.faults v)) there
    (subst (λ (o : OpenFile g.row.D.Denot). Rose (g.D.Disk.faults o.disk) (g.D.Disk.faults after)) c.self.view_is rose)
