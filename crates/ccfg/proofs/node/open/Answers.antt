use Rattle.std.proofs.Common.{◌≡◌, ◌≢◌, ⊎_elim, Result, Ok, Err, refl, rules, sym, ap, ◌∙◌}
use Rattle.gl_base.specs.declared.or_no_memory.OrNoMemory.TheVariants as stops
use Rattle.gl_entry.specs.SourceBytes.{OfBytes}
use Rattle.gl_journal.specs.Durable.{Durable}
use Rattle.gl_journal.specs.declared.fault.JournalFault.{JournalFault}
use Rattle.gl_journal.specs.declared.fault.JournalFault.TheVariants.{DiskFault}
use Rattle.gl_journal.specs.declared.key.KeyKind.{KeyKind}
use Rattle.gl_journal.specs.declared.key.KeyKind.TheVariants as kinds
use Rattle.gl_store_book.specs.NodeFile.{opened}
use Rattle.gl_store_book.specs.declared.node_file.fault.OpeningFault.TheVariants as faults
use Rattle.ccfg.specs.Nodes.{beginning_of}
use Rattle.ccfg.specs.declared.node.NodeError.TheVariants as NodeError
use Rattle.ccfg.proofs.Beginnings.{of_honest, begins_of, by_bytes, by_opened, any_bytes, has_one, ledger_or_end, not_foreign, ok_both, ok_map, of_kind, opens_as, opens_none, other_kind, told_as}
use Rattle.ccfg.proofs.NodeMoments.{beginning_moments, opened_moments, refused_only}
use Rattle.ccfg.proofs.node.open.Goals as goal

pub returns-in-Ok-clause-begins : goal.returns-in-Ok-clause-begins
returns-in-Ok-clause-begins g c =
    let d = c.in-Ok.file.state in
    ok_map c.begin.result (λ replica both. by_opened g.D.Disk.honest (g.D.Disk.bytes c.args.disk) (Ok d) _ c.in-Ok.ensures.durable
    (by_bytes (g.S.Source.left c.args.source.now) (λ given b. (record { state = d; found = refl; start = b.0; begins = begins_of d given (Ok b.0) c.in-Ok.ensures.kind b.1; began = b.2 }, both.1)) both.0))
    (ok_both _ _ c.begin.result c.begin.ensures.begins (ledger_or_end c.begin.result d _ c.begin.ensures.ended))

pub returns-in-Ok-clause-refused : goal.returns-in-Ok-clause-refused
returns-in-Ok-clause-refused g c fault back e =
    let d = c.in-Ok.file.state in
    by_opened g.D.Disk.honest (g.D.Disk.bytes c.args.disk) (Ok d) _ c.in-Ok.ensures.durable
    (by_bytes (g.S.Source.left c.args.source.now) (λ given b. begins_of d given (Err fault) c.in-Ok.ensures.kind b) (c.begin.ensures.refused fault back e))

pub returns-in-Err-clause-refused : goal.returns-in-Err-clause-refused
returns-in-Err-clause-refused g c fault back e =
    let is : c.stop_of.result ≡ NodeError.Refused fault = search (rules, e) in
    let printed = c.stop_of.ensures.refused fault is in
    let ends = c.in-Err.ensures in
    let opening = printed.0 in
    let error_is : c.in-Err.error ≡ stops.Fault opening = printed.2 in
    let held = g.D.Disk.bytes c.args.disk in
    let left = g.S.Source.left c.args.source.now in
    let Q : Result Durable JournalFault → Type 0 = λ opens. OfBytes left (λ given. beginning_of opens given ≡ Err fault) in
    ⊎_elim
    (λ (h : (why : JournalFault) × (opening ≡ faults.Journal why)).
    let other : h.0 ≢ DiskFault = λ w. printed.3 (h.1 ∙ ap faults.Journal w) in
    by_opened g.D.Disk.honest held (Err h.0) Q
    (λ honest. ends.damaged honest h.0 c.in-Err.disk (search (rules, error_is, h.1)) other)
    (any_bytes left (λ given. told_as (Err h.0) given opening (faults.Journal h.0) fault refl h.1 printed.1)))
    (λ (h : (got : KeyKind) × (opening ≡ faults.KeyKind kinds.Node got)).
    let kinds_are = ends.kinds kinds.Node h.0 c.in-Err.disk (search (rules, error_is, h.1)) in
    of_honest g.D.Disk.honest held Q
    (λ honest. let k = ends.key_kind honest kinds.Node h.0 c.in-Err.disk (search (rules, error_is, h.1)) in
    (k.0, k.1, any_bytes left (λ given. told_as (Ok k.0) given opening (faults.KeyKind kinds.Node h.0) fault (other_kind k.0 given h.0 k.2 kinds_are.1) h.1 printed.1)))
    (Ok (of_kind h.0)) (any_bytes left (λ given. told_as (Ok (of_kind h.0)) given opening (faults.KeyKind kinds.Node h.0) fault (other_kind (of_kind h.0) given h.0 refl kinds_are.1) h.1 printed.1)))
    (ends.only opening c.in-Err.disk (search (rules, error_is)))

pub returns-in-Ok-clause-spent : goal.returns-in-Ok-clause-spent
returns-in-Ok-clause-spent g c honest =
    ok_map c.begin.result (λ replica keeps. (c.in-Ok.file.state, c.in-Ok.ensures.durable honest, keeps)) (c.begin.ensures.spent honest)

pub returns-in-Ok-clause-any_moment : goal.returns-in-Ok-clause-any_moment
returns-in-Ok-clause-any_moment g c honest gate =
    beginning_moments (g.D.Disk.bytes c.args.disk) _ _ _ c.in-Ok.file.state (c.in-Ok.ensures.durable honest)
    (opened_moments (g.D.Disk.bytes c.args.disk) _ _ (c.in-Ok.ensures.any_moment honest gate)) (c.begin.ensures.any_moment honest)

pub returns-in-Ok-clause-unbegun : goal.returns-in-Ok-clause-unbegun
returns-in-Ok-clause-unbegun g c honest why back is other more =
    let same = c.begin.ensures.untouched honest why back is other in
    opens_as (g.D.Disk.bytes c.args.disk) (g.D.Disk.bytes back) c.in-Ok.file.state (c.in-Ok.ensures.durable honest) (ap opened same.0 ∙ c.in-Ok.ensures.kept honest)

pub returns-in-Err-clause-unbegun : goal.returns-in-Err-clause-unbegun
returns-in-Err-clause-unbegun g c honest why back is other more =
    let why_is : c.stop_of.result ≡ why = search (rules, is) in
    let back_is : c.in-Err.disk ≡ back = search (rules, is) in
    let refusal = refused_only c.stop_of.result c.stop_of.ensures.no_source (λ failed. other (sym why_is ∙ failed)) (λ memory. more (sym why_is ∙ memory)) in
    let printed = c.stop_of.ensures.refused refusal.0 refusal.1 in
    let fault = printed.0 in
    let ends = c.in-Err.ensures in
    let error_is : c.in-Err.error ≡ stops.Fault fault = printed.2 in
    let held = g.D.Disk.bytes c.args.disk in
    ⊎_elim
    (λ (h : (reason : JournalFault) × (fault ≡ faults.Journal reason)).
    opens_none held (g.D.Disk.bytes back) h.0
    (ends.damaged honest h.0 c.in-Err.disk (search (rules, error_is, h.1)) (λ w. printed.3 (h.1 ∙ ap faults.Journal w))))
    (λ (h : (got : KeyKind) × (fault ≡ faults.KeyKind kinds.Node got)).
    let k = ends.key_kind honest kinds.Node h.0 c.in-Err.disk (search (rules, error_is, h.1)) in
    opens_as held (g.D.Disk.bytes back) k.0 k.1 (ap (λ (v : g.row.D.Denot). opened (g.D.Disk.bytes v)) (sym back_is) ∙ k.3))
    (ends.only fault c.in-Err.disk (search (rules, error_is)))

pub returns-in-Err-clause-source_quiet : goal.returns-in-Err-clause-source_quiet
returns-in-Err-clause-source_quiet g c none = refl

pub returns-in-Err-clause-any_moment : goal.returns-in-Err-clause-any_moment
returns-in-Err-clause-any_moment g c honest gate =
    opened_moments (g.D.Disk.bytes c.args.disk) _ _ (c.in-Err.ensures.any_moment_err honest gate)

pub returns-in-Ok-clause-unread : goal.returns-in-Ok-clause-unread
returns-in-Ok-clause-unread g c honest none =
    c.begin.ensures.unread (has_one (opened (g.D.Disk.bytes c.args.disk)) c.in-Ok.file.state (c.in-Ok.ensures.durable honest) c.in-Ok.ensures.kind none)

pub returns-in-Ok-clause-foreign : goal.returns-in-Ok-clause-foreign
returns-in-Ok-clause-foreign g c honest none = not_foreign (opened (g.D.Disk.bytes c.args.disk)) c.in-Ok.file.state (c.in-Ok.ensures.durable honest) none

pub returns-in-Ok-clause-foreign_bytes : goal.returns-in-Ok-clause-foreign_bytes
returns-in-Ok-clause-foreign_bytes g c honest none why back is other = not_foreign (opened (g.D.Disk.bytes c.args.disk)) c.in-Ok.file.state (c.in-Ok.ensures.durable honest) none

pub returns-in-Err-clause-foreign : goal.returns-in-Err-clause-foreign
returns-in-Err-clause-foreign g c honest none = c.in-Err.ensures.unopened honest none.0 none.1

pub returns-in-Err-clause-foreign_bytes : goal.returns-in-Err-clause-foreign_bytes
returns-in-Err-clause-foreign_bytes g c honest none why back is other =
    let why_is : c.stop_of.result ≡ why = search (rules, is) in
    let back_is : c.in-Err.disk ≡ back = search (rules, is) in
    ap g.D.Disk.bytes (sym back_is) ∙ c.in-Err.ensures.unopened_bytes honest none.0 none.1 c.in-Err.error c.in-Err.disk refl (λ failed. other (sym why_is ∙ c.stop_of.ensures.disk failed))
