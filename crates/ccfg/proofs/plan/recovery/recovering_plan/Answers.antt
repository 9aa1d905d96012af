use Rattle.std.proofs.Common.{Err, refl, ap}
use Rattle.gl_journal.specs.declared.key.KeyKind.TheVariants.{Node}
use Rattle.gl_keyfile.specs.KeyFile.{disk_of}
use Rattle.ccfg.specs.KeyFiles.{held}
use Rattle.gl_store_book.specs.NodeFile.{opened}
use Rattle.gl_keyfile.specs.declared.leaf.LeafUse.TheVariants.{Start}
use Rattle.ccfg.specs.ExpectedOutput.{output_of_old}
use Rattle.ccfg.proofs.ShownLemmas.{beside}
use Rattle.ccfg.proofs.MomentLemmas.{opened_and_signed, opened_only}
use Rattle.ccfg.proofs.SigningLemmas.{all_moved_spent, all_unopened_output, expected_with_key, key_found, key_opened}
use Rattle.ccfg.proofs.plan.recovery.recovering_plan.Goals as goal

pub returns-in-Ok-clause-output : goal.returns-in-Ok-clause-output
returns-in-Ok-clause-output g c =
    expected_with_key g.D.Disk.honest (g.D.Disk.bytes c.args.disk) (g.S.Source.left c.args.source.now) Node output_of_old (held c.in-Ok.file) c.plan_with_node_key.result.0
    c.in-Ok.ensures.durable c.in-Ok.ensures.kind c.plan_with_node_key.ensures.output

pub returns-in-Ok-clause-spent : goal.returns-in-Ok-clause-spent
returns-in-Ok-clause-spent g c = λ honest.
    all_moved_spent Start (g.D.Disk.bytes c.args.disk) (g.D.Disk.bytes (disk_of c.in-Ok.file)) (held c.in-Ok.file) _ c.plan_with_node_key.result.0
    (c.in-Ok.ensures.durable honest) (c.in-Ok.ensures.open honest).state (c.plan_with_node_key.ensures.spent honest)

pub returns-in-Err-clause-output : goal.returns-in-Err-clause-output
returns-in-Err-clause-output g c =
    let back = c.in-Err.disk in
    all_unopened_output g.D.Disk.honest (g.D.Disk.bytes c.args.disk) (g.S.Source.left c.args.source.now) Node output_of_old c.in-Err.error c.open_stop.result
    (λ honest fault is. c.in-Err.ensures.damaged honest fault back (ap Err (beside _ _ back is)))
    (λ honest want got is. let k = c.in-Err.ensures.key_kind honest want got back (ap Err (beside _ _ back is)) in (k.0, k.1, k.2))
    (λ want got is. c.in-Err.ensures.kinds want got back (ap Err (beside _ _ back is)))
    c.open_stop.ensures.reported

pub returns-in-Ok-clause-any_moment : goal.returns-in-Ok-clause-any_moment
returns-in-Ok-clause-any_moment g c = λ honest gate.
    opened_and_signed Start (g.D.Disk.bytes c.args.disk) (g.D.Disk.past c.args.disk) (g.D.Disk.past (disk_of c.in-Ok.file)) _ (held c.in-Ok.file)
    (c.in-Ok.ensures.durable honest) (c.in-Ok.ensures.any_moment honest gate) (c.plan_with_node_key.ensures.any_moment honest)

pub returns-in-Err-clause-any_moment : goal.returns-in-Err-clause-any_moment
returns-in-Err-clause-any_moment g c = λ honest gate.
    opened_only Start (g.D.Disk.bytes c.args.disk) (g.D.Disk.past c.args.disk) _ (c.in-Err.ensures.any_moment_err honest gate)

pub returns-in-Ok-clause-unread : goal.returns-in-Ok-clause-unread
returns-in-Ok-clause-unread g c honest none =
    key_found Node (opened (g.D.Disk.bytes c.args.disk)) (held c.in-Ok.file) (c.in-Ok.ensures.durable honest) c.in-Ok.ensures.kind none

pub returns-in-Ok-clause-foreign : goal.returns-in-Ok-clause-foreign
returns-in-Ok-clause-foreign g c honest none = key_opened (opened (g.D.Disk.bytes c.args.disk)) (held c.in-Ok.file) (c.in-Ok.ensures.durable honest) none

pub returns-in-Ok-clause-foreign_bytes : goal.returns-in-Ok-clause-foreign_bytes
returns-in-Ok-clause-foreign_bytes g c honest none other = key_opened (opened (g.D.Disk.bytes c.args.disk)) (held c.in-Ok.file) (c.in-Ok.ensures.durable honest) none

pub returns-in-Err-clause-foreign : goal.returns-in-Err-clause-foreign
returns-in-Err-clause-foreign g c honest none = c.in-Err.ensures.unopened honest none.0 none.1

pub returns-in-Err-clause-foreign_bytes : goal.returns-in-Err-clause-foreign_bytes
returns-in-Err-clause-foreign_bytes g c honest none other =
    c.in-Err.ensures.unopened_bytes honest none.0 none.1 c.in-Err.error c.in-Err.disk refl (λ is. other (c.open_stop.ensures.disk is))
