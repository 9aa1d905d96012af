use Rattle.std.proofs.Common.{◌≡◌, ap, rules}
use Rattle.gl_store_book.specs.FromSnapshot.{source_of}
use Rattle.gl_store_book.specs.declared.node_file.from_snapshot.SourceKind.TheVariants as sources
use Rattle.ccfg.specs.Nodes.{reopened}
use Rattle.ccfg.proofs.Beginnings.{begins_empty, ok_map}
use Rattle.ccfg.proofs.NodeMoments.{keeps_at_rest, reopened_disk, reopened_moments}
use Rattle.ccfg.proofs.node.begin_with.Goals as goal

pub returns-in-Ok-Nothing-clause-begins : goal.returns-in-Ok-Nothing-clause-begins
returns-in-Ok-Nothing-clause-begins g c =
    let d = c.args.file.state in
    let given = c.args.given.now in
    let is : source_of given ≡ sources.Nothing = search (rules, c.in-Ok-Nothing.ensures) in
    ok_map c.reopen.result (λ replica began. (reopened d, begins_empty d given c.requires.none is, began)) c.reopen.ensures.begins

pub returns-in-Ok-Nothing-clause-spent : goal.returns-in-Ok-Nothing-clause-spent
returns-in-Ok-Nothing-clause-spent g c honest =
    ok_map c.reopen.result (λ replica began. keeps_at_rest c.args.file.state (g.D.Disk.bytes replica.disk) (g.D.Disk.past replica.disk) (began.at_rest honest) (began.keeps honest)) c.reopen.ensures.begins

pub returns-in-Ok-Nothing-clause-any_moment : goal.returns-in-Ok-Nothing-clause-any_moment
returns-in-Ok-Nothing-clause-any_moment g c honest =
    reopened_moments c.args.file.state (g.D.Disk.bytes c.args.file.disk) _ _ (c.requires.at_rest honest) (c.requires.kept honest)
    (ap g.D.Disk.past (reopened_disk c.reopen.result c.args.file.disk c.reopen.ensures.same c.reopen.ensures.err))

pub returns-in-Err-clause-any_moment : goal.returns-in-Err-clause-any_moment
returns-in-Err-clause-any_moment g c honest =
    reopened_moments c.args.file.state (g.D.Disk.bytes c.args.file.disk) _ _ (c.requires.at_rest honest) (c.requires.kept honest) (ap g.D.Disk.past c.into_disk.ensures)
