use Rattle.std.proofs.Common.{◌≡◌, Err, refl, rules, sym, ap, subst, ◌∙◌}
use Rattle.gl_store_book.specs.FromSnapshot.{installed_state}
use Rattle.gl_store_book.specs.Stands.{HasLedger as IsOfLedger}
use Rattle.ccfg.specs.Nodes.{reopened}
use Rattle.ccfg.specs.declared.node.NodeError.TheVariants as NodeError
use Rattle.ccfg.proofs.Beginnings.{begins_behind, from_ok}
use Rattle.ccfg.proofs.NodeMoments.{by_stop, behind_moments, keeps_behind, reopened_moments}
use Rattle.ccfg.proofs.node.begin_behind.Goals as goal

pub returns-in-Ok-clause-begins : goal.returns-in-Ok-clause-begins
returns-in-Ok-clause-begins g c =
    let read = from_ok _ c.in-Ok.ensures.read in
    let s = read.0 in
    let e = read.1 in
    let d = c.args.file.state in
    (reopened (installed_state s.body d), begins_behind d c.args.given.now _ c.requires.none c.requires.snapshot e, record { stands = c.in-Ok.ensures.stands s e; ledger = λ of. subst IsOfLedger (sym (c.in-Ok.ensures.snapshot s e)) of; going = c.in-Ok.ensures.serves; keeps = λ honest. c.in-Ok.ensures.kept honest s e; at_rest = λ honest. c.in-Ok.ensures.at_rest honest })

pub returns-in-Err-clause-refused : goal.returns-in-Err-clause-refused
returns-in-Err-clause-refused g c fault back e =
    let is : c.snapshot_stop_of.result ≡ NodeError.Refused fault = search (rules, e) in
    let printed = c.snapshot_stop_of.ensures.refused fault is in
    begins_behind c.args.file.state c.args.given.now _ c.requires.none c.requires.snapshot
    (c.in-Err.ensures.refused printed.0 c.in-Err.disk (search (rules, printed.2)))
    ∙ ap Err (sym printed.1)

pub returns-in-Err-clause-untouched : goal.returns-in-Err-clause-untouched
returns-in-Err-clause-untouched g c honest why back e other =
    let why_is : c.snapshot_stop_of.result ≡ why = search (rules, e) in
    let back_is : c.in-Err.disk ≡ back = search (rules, e) in
    let stays = c.in-Err.ensures.stays honest c.in-Err.error c.in-Err.disk refl (λ is. other (sym why_is ∙ c.snapshot_stop_of.ensures.disk is)) in
    (ap g.D.Disk.bytes (sym back_is) ∙ stays.0, ap g.D.Disk.past (sym back_is) ∙ stays.1)

pub returns-in-Ok-clause-spent : goal.returns-in-Ok-clause-spent
returns-in-Ok-clause-spent g c honest =
    let read = from_ok _ c.in-Ok.ensures.read in
    keeps_behind read.0.body c.args.file.state _ _ (c.in-Ok.ensures.at_rest honest) (c.in-Ok.ensures.kept honest read.0 read.1)

pub returns-in-Ok-clause-any_moment : goal.returns-in-Ok-clause-any_moment
returns-in-Ok-clause-any_moment g c honest =
    let read = from_ok _ c.in-Ok.ensures.read in
    behind_moments read.0.body c.args.file.state _ _ c.requires.none (c.in-Ok.ensures.any_moment honest read.0 read.1)

pub returns-in-Err-clause-any_moment : goal.returns-in-Err-clause-any_moment
returns-in-Err-clause-any_moment g c honest =
    by_stop c.snapshot_stop_of.result _
    (λ failed. let read = from_ok _ (c.in-Err.ensures.snapshot_first c.in-Err.disk (search (rules, c.snapshot_stop_of.ensures.disk_failed failed))) in
    behind_moments read.0.body c.args.file.state _ _ c.requires.none (c.in-Err.ensures.any_moment_err honest read.0 read.1))
    (λ other. reopened_moments c.args.file.state (g.D.Disk.bytes c.args.file.disk) _ _ (c.requires.at_rest honest) (c.requires.kept honest)
    (c.in-Err.ensures.stays honest c.in-Err.error c.in-Err.disk refl (λ is. other (c.snapshot_stop_of.ensures.disk is))).1)
