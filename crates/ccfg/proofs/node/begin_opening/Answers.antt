use Rattle.std.proofs.Common.{◌≡◌, Err, refl, rules, sym, ap, subst, ◌∙◌}
use Rattle.gl_base.specs.declared.or_no_memory.OrNoMemory.TheVariants as stops
use Rattle.gl_store_book.specs.Stands.{HasLedger as IsOfLedger}
use Rattle.gl_store_book.specs.declared.node_file.fault.OpeningFault.{OpeningFault}
use Rattle.gl_store_book.specs.declared.node_file.fault.OpeningFault.TheVariants as faults
use Rattle.ccfg.specs.declared.node.NodeError.TheVariants as NodeError
use Rattle.ccfg.specs.Nodes.{opened_by}
use Rattle.ccfg.proofs.Beginnings.{begins_with, from_ok, of_none, refused_with}
use Rattle.ccfg.proofs.NodeMoments.{by_stop, keeps_opening, opening_moments, reopened_moments}
use Rattle.ccfg.proofs.node.begin_opening.Goals as goal

pub returns-in-Ok-clause-begins : goal.returns-in-Ok-clause-begins
returns-in-Ok-clause-begins g c =
    let started = from_ok _ c.in-Ok.ensures.start in
    let s = started.0 in
    let e = started.1 in
    (opened_by s c.args.file.state, begins_with c.args.file.state c.args.given.now s c.requires.none c.requires.ledger e (c.in-Ok.ensures.fits s e), record { stands = c.in-Ok.ensures.stands s e; ledger = λ of. subst IsOfLedger (sym c.in-Ok.ensures.snapshot) of_none; going = c.in-Ok.ensures.serves; keeps = λ honest. c.in-Ok.ensures.kept honest s e; at_rest = λ honest. c.in-Ok.ensures.at_rest honest s e })

pub returns-in-Err-clause-refused : goal.returns-in-Err-clause-refused
returns-in-Err-clause-refused g c fault back e =
    let is : c.stop_of.result ≡ NodeError.Refused fault = search (rules, e) in
    let printed = c.stop_of.ensures.refused fault is in
    let ends = c.in-Err.ensures in
    let why : OpeningFault = printed.0 in
    let error_is : c.in-Err.error ≡ stops.Fault why = printed.2 in
    refused_with c.args.file.state c.args.given.now why c.requires.none c.requires.ledger
    (ends.only why c.in-Err.disk (search (rules, error_is)))
    printed.3
    (λ seqno (eq : why ≡ faults.NotOpening seqno). ends.not_opening seqno c.in-Err.disk (search (rules, error_is, eq)))
    (λ size (eq : why ≡ faults.TooLarge size). ends.too_large size c.in-Err.disk (search (rules, error_is, eq)))
    ∙ ap Err (sym printed.1)

pub returns-in-Err-clause-untouched : goal.returns-in-Err-clause-untouched
returns-in-Err-clause-untouched g c honest why back e other =
    let why_is : c.stop_of.result ≡ why = search (rules, e) in
    let back_is : c.in-Err.disk ≡ back = search (rules, e) in
    let stays = c.in-Err.ensures.stays honest c.in-Err.error c.in-Err.disk refl (λ is. other (sym why_is ∙ c.stop_of.ensures.disk is)) in
    (ap g.D.Disk.bytes (sym back_is) ∙ stays.0, ap g.D.Disk.past (sym back_is) ∙ stays.1)

pub returns-in-Ok-clause-spent : goal.returns-in-Ok-clause-spent
returns-in-Ok-clause-spent g c honest =
    let started = from_ok _ c.in-Ok.ensures.start in
    keeps_opening started.0 c.args.file.state _ _ (c.in-Ok.ensures.at_rest honest started.0 started.1) (c.in-Ok.ensures.kept honest started.0 started.1)

pub returns-in-Ok-clause-any_moment : goal.returns-in-Ok-clause-any_moment
returns-in-Ok-clause-any_moment g c honest =
    let started = from_ok _ c.in-Ok.ensures.start in
    opening_moments started.0 c.args.file.state _ _ c.requires.none (c.in-Ok.ensures.any_moment honest started.0 started.1)

pub returns-in-Err-clause-any_moment : goal.returns-in-Err-clause-any_moment
returns-in-Err-clause-any_moment g c honest =
    by_stop c.stop_of.result _
    (λ failed. let started = from_ok _ (c.in-Err.ensures.opening_first c.in-Err.disk (search (rules, c.stop_of.ensures.disk_failed failed))) in
    opening_moments started.0 c.args.file.state _ _ c.requires.none (c.in-Err.ensures.any_moment_err honest started.0 started.1))
    (λ other. reopened_moments c.args.file.state (g.D.Disk.bytes c.args.file.disk) _ _ (c.requires.at_rest honest) (c.requires.kept honest)
    (c.in-Err.ensures.stays honest c.in-Err.error c.in-Err.disk refl (λ is. other (c.stop_of.ensures.disk is))).1)
