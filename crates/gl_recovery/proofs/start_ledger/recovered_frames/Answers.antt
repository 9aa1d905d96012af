use Rattle.std.proofs.Common.{List, [], ◌∷◌, ◌++◌, Ok, sym, ap, ◌∙◌}
use Rattle.std.specs.List.{flat_map}
use Rattle.gl_entry.specs.Entry.{frame_bytes}
use Rattle.gl_entry.specs.declared.entry.Entry.{Entry}
use Rattle.gl_recovery.specs.ExpectedOutput.{first_endorsement}
use Rattle.gl_recovery.proofs.ExpectedOutputLaws.{made_after, refused_after, refused_frames, reported_frames, short_endorsement}
use Rattle.gl_recovery.proofs.start_ledger.recovered_frames.Goals as goal

pub returns-in_err-recover_service : goal.returns-in_err-recover_service
returns-in_err-recover_service c =
    refused_frames c.from_residual-in_err-recover_service.result c.in_err-recover_service.field-0.0 _ c.from_residual-in_err-recover_service.ensures.0 c.from_residual-in_err-recover_service.ensures.1
    (refused_after c.args.recovery c.args.by c.args.leaf c.args.store.ledger c.cut_to_signature.new.store.ledger c.in_ok-cut_to_signature.ensures.exact c.in_ok-view.ensures.exact.0 c.in_err-recover_service.field-0.0
    c.in_err-recover_service.ensures.refused)

pub opening_entry-requires-clause-short : goal.opening_entry-requires-clause-short
opening_entry-requires-clause-short c =
    short_endorsement c.args.recovery c.cut_to_signature.new.store.ledger c.in_ok-endorsement.endorsement.items c.in_ok-recover_service.ensures.accepted
    (c.in_ok-endorsement.ensures ∙ ap first_endorsement c.as_slice.ensures)

pub returns : goal.returns
returns c =
    made_after c.args.recovery c.args.by c.args.leaf c.args.store.ledger c.cut_to_signature.new.store.ledger c.in_ok-cut_to_signature.ensures.exact c.in_ok-view.ensures.exact.0 c.in_ok-recover_service.ensures.accepted
    ∙ ap Ok (sym
    (reported_frames c.args.recovery c.args.by c.args.leaf c.in_ok-view.view c.cut_to_signature.new.store.ledger c.recover_service.new.store.ledger c.in_ok-endorsement.endorsement.items c.in_ok-opening.opening c.in_ok-reported.reported.items
    c.in_ok-recover_service.ensures.made c.in_ok-view.ensures.exact.1 (c.in_ok-endorsement.ensures ∙ ap first_endorsement c.as_slice.ensures) c.in_ok-opening.ensures.made
    (c.in_ok-reported.ensures ∙ ap (λ (es : List Entry). flat_map frame_bytes (es ++ c.in_ok-opening.opening ∷ [])) c.entries.ensures.entries)))
