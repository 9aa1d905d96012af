use Rattle.std.proofs.Common.{◌≡◌, rules, sym, subst}
use Rattle.gl_receipt.specs.Made.{Ledger, receipt_by}
use Rattle.gl_receipt.specs.Receipt.{Accepts}
use Rattle.gl_receipt.specs.declared.components.Receipt.{Receipt}
use Rattle.gl_receipt.proofs.MakeLemmas.{accepted}
use Rattle.gl_receipt.proofs.maker.make.Goals as goal

pub returns-clause-accepted : goal.returns-clause-accepted
returns-clause-accepted g c = λ l stands is.
    let e = c.in_ok-entry.entry.now in
    let s = c.in_ok-signature.signature.now in
    let made : record { leaf_components = c.in_ok-components.field-0; proof = c.from.result; signature = c.from-2.result; signed = c.signed_in_entry.result } ≡ receipt_by l c.args.id e s = search rules in
    subst (λ (r : Receipt). Accepts (l.identity c.args.id.seqno) r c.args.id) (sym made)
    (accepted l c.args.id e s (c.in_ok-entry.ensures.found l stands) c.in_ok-entry.ensures.numbered (c.in_ok-signature.ensures.found l stands) c.in_ok-signature.ensures.above (c.in_ok-signature.ensures.numbered l stands) (c.in_ok-signature.ensures.signs l stands) is)
