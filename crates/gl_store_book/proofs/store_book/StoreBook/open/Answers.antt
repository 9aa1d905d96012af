use Rattle.std.proofs.Common.{◌≡◌, sym, subst, ap, ◌∙◌}
use Rattle.gl_base.specs.declared.or_no_memory.OrNoMemory.{OrNoMemory}
use Rattle.gl_ledger.specs.Makers.{opening_of}
use Rattle.gl_ledger.specs.NodeKeys.{service_layers}
use Rattle.gl_ledger.specs.OpeningLedger.{Founds}
use Rattle.gl_ledger.specs.declared.breach.Broken as breach
use Rattle.gl_audit.specs.Kept.{Breaks}
use Rattle.gl_store_book.specs.BasedLedgers.{BasedLedger, broken_after, whole_ledger}
use Rattle.gl_store_book.specs.Stands.{HasKey, NodeStore, whole_store}
use Rattle.gl_store_book.proofs.Openings.{founding, never_broken, opened_entry, opened_ledger}
use Rattle.gl_store_book.proofs.store_book.StoreBook.open.Goals as goal

pub founded-requires-clause-accepted : goal.founded-requires-clause-accepted
founded-requires-clause-accepted c = c.requires.founds.2.accepted

pub founded-requires-clause-fits : goal.founded-requires-clause-fits
founded-requires-clause-fits c = c.requires.founds.2.fits

pub unreachable-requires : goal.unreachable-requires
unreachable-requires c =
    let keys = c.requires.founds.0 in
    let begun : c.into_ledger.result ≡ founding c.args.genesis = c.into_ledger.ensures.ledger ∙ ap whole_ledger c.in_ok-founded.ensures in
    let founds = subst (λ (n : NodeStore). Founds service_layers keys c.args.genesis n.me) (sym c.self.view_is) c.requires.founds.2 in
    let e = opened_entry keys _ c.into_ledger.result c.args.genesis c.in_ok-entry.entry (subst (HasKey keys) (sym c.self.view_is) c.requires.founds.1) begun c.in_ok-entry.ensures.made in
    never_broken keys c.into_ledger.result c.args.genesis _ c.in_ok-entry.entry c.in-Err-Fault.field-0-0 founds begun e
    (subst (λ (m : OrNoMemory breach.Broken). Breaks (broken_after c.into_ledger.result c.in_ok-entry.entry) m) c.in-Err-Fault.field-0-is c.in-Err-Fault.ensures.refused)

pub returns : goal.returns
returns c = λ keys has.
    let begun : c.into_ledger.result ≡ founding c.args.genesis = c.into_ledger.ensures.ledger ∙ ap whole_ledger c.in_ok-founded.ensures in
    let e = opened_entry keys _ c.into_ledger.result c.args.genesis c.in_ok-entry.entry (subst (HasKey keys) (sym c.self.view_is) has) begun c.in_ok-entry.ensures.made in
    let led = opened_ledger keys c.into_ledger.result c.apply.new.self c.args.genesis _ c.in_ok-entry.entry begun e c.in-Ok.ensures.grown in
    ap (λ (l : BasedLedger). record { me = c.self.inside.me; key = c.self.inside.key; ledger = l }) led
    ∙ ap (λ (n : NodeStore). whole_store n.me n.key (opening_of keys c.args.genesis n.me)) c.self.view_is
