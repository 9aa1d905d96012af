use Rattle.std.proofs.Common.{◌≡◌, None, subst, sym}
use Rattle.gl_ledger.specs.NodeKeys.{service_layers}
use Rattle.gl_ledger.specs.Broken.{broken}
use Rattle.gl_audit.specs.Committed.{Held}
use Rattle.gl_store.proofs.Governing.{govern_ok}
use Rattle.gl_store.proofs.Unbroken.{governance_unbroken}
use Rattle.gl_store.proofs.store.Store.govern.Goals as goal

pub push-requires : goal.push-requires
push-requires c =
    let old = c.args.self.now in
    subst (λ (h : Held). broken service_layers h.ledger c.in_ok-entry.entry ≡ None) (sym c.in_ok-entry.ensures.kept)
    (governance_unbroken old.ledger c.args.view c.args.request.now c.in_ok-entry.entry c.requires.some c.requires.opened c.requires.up_to c.requires.fits
    c.requires.founding c.requires.recovery c.in_ok-entry.ensures.accepted c.in_ok-entry.ensures.left
    (govern_ok old.ledger c.args.view c.args.request.now c.in_ok-entry.entry c.in_ok-entry.ensures.made) c.in_ok-entry.ensures.fits)
