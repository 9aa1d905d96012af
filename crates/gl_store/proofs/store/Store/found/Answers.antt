use Rattle.std.proofs.Common.{◌∙◌, ap}
use Rattle.gl_audit.specs.Committed.{Held}
use Rattle.gl_store.proofs.Unbroken.{genesis_unbroken}
use Rattle.gl_store.proofs.store.Store.found.Goals as goal

pub push-requires : goal.push-requires
push-requires c =
    genesis_unbroken c.args.genesis _ _ c.requires.accepted c.requires.fits (ap (λ (h : Held). h.ledger) c.in_ok-founding.ensures.kept ∙ c.requires.first) c.in_ok-founding.ensures.made
