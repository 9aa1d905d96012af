use Rattle.std.proofs.Common.{◌≡◌, None, subst, sym}
use Rattle.gl_entry.specs.declared.entry.Entry.{Entry}
use Rattle.gl_ledger.specs.NodeKeys.{service_layers}
use Rattle.gl_ledger.specs.Broken.{broken}
use Rattle.gl_ledger.proofs.RecoveryLaws.{recovery_unbroken}
use Rattle.gl_audit.specs.Committed.{Held}
use Rattle.gl_store.proofs.store.Store.recover_service.Goals as goal

pub push-requires : goal.push-requires
push-requires c =
    let ledger = c.args.self.now.ledger in
    let r = c.requires in
    subst (λ (h : Held). broken service_layers h.ledger c.in_ok-entry.entry ≡ None) (sym c.in_ok-entry.ensures.kept)
    (subst (λ (e : Entry). broken service_layers ledger e ≡ None) (sym c.in_ok-entry.ensures.made)
    (recovery_unbroken service_layers ledger c.args.recovery c.ledger_len.ensures.sound r.signed r.view r.left r.fits c.in_ok-entry.ensures.accepted))
