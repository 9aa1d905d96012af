use Rattle.std.proofs.Common.{◌≡◌, None, subst}
use Rattle.gl_ledger.specs.NodeKeys.{service_layers}
use Rattle.gl_ledger.specs.Broken.{broken}
use Rattle.gl_snapshot_body.specs.Body.{no_body}
use Rattle.gl_audit.specs.Kept.{Breaks}
use Rattle.gl_audit.specs.Committed.{Held}
use Rattle.gl_store.proofs.KeptEntries.{held_grown, held_still, kept_pushed}
use Rattle.gl_store.proofs.Tails.{if_err, on_err, on_ok}
use Rattle.gl_store.proofs.store.Store.apply_entry.Goals as goal

pub invariant_of-self : goal.invariant_of-self
invariant_of-self c =
    kept_pushed c.apply.result c.self.inside.tail c.apply.new.self _ c.args.entry c.self.invariant (on_ok c.apply.result (λ b. b.entries) c.apply.ensures.grown)
    (on_ok c.apply.result (λ b. b.stands no_body c.self.invariant.stands) c.apply.ensures.grown) c.apply.ensures.err

pub returns-clause-unbroken : goal.returns-clause-unbroken
returns-clause-unbroken c =
    on_ok c.apply.result (λ each. subst (λ (h : Held). broken service_layers h.ledger c.args.entry ≡ None) c.self.view_is (each no_body c.self.invariant.stands)) c.apply.ensures.unbroken

pub returns-clause-grown : goal.returns-clause-grown
returns-clause-grown c = on_ok c.apply.result (λ b. held_grown c.self.inside.tail c.apply.new.self c.self.inside.commit c.args.self.now c.args.entry c.self.view_is b.entries) c.apply.ensures.grown

pub returns-clause-refused : goal.returns-clause-refused
returns-clause-refused c =
    if_err c.apply.result (λ e each. subst (λ (h : Held). Breaks (broken service_layers h.ledger c.args.entry) e) c.self.view_is (each no_body c.self.invariant.stands)) c.apply.ensures.refused

pub returns-clause-err : goal.returns-clause-err
returns-clause-err c = on_err c.apply.result (held_still c.self.inside.tail c.apply.new.self c.self.inside.commit c.args.self.now c.self.view_is) c.apply.ensures.err
