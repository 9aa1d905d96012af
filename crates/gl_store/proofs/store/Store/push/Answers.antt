use Rattle.std.proofs.Common.{◌≡◌, None, subst, sym}
use Rattle.gl_ledger.specs.NodeKeys.{service_layers}
use Rattle.gl_ledger.specs.Broken.{broken}
use Rattle.gl_snapshot_body.specs.Body.{no_body}
use Rattle.gl_audit.specs.Committed.{Held}
use Rattle.gl_store.proofs.KeptEntries.{held_grown, held_still, kept_pushed}
use Rattle.gl_store.proofs.Tails.{on_err, on_ok}
use Rattle.gl_store.proofs.store.Store.push.Goals as goal

pub push-requires : goal.push-requires
push-requires c = record {
  unbroken = (no_body, c.self.invariant.stands, subst (λ (h : Held). broken service_layers h.ledger c.args.entry ≡ None) (sym c.self.view_is) c.requires);
}

pub invariant_of-self : goal.invariant_of-self
invariant_of-self c =
    let unbroken : broken service_layers c.self.inside.tail.entries c.args.entry ≡ None = subst (λ (h : Held). broken service_layers h.ledger c.args.entry ≡ None) (sym c.self.view_is) c.requires in
    kept_pushed c.push.result c.self.inside.tail c.push.new.self _ c.args.entry c.self.invariant c.push.ensures.grown
    (on_ok c.push.result (λ stands. stands no_body c.self.invariant.stands unbroken) c.push.ensures.stands) c.push.ensures.err

pub returns-clause-grown : goal.returns-clause-grown
returns-clause-grown c = on_ok c.push.result (held_grown c.self.inside.tail c.push.new.self c.self.inside.commit c.args.self.now c.args.entry c.self.view_is) c.push.ensures.grown

pub returns-clause-err : goal.returns-clause-err
returns-clause-err c = on_err c.push.result (held_still c.self.inside.tail c.push.new.self c.self.inside.commit c.args.self.now c.self.view_is) c.push.ensures.err
