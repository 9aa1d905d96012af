use Rattle.std.proofs.Common.{◌≤◌, length, subst, sym, arith}
use Rattle.gl_snapshot_body.specs.Body.{no_body}
use Rattle.gl_audit.specs.Committed.{Held}
use Rattle.gl_store.proofs.KeptEntries.{held-cut, kept-cut, none_below}
use Rattle.gl_store.proofs.store.Store.cut.Goals as goal

pub cut-requires-clause-from_base : goal.cut-requires-clause-from_base
cut-requires-clause-from_base c = λ body s. let none = none_below c.self.inside.tail _ body c.self.invariant s in omega (arith, none)

pub cut-requires-clause-within : goal.cut-requires-clause-within
cut-requires-clause-within c = λ body s.
    let within : c.args.to ≤ length c.self.inside.tail.entries = subst (λ (h : Held). c.args.to ≤ length h.ledger) (sym c.self.view_is) c.requires.within in
    omega (arith, within)

pub invariant_of-self : goal.invariant_of-self
invariant_of-self c =
    let committed : c.self.inside.commit ≤ c.args.to = subst (λ (h : Held). h.commit ≤ c.args.to) (sym c.self.view_is) c.requires.committed in
    let within : c.args.to ≤ length c.self.inside.tail.entries = subst (λ (h : Held). c.args.to ≤ length h.ledger) (sym c.self.view_is) c.requires.within in
    kept-cut c.self.inside.tail c.cut.new.self c.self.inside.commit c.args.to c.self.invariant committed within (c.cut.ensures.entries no_body c.self.invariant.stands) (c.cut.ensures.stands no_body c.self.invariant.stands)

pub returns : goal.returns
returns c = held-cut c.self.inside.tail c.cut.new.self c.self.inside.commit c.args.to c.args.self.now c.self.view_is (c.cut.ensures.entries no_body c.self.invariant.stands)
