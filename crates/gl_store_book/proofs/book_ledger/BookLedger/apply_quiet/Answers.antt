use Rattle.std.proofs.Common.{None, ◌≡◌}
use Rattle.gl_ledger.specs.Broken.{broken_over}
use Rattle.gl_ledger.specs.NodeKeys.{service_layers}
use Rattle.gl_audit.specs.Kept.{Breaks}
use Rattle.gl_store.proofs.Tails.{if_err, on_err, on_ok}
use Rattle.gl_store_book.proofs.TailLists.{applied_quiet, of_each, with_more, with_same}
use Rattle.gl_store_book.proofs.book_ledger.BookLedger.apply_quiet.Goals as goal

pub invariant_of-self : goal.invariant_of-self
invariant_of-self c =
    applied_quiet _ c.self.inside.tail c.self.inside.lists c.self.invariant c.apply.new.self c.args.entry c.apply.result c.requires.quiet c.apply.ensures.grown c.apply.ensures.err

pub returns-clause-unbroken : goal.returns-clause-unbroken
returns-clause-unbroken c =
    on_ok c.apply.result
    (λ each. of_each _ c.self.inside.tail c.self.inside.lists c.args.self.now c.self.invariant c.self.view_is (λ b es. broken_over service_layers b es c.args.entry ≡ None) each)
    c.apply.ensures.unbroken

pub returns-clause-grown : goal.returns-clause-grown
returns-clause-grown c =
    on_ok c.apply.result (λ grown. with_more _ c.self.inside.tail c.args.self.now c.args.entry c.apply.new.self.entries c.self.view_is grown.entries) c.apply.ensures.grown

pub returns-clause-refused : goal.returns-clause-refused
returns-clause-refused c =
    if_err c.apply.result
    (λ e each. of_each _ c.self.inside.tail c.self.inside.lists c.args.self.now c.self.invariant c.self.view_is (λ b es. Breaks (broken_over service_layers b es c.args.entry) e) each)
    c.apply.ensures.refused

pub returns-clause-err : goal.returns-clause-err
returns-clause-err c =
    on_err c.apply.result (λ still. with_same _ c.self.inside.tail c.args.self.now c.apply.new.self.entries c.self.view_is still.entries) c.apply.ensures.err
