use Rattle.std.proofs.Common.{None, ◌≡◌}
use Rattle.gl_ledger.specs.Broken.{broken_over}
use Rattle.gl_ledger.specs.NodeKeys.{service_layers}
use Rattle.gl_store.proofs.Tails.{on_err, on_ok}
use Rattle.gl_store_book.proofs.TailLists.{pushed_quiet, to_kept, with_more, with_same}
use Rattle.gl_store_book.proofs.book_ledger.BookLedger.push_quiet.Goals as goal

pub push-requires : goal.push-requires
push-requires c = record {
  unbroken = (
    _,
    c.self.invariant.stands,
    to_kept _ c.self.inside.tail c.self.inside.lists c.args.self.now c.self.invariant c.self.view_is (λ b es. broken_over service_layers b es c.args.entry ≡ None) c.requires.unbroken,
  );
}

pub invariant_of-self : goal.invariant_of-self
invariant_of-self c =
    pushed_quiet _ c.self.inside.tail c.self.inside.lists c.self.invariant c.push.new.self c.args.entry c.push.result c.requires.quiet
    (to_kept _ c.self.inside.tail c.self.inside.lists c.args.self.now c.self.invariant c.self.view_is (λ b es. broken_over service_layers b es c.args.entry ≡ None) c.requires.unbroken)
    c.push.ensures.grown c.push.ensures.stands c.push.ensures.err

pub returns-clause-grown : goal.returns-clause-grown
returns-clause-grown c =
    on_ok c.push.result (λ grown. with_more _ c.self.inside.tail c.args.self.now c.args.entry c.push.new.self.entries c.self.view_is grown) c.push.ensures.grown

pub returns-clause-err : goal.returns-clause-err
returns-clause-err c =
    on_err c.push.result (λ still. with_same _ c.self.inside.tail c.args.self.now c.push.new.self.entries c.self.view_is still.entries) c.push.ensures.err
