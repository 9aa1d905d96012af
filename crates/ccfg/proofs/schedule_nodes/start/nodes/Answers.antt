use Rattle.std.proofs.Common.{◌≡◌, ◌<◌, ◌+◌, ℕ, suc, ◌∷◌, ◌++◌, length, length-append, slice_get, refl, sym, ap, subst, ◌∙◌, arith}
use Rattle.std.specs.Vec.Iter.{into_iter_items}
use Rattle.std.proofs.lemmas.Option.{slice_get_read}
use Rattle.gl_world.specs.AtStart.{held_at_start}
use Rattle.gl_world.specs.Group.{book_of}
use Rattle.gl_world.proofs.Starting.{suffix}
use Rattle.gl_store_book.specs.Stands.{Stands}
use Rattle.ccfg.proofs.schedule_nodes.start.nodes.Goals as goal

pub add_node-requires-clause-first : goal.add_node-requires-clause-first
add_node-requires-clause-first c =
    let s = c.args.settings.now in
    let books = c.in_ok-books.books.items in
    let some : 0 < length books = omega (arith, c.in_ok-books.ensures.books.count, c.requires.group.first) in
    c.me-first.ensures (book_of s) (held_at_start s 1) (c.in_ok-books.ensures.books.stand 0 c.index.result.now (slice_get_read books _ 0 _ refl some c.index.ensures))

pub add_node-requires-clause-book : goal.add_node-requires-clause-book
add_node-requires-clause-book c =
    let s = c.args.settings.now in
    let at = c.loop-book in
    let next : into_iter_items at.book-iterator ≡ c.in-Some.book ∷ into_iter_items c.next.new.self = c.in-Some.ensures.steps.0 in
    let all : at.yielded ++ c.in-Some.book ∷ into_iter_items c.next.new.self ≡ c.in_ok-books.books.items =
    ap (λ l. at.yielded ++ l) (sym next) ∙ at.invariant.0 ∙ c.into_iter-book-iterator.ensures.into_iter_gives.0 in
    subst (λ (k : ℕ). Stands c.in-Some.book (book_of s) (held_at_start s (suc k))) (sym at.invariant.2)
    (c.in_ok-books.ensures.books.stand (length at.yielded) c.in-Some.book
    (ap (λ l. slice_get l (length at.yielded)) (sym all) ∙ suffix at.yielded (into_iter_items c.next.new.self) c.in-Some.book))

pub returns-clause-nodes : goal.returns-clause-nodes
returns-clause-nodes c =
    let s = c.args.settings.now in
    let at = c.loop-book in
    let left : length (into_iter_items at.book-iterator) ≡ 0 = sym at.invariant.3 ∙ c.in-None.ensures.steps.0 in
    let all : at.yielded ++ into_iter_items at.book-iterator ≡ c.in_ok-books.books.items = at.invariant.0 ∙ c.into_iter-book-iterator.ensures.into_iter_gives.0 in
    let so_far : length at.nodes.items ≡ length at.yielded = at.invariant.2 in
    let books : length c.in_ok-books.books.items ≡ s.starting + s.joiners = c.in_ok-books.ensures.books.count in
    record {
      count = omega (arith, ap length all, length-append at.yielded (into_iter_items at.book-iterator), left, so_far, books);
      stand = at.invariant.1;
    }
