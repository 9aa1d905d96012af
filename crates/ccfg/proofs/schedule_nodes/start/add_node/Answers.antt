use Rattle.std.proofs.Common.{rules, ◌≡◌, ◌+◌, ℕ, suc, length, sym, subst}
use Rattle.gl_world.specs.AtStart.{held_at_start}
use Rattle.gl_world.specs.Group.{book_of}
use Rattle.gl_store_book.specs.Stands.{Stands}
use Rattle.ccfg.proofs.FileStarts.{one_begun}
use Rattle.ccfg.proofs.schedule_nodes.start.add_node.Goals as goal

pub returns-clause-begun : goal.returns-clause-begun
returns-clause-begun c =
    let number : c.len.result + 1 ≡ suc (length c.args.nodes.now.items) = search rules in
    one_begun c.args.settings.now c.args.nodes.now.items c.push.new.self.items c.in_ok-node.node (c.len.result + 1) c.requires.begun number c.in_ok-node.ensures c.in_ok-push.ensures.items

pub core_at_start-core-requires-clause-book : goal.core_at_start-core-requires-clause-book
core_at_start-core-requires-clause-book c =
    let number : c.len.result + 1 ≡ suc (length c.args.nodes.now.items) = search rules in
    subst (λ (k : ℕ). Stands c.args.book (book_of c.args.settings.now) (held_at_start c.args.settings.now k)) (sym number) c.requires.book
