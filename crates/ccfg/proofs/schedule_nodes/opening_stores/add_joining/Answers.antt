use Rattle.std.proofs.Common.{ℕ, List, [], ap, ◌∙◌}
use Rattle.sha2.specs.Sha256.{sha256}
use Rattle.gl_store_book.specs.Stands.{whole_store}
use Rattle.ccfg.proofs.Openings.{one_joined}
use Rattle.ccfg.proofs.schedule_nodes.opening_stores.add_joining.Goals as goal

pub returns-clause-joining : goal.returns-clause-joining
returns-clause-joining c =
    one_joined c.args.settings.now c.args.books.now.items c.push.new.self.items c.args.node c.in_ok-book.book c.requires.joining c.requires.node
    (c.in_ok-book.ensures.holds
    ∙ ap (λ (m : List ℕ). whole_store m c.args.node.key []) (c.digest-me.ensures ∙ ap sha256 c.public.ensures.bytes))
    c.in_ok-push.ensures.items
