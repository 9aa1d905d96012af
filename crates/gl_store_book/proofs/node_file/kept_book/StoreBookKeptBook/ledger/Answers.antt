use Rattle.std.proofs.Common.{List, map, sym, subst, ◌∙◌}
use Rattle.gl_entry.specs.Entry.{frame_bytes}
use Rattle.gl_entry.specs.declared.entry.Entry.{Entry}
use Rattle.gl_node.specs.Frames.{EachGoesOn}
use Rattle.gl_store.specs.Tail.{StandsBehind}
use Rattle.gl_store_book.specs.BasedLedgers.{body_of}
use Rattle.gl_store_book.specs.Frames.{goes_on_ledger}
use Rattle.gl_store_book.specs.Stands.{NodeStore}
use Rattle.gl_store_book.proofs.FrameLaws.{follow_each}
use Rattle.gl_store_book.proofs.HeldLedgers.{has_ledger, holds_above}
use Rattle.gl_store_book.proofs.TakenIn.{taken_in}
use Rattle.gl_store_book.proofs.node_file.kept_book.StoreBookKeptBook.ledger.Goals as goal

pub returns-clause-follow : goal.returns-clause-follow
returns-clause-follow c =
    let l = c.self.inside.ledger in
    subst (λ (n : NodeStore). EachGoesOn goes_on_ledger n.ledger.snapshot (map frame_bytes c.entries.result.now)) c.self.view_is
    (subst (λ (es : List Entry). EachGoesOn goes_on_ledger l.snapshot (map frame_bytes es)) (sym (c.entries.ensures.entries ∙ c.tail.ensures.entries)) (follow_each l.snapshot l.entries c.tail.ensures.valid))

pub returns-clause-above : goal.returns-clause-above
returns-clause-above c = holds_above c.args.self.now

pub returns-clause-some : goal.returns-clause-some
returns-clause-some c = has_ledger c.args.self.now

pub returns-clause-taken_in : goal.returns-clause-taken_in
returns-clause-taken_in c =
    taken_in c.args.self.now c.tail.result.now (subst (λ (n : NodeStore). StandsBehind (body_of n.ledger.snapshot) c.tail.result.now) c.self.view_is c.tail.ensures.stands)
