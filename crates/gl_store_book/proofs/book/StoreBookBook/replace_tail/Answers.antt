use Rattle.std.proofs.Common.{max, ap, ◌∙◌}
use Rattle.gl_replication.proofs.Rows.{if_err, if_ok}
use Rattle.gl_store_book.specs.BasedLedgers.{body_of}
use Rattle.gl_store_book.specs.Stands.{NodeStore}
use Rattle.gl_store_book.proofs.BookTaken.{kept_snapshot, replaces, replaces_not}
use Rattle.gl_store_book.proofs.FilesAtHand.{at_hand_replaced}
use Rattle.gl_store_book.proofs.book.StoreBookBook.replace_tail.Goals as goal

pub returns-clause-replaced : goal.returns-clause-replaced
returns-clause-replaced c =
    let l = c.self.inside.ledger in
    let same = ap (λ (n : NodeStore). n.ledger) c.self.view_is in
    let high = c.max-high.ensures ∙ ap (max c.args.seqno) (c.base.ensures.base (body_of l.snapshot) c.tail.ensures.stands) in
    if_ok c.replace_tail.result
    (λ r h. replaces c.args.self.now l same c.tail.ensures.valid c.args.seqno c.max-high.result high c.requires.base (record { me = c.self.inside.me; key = c.self.inside.key; ledger = c.replace_tail.new.self })
    c.replace_tail.new.self c.args.entries.now (ap (λ (n : NodeStore). record n { ledger = c.replace_tail.new.self }) c.self.view_is) h)
    c.replace_tail.ensures.replaced

pub returns-clause-refused : goal.returns-clause-refused
returns-clause-refused c =
    let l = c.self.inside.ledger in
    let same = ap (λ (n : NodeStore). n.ledger) c.self.view_is in
    let high = c.max-high.ensures ∙ ap (max c.args.seqno) (c.base.ensures.base (body_of l.snapshot) c.tail.ensures.stands) in
    if_err c.replace_tail.result
    (λ e h. replaces_not c.args.self.now l same c.tail.ensures.valid c.args.seqno c.max-high.result high c.requires.base e c.args.entries.now h)
    c.replace_tail.ensures.refused

pub returns-clause-snapshot : goal.returns-clause-snapshot
returns-clause-snapshot c =
    kept_snapshot c.replace_tail.result c.self.inside.ledger c.replace_tail.new.self c.max-high.result c.args.entries.now c.replace_tail.ensures.replaced c.replace_tail.ensures.err
    ∙ ap (λ (n : NodeStore). n.ledger.snapshot) c.self.view_is

pub invariant_of-self : goal.invariant_of-self
invariant_of-self c =
    at_hand_replaced c.self.inside.ledger c.replace_tail.new.self c.self.inside.at_hand c.drop_if_cut.new.at_hand c.max-high.result c.args.entries.now c.replace_tail.result c.replace_tail.ensures.replaced
    c.replace_tail.ensures.err c.drop_if_cut.ensures c.self.invariant
