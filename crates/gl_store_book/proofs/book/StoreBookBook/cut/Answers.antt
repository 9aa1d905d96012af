use Rattle.std.proofs.Common.{max, ap, ◌∙◌}
use Rattle.gl_store_book.specs.BasedLedgers.{BasedLedger, body_of}
use Rattle.gl_store_book.specs.Stands.{NodeStore}
use Rattle.gl_store_book.proofs.BookTaken.{cuts}
use Rattle.gl_store_book.proofs.FilesAtHand.{at_hand_cut}
use Rattle.gl_store_book.proofs.book.StoreBookBook.cut.Goals as goal

pub returns-clause-becomes : goal.returns-clause-becomes
returns-clause-becomes c =
    let l = c.self.inside.ledger in
    let same = ap (λ (n : NodeStore). n.ledger) c.self.view_is in
    cuts c.args.self.now l same c.tail.ensures.valid c.args.to c.max-high.result (c.max-high.ensures ∙ ap (max c.args.to) (c.base.ensures.base (body_of l.snapshot) c.tail.ensures.stands)) c.requires.base
    (record { me = c.self.inside.me; key = c.self.inside.key; ledger = c.cut.new.self }) c.cut.new.self (ap (λ (n : NodeStore). record n { ledger = c.cut.new.self }) c.self.view_is) c.cut.ensures

pub returns-clause-snapshot : goal.returns-clause-snapshot
returns-clause-snapshot c = ap (λ (l : BasedLedger). l.snapshot) c.cut.ensures ∙ ap (λ (n : NodeStore). n.ledger.snapshot) c.self.view_is

pub invariant_of-self : goal.invariant_of-self
invariant_of-self c = at_hand_cut c.self.inside.ledger c.cut.new.self c.self.inside.at_hand c.drop_if_cut.new.at_hand c.max-high.result c.cut.ensures c.drop_if_cut.ensures c.self.invariant
