use Rattle.std.proofs.Common.{◌≡◌, ◌≤◌, ap, ◌∙◌, arith}
use Rattle.std.proofs.lemmas.Bool.Decides.{nat_tests}
use Rattle.gl_base.specs.TxId.{last_seqno}
use Rattle.gl_ledger_base.specs.BookOver.{signature_over}
use Rattle.gl_store_book.specs.BasedLedgers.{body_of, len_of}
use Rattle.gl_store_book.specs.Stands.{NodeStore}
use Rattle.gl_store_book.proofs.BookSigned.{signs_full}
use Rattle.gl_store_book.proofs.store_book.StoreBook.refusal_to_sign.Goals as goal

pub returns-in_default-clause-refused : goal.returns-in_default-clause-refused
returns-in_default-clause-refused c = λ keys leaf view commit.
    let node = c.args.self.now in
    let l = node.ledger in
    let len : c.len.result ≡ len_of l = c.len.ensures.len ∙ ap (λ (n : NodeStore). len_of n.ledger) c.self.view_is in
    let is = c.if-len-ge-LAST_SEQNO.true in
    let full : last_seqno ≤ c.len.result = grind (arith, nat_tests, is) in
    signs_full l node.me (signature_over keys (body_of l.snapshot) l.entries node.me leaf view commit) view commit (omega (arith, full, len)) (omega (arith, full, len))
