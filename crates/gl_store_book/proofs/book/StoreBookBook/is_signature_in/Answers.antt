use Rattle.std.proofs.Common.{◌≡◌, ◌≤◌, ◌-◌, List, Option, Some, None, false, ◌==◌, sym, ap, ◌∙◌, arith}
use Rattle.gl_rules.specs.Log.{entry_at, is_signature_in}
use Rattle.gl_entry.specs.declared.entry.Entry.{Entry}
use Rattle.gl_store_book.specs.BasedLedgers.{body_of}
use Rattle.gl_store_book.specs.Stands.{NodeStore}
use Rattle.gl_store_book.proofs.AllLedgers.{book, held, reports, stands_with}
use Rattle.gl_store_book.proofs.BookTold.{base_told, behind_told, entries_shown, tail_shown}
use Rattle.gl_store_book.proofs.book.StoreBookBook.is_signature_in.Goals as goal

pub returns-then-seqno-base : goal.returns-then-seqno-base
returns-then-seqno-base c =
    let node = c.args.self.now in
    let l = c.self.inside.ledger in
    let t = c.tail-tail.result.now in
    let body = body_of node.ledger.snapshot in
    let same : l ≡ node.ledger = ap (λ (n : NodeStore). n.ledger) c.self.view_is in
    let shown = tail_shown l node.ledger t same c.tail-tail.ensures.entries c.tail-tail.ensures.stands in
    let some = c.if-seqno-eq0.false in
    let at = c.if-seqno-base.true in
    let base = c.base.ensures.base body shown in
    reports node (λ b h. h.base ≤ c.args.seqno → (c.view_at.result == c.args.view) ≡ is_signature_in b c.args.view (entry_at h.log c.args.seqno)) (λ keys has log spelled holds low.
    base_told keys body node.ledger.entries log holds (omega (arith, some, at, base)) c.args.seqno c.args.view c.view_at.result (at ∙ base)
    (c.view_at.ensures (book keys) (held node log) (stands_with keys node log has spelled holds)))

pub returns-in-None : goal.returns-in-None
returns-in-None c =
    let node = c.args.self.now in
    let l = c.self.inside.ledger in
    let t = c.tail-tail.result.now in
    let body = body_of node.ledger.snapshot in
    let same : l ≡ node.ledger = ap (λ (n : NodeStore). n.ledger) c.self.view_is in
    let shown = tail_shown l node.ledger t same c.tail-tail.ensures.entries c.tail-tail.ensures.stands in
    let all = entries_shown l node.ledger t same c.tail-tail.ensures.entries c.tail-tail.ensures.stands in
    let found : None ≡ entry_at node.ledger.entries (c.args.seqno - body.base) = c.in-None.ensures.entry body shown ∙ ap (λ (es : List Entry). entry_at es (c.args.seqno - body.base)) all in
    let base = c.base.ensures.base body shown in
    let other = c.if-seqno-base.false in
    reports node (λ b h. h.base ≤ c.args.seqno → false ≡ is_signature_in b c.args.view (entry_at h.log c.args.seqno)) (λ keys has log spelled holds low.
    ap (λ (o : Option Entry). is_signature_in (book keys) c.args.view o) found
    ∙ behind_told keys body node.ledger.entries log holds c.args.seqno c.args.view low (λ some at. other (at ∙ sym base)))

pub returns-in-Some : goal.returns-in-Some
returns-in-Some c =
    let node = c.args.self.now in
    let l = c.self.inside.ledger in
    let t = c.tail-tail.result.now in
    let body = body_of node.ledger.snapshot in
    let same : l ≡ node.ledger = ap (λ (n : NodeStore). n.ledger) c.self.view_is in
    let shown = tail_shown l node.ledger t same c.tail-tail.ensures.entries c.tail-tail.ensures.stands in
    let all = entries_shown l node.ledger t same c.tail-tail.ensures.entries c.tail-tail.ensures.stands in
    let found : Some c.in-Some.entry.now ≡ entry_at node.ledger.entries (c.args.seqno - body.base) = c.in-Some.ensures.entry body shown ∙ ap (λ (es : List Entry). entry_at es (c.args.seqno - body.base)) all in
    let base = c.base.ensures.base body shown in
    let other = c.if-seqno-base.false in
    reports node (λ b h. h.base ≤ c.args.seqno → c.is_signature_of.result ≡ is_signature_in b c.args.view (entry_at h.log c.args.seqno)) (λ keys has log spelled holds low.
    c.is_signature_of.ensures
    ∙ ap (λ (o : Option Entry). is_signature_in (book keys) c.args.view o) found
    ∙ behind_told keys body node.ledger.entries log holds c.args.seqno c.args.view low (λ some at. other (at ∙ sym base)))
